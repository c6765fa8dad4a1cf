-- The nodes that the construction is given have the tree's size, cursor cells and leaf slots.
use Prim.Native.Nat.{◌+◌, ℕ}
use native.Mathlib.Omega.{arith}
use mathlib.Core.List.{List, [], ◌++◌, append_assoc, append-nil}
use mathlib.Core.Path.{◌∙◌, ◌≡◌, ap, refl}
use lib.ListN.{length, length-append}
use Rattle.construct.specs.Circuit.{cell_end, flats, slot_end}
use Rattle.construct.specs.Lower.{Flat}
use Rattle.construct_means.proofs.Same.{cells_is, flats_are, nodes_of, slots_is}
use Rattle.tree.specs.Forest.{Forest, counts, node, none, preorder, size, width}
use Rattle.walk.specs.Kind.{cells, kind_of, slots}
use Rattle.walk.specs.Walk.{cells_in, slots_in}

-- a tree's nodes have its size, cursor cells and leaf slots
nodes_length : (f : Forest ℕ) → length (nodes_of f) ≡ size f
unfolding nodes_of
nodes_length none = refl
nodes_length (node k kids rest) = simp length-append (omega (arith, nodes_length kids, nodes_length rest))

cells_append : (c : ℕ) (f : Forest ℕ) (ys : List Flat) → cell_end c (nodes_of f ++ ys) ≡ cell_end (c + cells_in f) ys
unfolding nodes_of cell_end
cells_append c none ys = let e : c ≡ c + 0 = omega arith in λ i. cell_end (e i) ys
cells_append c (node k kids rest) ys =
    let e : c + cells (kind_of k) + cells_in kids + cells_in rest ≡ c + (cells (kind_of k) + cells_in kids + cells_in rest) = omega arith in
    (λ i. cell_end (cells_is (kind_of k) (width kids) c i) ((nodes_of kids ++ nodes_of rest) ++ ys))
    ∙ ap (λ (l : List Flat). cell_end (c + cells (kind_of k)) l) (append_assoc (nodes_of kids) (nodes_of rest) ys)
    ∙ cells_append (c + cells (kind_of k)) kids (nodes_of rest ++ ys)
    ∙ cells_append (c + cells (kind_of k) + cells_in kids) rest ys
    ∙ (λ i. cell_end (e i) ys)

slots_append : (s : ℕ) (f : Forest ℕ) (ys : List Flat) → slot_end s (nodes_of f ++ ys) ≡ slot_end (s + slots_in f) ys
unfolding nodes_of slot_end
slots_append s none ys = let e : s ≡ s + 0 = omega arith in λ i. slot_end (e i) ys
slots_append s (node k kids rest) ys =
    let e : s + slots (kind_of k) + slots_in kids + slots_in rest ≡ s + (slots (kind_of k) + slots_in kids + slots_in rest) = omega arith in
    (λ i. slot_end (slots_is (kind_of k) (width kids) s i) ((nodes_of kids ++ nodes_of rest) ++ ys))
    ∙ ap (λ (l : List Flat). slot_end (s + slots (kind_of k)) l) (append_assoc (nodes_of kids) (nodes_of rest) ys)
    ∙ slots_append (s + slots (kind_of k)) kids (nodes_of rest ++ ys)
    ∙ slots_append (s + slots (kind_of k) + slots_in kids) rest ys
    ∙ (λ i. slot_end (e i) ys)

pub record Sizes (f : Forest ℕ) : Type 0 where
  pub nodes : length (flats (preorder f) (counts f)) ≡ size f
  pub cells : cell_end 0 (flats (preorder f) (counts f)) ≡ cells_in f
  pub slots : slot_end 0 (flats (preorder f) (counts f)) ≡ slots_in f

pub sizes : (f : Forest ℕ) → Sizes f
unfolding cell_end slot_end
sizes f = record {
  nodes = rw (flats_are f) (nodes_length f);
  cells = rw (flats_are f) (rw (append-nil (nodes_of f)) at (cells_append 0 f []) ∙ omega arith);
  slots = rw (flats_are f) (rw (append-nil (nodes_of f)) at (slots_append 0 f []) ∙ omega arith);
}
