-- Building asks for at most 2,163 op slots.
use Prim.Native.Nat.{◌*◌, ◌+◌, ◌≤◌, suc, ℕ}
use native.Mathlib.Omega.{arith}
use mathlib.Core.List.{List, [], ◌++◌, ◌∷◌}
use mathlib.Core.Path.{◌≡◌}
use Rattle.construct.specs.Circuit.{flats}
use Rattle.construct.specs.Lower.{Flat, flat_of}
use Rattle.construct_means.proofs.Same.{cells_is, flats_are, nodes_of}
use Rattle.construct_means.proofs.Sizes.{sizes}
use Rattle.tree.specs.Forest.{Forest, counts, node, none, preorder, size, width}
use Rattle.lower_room.proofs.Uses.{down_more, kids_of, ops_use, up_more}
use Rattle.walk.specs.Kind.{Composite, Constant, Force, Inverter, Kind, Leaf, kind_of}
use Rattle.walk.specs.Walk.{cells_in}

kids_most : (k : Kind) (n : ℕ) → kids_of (flat_of k n) ≤ n
kids_most Leaf n = omega arith
kids_most (Constant b) n = omega arith
kids_most Inverter n = omega arith
kids_most (Force b) n = omega arith
kids_most (Composite m q) n = omega arith

up_append : (ms ns : List Flat) → up_more (ms ++ ns) ≡ up_more ms + up_more ns
unfolding up_more
up_append [] ns = omega arith
up_append (m ∷ ms) ns = omega (arith, up_append ms ns)

down_append : (ms ns : List Flat) → down_more (ms ++ ns) ≡ down_more ms + down_more ns
unfolding down_more
down_append [] ns = omega arith
down_append (m ∷ ms) ns = omega (arith, down_append ms ns)

-- every node is a child of one node at most
up_most : (f : Forest ℕ) → up_more (nodes_of f) + 8 * width f ≤ 8 * size f
unfolding up_more nodes_of
up_most none = omega arith
up_most (node k kids rest) = omega (arith, up_append (nodes_of kids) (nodes_of rest), up_most kids, up_most rest, kids_most (kind_of k) (width kids))

down_most : (f : Forest ℕ) → down_more (nodes_of f) + 3 * width f ≤ 5 * size f + 2 * cells_in f
unfolding down_more nodes_of
down_most none = omega arith
down_most (node k kids rest) =
    omega (arith, down_append (nodes_of kids) (nodes_of rest), down_most kids, down_most rest, kids_most (kind_of k) (width kids), cells_is (kind_of k) (width kids) 0)

-- all of a tree's nodes but the root are children
pub kids_room : (f : Forest ℕ) → up_more (flats (preorder f) (counts f)) + 8 * width f ≤ 8 * size f
kids_room f = rw (flats_are f) (up_most f)

-- a tree of at most 128 nodes, one of them with no cursor
pub ops_room : (f : Forest ℕ) → width f ≡ 1 → size f ≤ 128 → suc (cells_in f) ≤ size f → ops_use (flats (preorder f) (counts f)) ≤ 2163
ops_room f one few plain = rw (flats_are f) (omega (arith, up_most f, down_most f, rw (flats_are f) at (sizes f).nodes))
