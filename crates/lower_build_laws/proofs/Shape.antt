-- A forest whose nodes document 01 accepts, as the construction and the passes ask for it.
use Prim.Native.Nat.{ℕ, ◌+◌, ◌*◌, ◌≤◌}
use native.Mathlib.Omega.{arith}
use mathlib.Core.Bool.{Bool, true, false}
use mathlib.Core.List.{List, [], ◌++◌, ◌∷◌, append_assoc, append-nil}
use mathlib.Core.Path.{◌≡◌, ◌∙◌, ap, refl, subst, sym}
use Rattle.lower_build_laws.proofs.Family.{fits}
use Rattle.construct.specs.Circuit.{flats}
use Rattle.construct.specs.Lower.{Flat}
use Rattle.lower_room.proofs.Slots.{kids_room}
use Rattle.construct_means.proofs.Same.{flats_are, nodes_of}
use Rattle.lower_ordered_laws.proofs.Passes.{Sound, roots, rows_in}
use Rattle.tree.specs.Bytes.{Lowered}
use Rattle.tree.specs.Forest.{Forest, counts, node, none, preorder, size, width}
use Rattle.lower_room.proofs.Uses.{up_more}
use Rattle.walk.specs.Kind.{Kind, bit, kind_of}
use Rattle.walk.specs.Walk.{cells_in, count_in}

-- the nodes of a forest, before others
roots_before : (f : Forest ℕ) (ns : List Flat) → Lowered f → roots (nodes_of f ++ ns) ≡ width f + roots ns
unfolding nodes_of roots
roots_before none ns ok = omega arith
roots_before (node k kids rest) ns ok =
    let inner : roots ((nodes_of kids ++ nodes_of rest) ++ ns) ≡ width kids + (width rest + roots ns)
    = ap roots (append_assoc (nodes_of kids) (nodes_of rest) ns) ∙ roots_before kids (nodes_of rest ++ ns) ok.1 ∙ ap (λ (n : ℕ). width kids + n) (roots_before rest ns ok.2) in
    omega (arith, inner, (fits k (width kids) ok.0).takes_all)

sound_before : (f : Forest ℕ) (ns : List Flat) → Lowered f → Sound ns → Sound (nodes_of f ++ ns)
unfolding nodes_of Sound
sound_before none ns ok h = h
sound_before (node k kids rest) ns ok h =
    let own = fits k (width kids) ok.0 in
    let all = append_assoc (nodes_of kids) (nodes_of rest) ns in
    let inner : roots ((nodes_of kids ++ nodes_of rest) ++ ns) ≡ width kids + roots (nodes_of rest ++ ns) = ap roots all ∙ roots_before kids (nodes_of rest ++ ns) ok.1 in
    (omega (arith, inner, own.takes_all), own.childed, subst Sound (sym all) (sound_before kids (nodes_of rest ++ ns) ok.1 (sound_before rest ns ok.2 h)))

pub roots_are : (f : Forest ℕ) → Lowered f → roots (flats (preorder f) (counts f)) ≡ width f
unfolding roots
roots_are f ok = ap roots (flats_are f ∙ sym (append-nil (nodes_of f))) ∙ roots_before f [] ok ∙ omega arith

pub sound : (f : Forest ℕ) → Lowered f → Sound (flats (preorder f) (counts f))
unfolding Sound
sound f ok = subst Sound (append-nil (nodes_of f) ∙ sym (flats_are f)) (sound_before f [] ok tt)

-- each tree has a node with no cursor, since a composite has a child
pub cells_below : (f : Forest ℕ) → Lowered f → cells_in f + width f ≤ size f
cells_below none ok = omega arith
cells_below (node k kids rest) ok = omega (arith, (fits k (width kids) ok.0).below, cells_below kids ok.1, cells_below rest ok.2)

bit_most : (b : Bool) → bit b ≤ 1
bit_most true = omega arith
bit_most false = omega arith

pub count_most : (has : Kind → Bool) (f : Forest ℕ) → count_in has f ≤ size f
count_most has none = omega arith
count_most has (node k kids rest) = omega (arith, bit_most (has (kind_of k)), count_most has kids, count_most has rest)

-- the children's rows
rows_are : (ns : List Flat) → up_more ns ≡ 8 * rows_in ns
unfolding up_more rows_in
rows_are [] = refl
rows_are (n ∷ ns) = omega (arith, rows_are ns)

pub rows_few : (f : Forest ℕ) → width f ≡ 1 → size f ≤ 128 → rows_in (flats (preorder f) (counts f)) ≤ 127
rows_few f one few = omega (arith, rows_are (flats (preorder f) (counts f)), kids_room f)
