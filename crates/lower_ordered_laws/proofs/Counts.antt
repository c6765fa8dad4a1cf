-- Trees, rows and cells of a list of nodes are no more than its nodes.
use Prim.Native.Nat.{◌+◌, ◌≤◌}
use native.Mathlib.Omega.{arith}
use mathlib.Core.List.{List, [], ◌∷◌}
use lib.ListN.{length}
use Rattle.construct.specs.Lower.{Flat, leaf, fixed, invert, force, ordered}
use Rattle.lower_room.proofs.Uses.{kids_of}
use Rattle.lower_ordered_laws.proofs.Passes.{takes, roots, Sound, rows_in}

pub kids_taken : (n : Flat) → kids_of n ≤ takes n
kids_taken leaf = omega arith
kids_taken (fixed b) = omega arith
kids_taken invert = omega arith
kids_taken (force b) = omega arith
kids_taken (ordered m q n) = omega arith

-- each child is one of the nodes, and so is each root
pub rows_most : (ns : List Flat) → Sound ns → rows_in ns + roots ns ≤ length ns
unfolding roots rows_in Sound
rows_most [] s = omega arith
rows_most (n ∷ ns) s = let h = rows_most ns s.2 in let k = kids_taken n in omega (arith, s.0)
