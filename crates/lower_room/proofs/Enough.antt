-- In floats building takes as much room as with whole coefficients: for a tree of at most 128 nodes 2^18 terms are enough.
use Prim.Native.Nat.{ℕ, ◌≤◌}
use native.Mathlib.Omega.{arith}
use mathlib.Core.List.{List}
use mathlib.Core.Path.{◌≡◌}
use lib.ListN.{length}
use Rattle.construct.specs.Circuit.{flats}
use Rattle.construct.specs.Lower.{Flat}
use Rattle.construct.specs.Pairs.{pairs}
use Rattle.lower_room.proofs.CountCircuit.{arena_room}
use Rattle.construct_faithful.proofs.Same.{faithful}
use Rattle.construct_faithful.proofs.Float.{float}
use Rattle.construct_floats.specs.Floats.{floats}
use Rattle.construct_means.proofs.Sizes.{sizes}
use Rattle.lower_room.proofs.RoomCircuit.{same_room}
use Rattle.tree.specs.Forest.{Forest, counts, preorder, size}
use Rattle.lower_room.proofs.Uses.{arena_use}

pub use_same : (ns : List Flat) → length ns ≤ 128 → arena_use floats ns ≡ arena_use pairs ns
use_same ns few = same_room floats float faithful ns few

pub room_enough : (f : Forest ℕ) → size f ≤ 128 → arena_use floats (flats (preorder f) (counts f)) ≤ 262144
room_enough f few =
    let ns = flats (preorder f) (counts f) in
    let short : length ns ≤ 128 = omega (arith, (sizes f).nodes) in
    omega (arith, use_same ns short, arena_room f few)
