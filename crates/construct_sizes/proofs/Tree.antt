-- The numbers of a tree's circuit are small.
use Prim.Native.Nat.{◌≤◌, ℕ}
use native.Mathlib.Omega.{arith}
use mathlib.Core.List.{List}
use mathlib.Core.Path.{◌≡◌}
use lib.ListN.{get_or}
use Rattle.construct.proofs.Table.{table_holds, table_sat}
use Rattle.construct.specs.Circuit.{flats, forms_of}
use Rattle.construct.specs.Lower.{flags}
use Rattle.construct.specs.Value.{cell, table_of}
use Rattle.construct_means.proofs.Circuit.{cursors_right, holds, loaded_long}
use Rattle.construct_means.proofs.Same.{state_of}
use Rattle.construct_means.proofs.Sizes.{sizes}
use Rattle.construct_means.specs.Means.{Loaded, Shaped, circuit_of, cursors_of}
use Rattle.construct_sizes.proofs.Circuit.{circuit_exact, circuit_modest}
use Rattle.construct_sizes.specs.Exact.{Exact, Small}
use Rattle.tree.specs.Forest.{Forest, counts, preorder, size, width}
use Rattle.walk.proofs.Laws.{cursors_low, read_low}
use Rattle.walk.specs.Kind.{kind_of}
use Rattle.lists.specs.Every.{All}
use Rattle.walk.specs.Walk.{answer_of, fates_of, walk}

-- coefficients and biases of the circuit of a tree of at most 128 nodes
pub tree_modest : (f : Forest ℕ) → size f ≤ 128 → All (Small 65536) (forms_of (circuit_of f))
tree_modest f few = circuit_modest (flats (preorder f) (counts f)) (omega (arith, (sizes f).nodes))

-- and its running sums, in the table that it makes of the cells of any state and row: so the table in floats is this one, value for value
module _ (f : Forest ℕ) (shaped : Shaped kind_of f) (tree : width f ≡ 1) (few : size f ≤ 128) (flags cursors row ins : List ℕ) (loaded : Loaded f flags cursors row ins) where
  pub tree_exact : Exact (cell (table_of ins (circuit_of f).ops)) (circuit_of f)
  unfolding walk answer_of
  tree_exact =
      let ns = flats (preorder f) (counts f) in
      let x = state_of flags cursors row in
      let h = holds f shaped tree flags cursors row ins loaded in
      let long = loaded_long f shaped tree flags cursors row ins loaded in
      circuit_exact ns (omega (arith, (sizes f).nodes)) x (λ c l. read_low (get_or cursors c 0)) (cell (table_of ins (circuit_of f).ops))
      (table_holds ns ins x long h) (table_sat ns ins x long h) (cursors_of (fates_of f flags cursors row)) (cursors_right f shaped tree flags cursors row ins loaded) low
    where
      low : All (λ (n : ℕ). n ≤ 65535) (cursors_of (fates_of f flags cursors row))
      low = cursors_low f flags cursors row (omega arith)
