-- A tree's circuit with f32 coefficients is the one with whole coefficients, and so is its table of values.
use Prim.Native.Nat.{◌≤◌, ℕ}
use native.Mathlib.Omega.{arith}
use mathlib.Core.List.{List, [], ◌++◌, ◌∷◌}
use mathlib.Core.Path.{◌∙◌, ◌≡◌, ap}
use lib.Ieee.{low}
use lib.ListN.{length}
use Rattle.construct_faithful.proofs.Values.{numbers, same_table}
use Rattle.construct_faithful.proofs.Table.{float_table}
use Rattle.construct.proofs.Forms.{circuit_scoped}
use Rattle.construct.specs.Circuit.{Circuit, construct, flats, forms_of, op_forms, output_forms}
use Rattle.construct.specs.Lower.{Flat, flags}
use Rattle.construct.specs.Pairs.{Form, pairs}
use Rattle.construct.specs.Scope.{InOrder}
use Rattle.construct.specs.Value.{cell, table_of}
use Rattle.construct_faithful.proofs.Same.{faithful}
use Rattle.construct_faithful.proofs.Float.{float}
use Rattle.construct_floats.specs.Floats.{floats}
use Rattle.construct_instances.proofs.Circuit.{same_circuit}
use Rattle.construct_instances.proofs.Respects.{of_circuit}
use Rattle.construct_means.proofs.Circuit.{loaded_long}
use Rattle.construct_means.proofs.Sizes.{sizes}
use Rattle.construct_means.specs.Means.{Loaded, Shaped, circuit_of}
use Rattle.construct_sizes.proofs.Tree.{tree_exact, tree_modest}
use Rattle.construct_sizes.specs.Exact.{Products, Small, Sums}
use Rattle.tree.specs.Forest.{Forest, counts, preorder, size, width}
use Rattle.walk.specs.Kind.{kind_of}
use Rattle.lists.specs.Every.{All}
use Rattle.wire.specs.Terms.{Affine}

-- The circuit with f32 coefficients is that with whole coefficients, number by number.
pub same_floats : (ns : List Flat) → length ns ≤ 128 → construct floats ns ≡ of_circuit float (construct pairs ns)
same_floats ns few = same_circuit floats float faithful ns few

-- a fact of every form of a circuit is one of every op's forms
pub all_first : {X : Type 0} (R : X → Type 0) (xs ys : List X) → All R (xs ++ ys) → All R xs
all_first R [] ys h = tt
all_first R (x ∷ xs) ys h = (h.0, all_first R xs ys h.1)

of_ops_lem : (R : Form → Type 0) (c : Circuit Form) → All R (forms_of c) → All R (op_forms c.ops)
of_ops_lem R c h = all_first R (op_forms c.ops) (output_forms c.outputs ++ c.cursors) h

-- THE LAW, for the circuit with f32 coefficients of a tree, on the cells of any state and row
module _ (f : Forest ℕ) (shaped : Shaped kind_of f) (tree : width f ≡ 1) (few : size f ≤ 128) (flags cursors row ins : List ℕ) (loaded : Loaded f flags cursors row ins) (low : All (λ (v : ℕ). v ≤ 16777216) ins) where
  abbrev ns : List Flat
  ns = flats (preorder f) (counts f)

  short : length ns ≤ 128
  short = omega (arith, (sizes f).nodes)

  pub tree_table : float_table (numbers ins) (construct floats ns).ops ≡ numbers (table_of ins (circuit_of f).ops)
  tree_table =
      let c = circuit_of f in
      let x = tree_exact f shaped tree few flags cursors row ins loaded in
      let ρ = cell (table_of ins c.ops) in
      let order : InOrder (length ins) c.ops = rw (loaded_long f shaped tree flags cursors row ins loaded) (circuit_scoped ns).ops in
      ap (λ (k : Circuit Affine). float_table (numbers ins) k.ops) (same_floats ns short)
      ∙ same_table ins c.ops order low (of_ops_lem (Small 65536) c (tree_modest f few)) (of_ops_lem (Sums ρ) c x.sums) (of_ops_lem (λ (g : Form). Products ρ 16777216 g.terms) c x.products) x.ops
