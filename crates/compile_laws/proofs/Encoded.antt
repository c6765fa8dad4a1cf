-- The circuit that an encoding is to mean, and when there is room for it. Definitions only.
use Prim.Native.Nat.{ℕ, ◌+◌, ◌*◌, ◌≤◌}
use mathlib.Core.Path.{◌≡◌}
use mathlib.Core.List.{map}
use lib.ListN.{length}
use Rattle.wire.specs.declared.Counts.{Counts}
use Rattle.wire.specs.Terms.{Affine}
use Rattle.wire.specs.Storage as W
use Rattle.construct.specs.Builder.{Op}
use Rattle.construct.specs.Circuit.{Circuit, forms_of}
use Rattle.compile.specs.Encode.{Lists, outputs_in, terms_of_all}

-- the construction makes no other op
abbrev pub op_in : Op Affine → W.Op
op_in o = W.reglu o.left o.gate

-- the circuit with a plan's lists, as storage means one
abbrev pub meant : Counts → Lists → Circuit Affine → W.Circuit
meant n p c = record { counts = n; leaves = p.leaves; cursors = p.cursors; report = p.report; ops = map op_in c.ops; outputs = outputs_in c }

-- the counts are those of the lists and the circuit, which fit into the fixed parts and the slots
pub record Fits (n : Counts) (p : Lists) (c : Circuit Affine) (nums biases wires coefs : ℕ) : Type 0 where
  pub leaves : length p.leaves ≡ n.leaves
  pub cursors : length p.cursors ≡ n.cursors
  pub report : length p.report ≡ n.nodes
  pub ops : length c.ops ≡ n.ops
  pub outputs : length (outputs_in c) ≡ W.output_count n
  pub terms : length (terms_of_all (forms_of c)) ≡ n.terms
  pub few_leaves : n.leaves ≤ 128
  pub few_cursors : n.cursors ≤ 128
  pub few_nodes : n.nodes ≤ 128
  pub in_nums : W.ops_from + 5 * n.ops ≤ nums
  pub in_biases : W.op_biases_from + 2 * n.ops ≤ biases
  pub in_wires : n.terms ≤ wires
  pub in_coefs : n.terms ≤ coefs
