-- The circuit that compile leaves of a tree, as a tick is lent it, and when there is room for it. Definitions only.
use Prim.Native.Nat.{ℕ, ◌+◌, ◌*◌, ◌≤◌}
use Rattle.tree.specs.Forest.{Forest, preorder, counts}
use Rattle.wire.specs.Terms.{Affine}
use Rattle.wire.specs.Storage.{ops_from, op_biases_from}
use Rattle.construct_floats.specs.Floats.{floats}
use Rattle.construct.specs.Circuit.{Circuit, op_count, term_count}
use Rattle.compile.specs.Encode.{nums_of, biases_in, wires_of, coefs_of}
use Rattle.compile.specs.Compile.{Lent, circuit_of, lists_of, counts_of}
use Rattle.tick_check.specs.Check.{Stored, stored}

-- the circuit of a tree, with f32 coefficients
abbrev pub tree_circuit : Forest ℕ → Circuit Affine
tree_circuit f = circuit_of (preorder f) (counts f)

-- where it stands after compile, whatever the lengths lent
abbrev pub stored_of : Lent → Forest ℕ → Stored
stored_of l f =
    let c = tree_circuit f in
    stored (counts_of (preorder f) c) (nums_of l.nums (lists_of (preorder f) (counts f)) c) (biases_in l.biases c) (wires_of l.wires c) (coefs_of l.coefs c)

-- the fixed parts are whole, and there are slots for the ops and the terms
pub record Slots (l : Lent) (c : Circuit Affine) : Type 0 where
  pub in_nums : ops_from + 5 * op_count c ≤ l.nums
  pub in_biases : op_biases_from + 2 * op_count c ≤ l.biases
  pub in_wires : term_count floats c ≤ l.wires
  pub in_coefs : term_count floats c ≤ l.coefs
