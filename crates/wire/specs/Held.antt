-- That lent storage holds what the counts say, as inequalities. Inner: what functions behind the check ask; nobody need believe it.
use Rattle.std.specs.Prelude.{ℕ, ◌+◌, ◌*◌, ◌≤◌}
use Rattle.wire.specs.declared.Counts.{Counts}
use Rattle.wire.specs.Storage.{ops_from, op_biases_from}

pub record Held (n : Counts) (nums biases wires coefs : ℕ) : Type 0 where
  pub in_nums : ops_from + 5 * n.ops ≤ nums
  pub in_biases : op_biases_from + 2 * n.ops ≤ biases
  pub in_wires : n.terms ≤ wires
  pub in_coefs : n.terms ≤ coefs
