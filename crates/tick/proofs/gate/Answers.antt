-- The ops have slots in storage, so that there are few.
use Rattle.std.proofs.Common.{sym, ◌∙◌, arith}
use Rattle.tick_check.specs.Check.{stored_in}
use Rattle.tick_check.proofs.Checked.{checked}
use Rattle.tick.proofs.gate.Goals as goal

pub overflow_add-counts : goal.overflow_add-counts
overflow_add-counts c =
    let k = checked (stored_in c.args.circuit.now) (sym c.is_circuit.ensures ∙ c.if-not-is_circuit.false) in
    omega arith
