-- `validate::validate`: past the first test the circuit has passed its check.
use Rattle.std.proofs.Common.{arith, sym, ◌∙◌}
use Rattle.tick_check.proofs.Checked.{checked}
use Rattle.tick_check.specs.Check.{stored_in}
use Rattle.validate.proofs.validate.Goals as goal

pub overflow_add-circuit : goal.overflow_add-circuit
overflow_add-circuit c =
    let k = checked (stored_in c.args.circuit.now) (sym c.is_circuit.ensures ∙ c.if-not-is_circuit.false) in
    omega arith

pub judge-requires-clause-checked : goal.judge-requires-clause-checked
judge-requires-clause-checked c = checked _ (sym c.is_circuit.ensures ∙ c.if-not-is_circuit.false)
