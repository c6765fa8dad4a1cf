-- `wire_eval::first_bad` meets its contract.
use native.Mathlib.Omega.{arith}
use mathlib.Core.Path.{◌∙◌, sym}
use Rattle.wire_eval.specs.Evaluation.{first_bad}
use Rattle.wire_eval.proofs.Running.{first_found}
use Rattle.wire_eval.proofs.first_bad.Goals as goal

pub returns-then-not-can_value : goal.returns-then-not-can_value
unfolding first_bad
returns-then-not-can_value c = first_found _ _ _ (omega arith) c.loop-i.invariant (λ l. sym c.can_value.ensures ∙ c.if-not-can_value.true)

pub returns : goal.returns
unfolding first_bad
returns c =
    let ops = c.args.circuit.now.counts.ops in
    first_found _ ops ops (omega arith) (λ k h. c.loop-i.invariant k (omega arith)) (λ l. absurd (omega arith))
