-- `wire_pool::sum` meets its contract.
use native.Mathlib.Omega.{arith}
use mathlib.Core.Path.{sym, ◌∙◌}
use Rattle.wire_pool.proofs.Sums.{rest_next, rest_last}
use Rattle.wire_pool.proofs.sum.Goals as goal

pub loop-at-preserved : goal.loop-at-preserved
loop-at-preserved c = rw c.position.ensures (rest_next _ _ _ c.args.f _ _ (omega arith) ∙ c.loop-at.invariant)

pub returns : goal.returns
returns c = sym (rest_last _ _ _ c.args.f _ _ (omega arith)) ∙ c.loop-at.invariant
