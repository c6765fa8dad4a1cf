-- One op that fails decides.
use Rattle.std.proofs.Common.{sym, ◌∙◌}
use Rattle.lists.proofs.Tests.{all_fails}
use Rattle.tick_check.specs.Parts.{ops_range}
use Rattle.tick_check.proofs.ops_ok.Goals as goal

pub returns-then-not-op_ok : goal.returns-then-not-op_ok
unfolding ops_range
returns-then-not-op_ok c = all_fails _ c.loop-i.i _ c.loop-i-test.true (sym c.op_ok.ensures ∙ c.if-not-op_ok.true)
