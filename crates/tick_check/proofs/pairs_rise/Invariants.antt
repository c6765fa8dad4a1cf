-- The flag is the test of the pairs so far.
use Rattle.std.proofs.Common.{◌≡◌, ◌-◌}
use Rattle.tick_check.specs.Check.{pairs}
use Rattle.tick_check.proofs.pairs_rise.Given as goal

abbrev pub invariant-loop-i : goal.invariant-loop-i
invariant-loop-i l = l.ok ≡ pairs l.list 0 (l.i - 1)
