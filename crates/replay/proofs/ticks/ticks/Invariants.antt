-- Each tick takes lines from what is left of the text.
use Rattle.std.proofs.Common.{◌≤◌, length}
use Rattle.replay.proofs.ticks.ticks.Given as goal

abbrev pub invariant-loop-first : goal.invariant-loop-first
invariant-loop-first l = length l.lines.rest.now ≤ length l.initial.lines.rest.now

abbrev pub decreases-loop-first : goal.decreases-loop-first
decreases-loop-first l = length l.lines.rest.now
