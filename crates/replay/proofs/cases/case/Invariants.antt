-- Each line of bytes is taken from what is left of the text.
use Rattle.std.proofs.Common.{◌≤◌, length}
use Rattle.replay.proofs.cases.case.Given as goal

abbrev pub invariant-loop-more : goal.invariant-loop-more
invariant-loop-more l = length l.lines.rest.now ≤ length l.initial.lines.rest.now

abbrev pub decreases-loop-more : goal.decreases-loop-more
decreases-loop-more l = length l.lines.rest.now
