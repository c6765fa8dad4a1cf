-- Each case takes lines from what is left of the text.
use Rattle.std.specs.Prelude.{⊤}
use Rattle.std.proofs.Common.{length}
use Rattle.replay.proofs.cases_of.Given as goal

abbrev pub invariant-loop-line : goal.invariant-loop-line
invariant-loop-line l = ⊤

abbrev pub decreases-loop-line : goal.decreases-loop-line
decreases-loop-line l = length l.lines.rest.now
