-- The flag is the test of the biases so far.
use Rattle.std.proofs.Common.{◌≡◌}
use Rattle.tick_check.specs.Parts.{biases_ok}
use Rattle.tick_check.proofs.biases_ok.Given as goal

abbrev pub invariant-loop-x : goal.invariant-loop-x
invariant-loop-x l = l.ok ≡ biases_ok l.biases 0 l.x-index
