-- The flag is the test of the coefficients so far.
use Rattle.std.proofs.Common.{◌≡◌}
use Rattle.tick_check.specs.Parts.{coefs_ok}
use Rattle.tick_check.proofs.coefs_ok.Given as goal

abbrev pub invariant-loop-x : goal.invariant-loop-x
invariant-loop-x l = l.ok ≡ coefs_ok l.coefs l.x-index
