-- `exact::is_coefficient` meets its contract.
use native.Mathlib.Omega.{arith}
use lib.Ieee.{ne}
use Rattle.exact.specs.Tests.{coefficient}
use Rattle.exact.proofs.is_coefficient.Goals as goal

pub returns : goal.returns
unfolding coefficient ne
returns c = grind arith
