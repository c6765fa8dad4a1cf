-- `exact::is_bit` meets its contract.
use native.Mathlib.Omega.{arith}
use Rattle.exact.proofs.Tests.{bit_test}
use Rattle.exact.proofs.is_bit.Goals as goal

pub returns-then-x : goal.returns-then-x
returns-then-x c = grind (arith, bit_test c.args.x)

pub returns-else-x : goal.returns-else-x
returns-else-x c = grind (arith, bit_test c.args.x)
