-- `exact::of_cursor` meets its contract.
use mathlib.Core.Path.{ap, ◌∙◌}
use Prim.Native.Nat.{ℕ}
use lib.Ieee.{binary32}
use Rattle.exact.specs.Whole.{diff}
use Rattle.exact.proofs.Whole.{of_nat_diff}
use Rattle.exact.proofs.of_cursor.Goals as goal

pub returns : goal.returns
returns c = of_nat_diff binary32 _ ∙ ap (λ (k : ℕ). diff binary32 k 0) c.min.ensures
