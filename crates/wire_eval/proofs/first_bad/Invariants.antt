-- `wire_eval::first_bad` meets its contract.
use mathlib.Core.Path.{◌≡◌}
use mathlib.Core.Bool.{true}
use Prim.Native.Nat.{ℕ, ◌<◌}
use Rattle.wire_eval.specs.Evaluation.{can_value_in}
use Rattle.wire_eval.proofs.first_bad.Given as goal

abbrev pub invariant-loop-i : goal.invariant-loop-i
invariant-loop-i l = (k : ℕ) → k < l.i → can_value_in l.circuit k ≡ true
