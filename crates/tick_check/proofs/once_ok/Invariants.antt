-- Each number below 128 has been counted as often as it stood so far; then the flag is the test of the counts so far.
use Rattle.std.proofs.Common.{◌≡◌, ℕ, ◌<◌, ◌≤◌, length, get_or}
use Rattle.lists.specs.All.{all}
use Rattle.std.proofs.Common.{eqb}
use Rattle.tick_check.specs.Check.{times}
use Rattle.tick_check.proofs.once_ok.Given as goal

abbrev pub invariant-loop-x : goal.invariant-loop-x
invariant-loop-x l =
    (length l.seen ≡ 129) × ((v : ℕ) → v < 128 → get_or l.seen v 0 ≡ times l.list 0 v l.x-index)
    × ((v : ℕ) → get_or l.seen v 0 ≤ l.x-index)

abbrev pub invariant-loop-times : goal.invariant-loop-times
invariant-loop-times l = l.ok ≡ all (λ v. eqb (times l.list 0 v (length l.list)) 1) l.times-index
