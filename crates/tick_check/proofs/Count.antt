-- Counting how often each number below 128 stands in a list, the others together.
use Rattle.std.proofs.Common.{◌≡◌, ℕ, ◌+◌, ◌<◌, ◌≤◌, min, List, length, get_or, set, replicate, refl, add-one, arith}
use Rattle.std.proofs.lemmas.Bool.Decides.{nat_tests}
use Rattle.std.proofs.lemmas.Grind.{common_steps}
use Rattle.tick_check.specs.Check.{times}

-- where the next entry is counted
abbrev pub place : List ℕ → ℕ → ℕ
place xs i = min (get_or xs i 0) 128

-- one entry more is counted
pub counted : (xs seen : List ℕ) (i v : ℕ) → length seen ≡ 129 → v < 128 → get_or seen v 0 ≡ times xs 0 v i
    → get_or (set seen (place xs i) (get_or seen (place xs i) 0 + 1)) v 0 ≡ times xs 0 v (i + 1)
unfolding times
counted xs seen i v len small h = rw (add-one i) (grind (arith, nat_tests, common_steps))

pub bounded : (xs seen : List ℕ) (i v : ℕ) → length seen ≡ 129 → ((w : ℕ) → get_or seen w 0 ≤ i)
    → get_or (set seen (place xs i) (get_or seen (place xs i) 0 + 1)) v 0 ≤ i + 1
bounded xs seen i v len h = grind (arith, nat_tests, common_steps, h v, h (place xs i))

pub zeros : (n v : ℕ) → ◌≡◌ {A = ℕ} (get_or (replicate n 0) v 0) 0
zeros n v = grind (arith, common_steps)

pub times_none : (xs : List ℕ) (from v : ℕ) → times xs from v 0 ≡ 0
unfolding times
times_none xs from v = refl
