-- The tests of part of a list are those of that part alone.
use Rattle.std.specs.Float.{nan}
use Rattle.std.proofs.Common.{◌≡◌, ℕ, zero, suc, ◌+◌, ◌-◌, ◌<◌, ◌≤◌, List, length, get_or, take, drop, ltb, Float, refl, arith}
use Rattle.std.proofs.lemmas.List.{get_or-take, get_or-drop}
use Rattle.std.proofs.lemmas.Grind.{common_steps}
use Rattle.tick_check.specs.Check.{pairs, rises_below, times, each_once}
use Rattle.tick_check.specs.Parts.{coefs_ok, biases_ok}
use Rattle.tick_check.proofs.All.{all_same}

-- as a slice from one index to another has it
abbrev pub part : {A : Type 0} → List A → ℕ → ℕ → List A
part xs from n = take (from + n - from) (drop from xs)

part_length : {A : Type 0} (xs : List A) (from n : ℕ) → from + n ≤ length xs → length (part xs from n) ≡ n
part_length xs from n h = grind (arith, common_steps)

part_at : {A : Type 0} (xs : List A) (from n i : ℕ) (d : A) → i < n → get_or (part xs from n) (0 + i) d ≡ get_or xs (from + i) d
part_at xs from n i d h =
    let l : 0 + i < from + n - from = omega arith in
    let q : from + (0 + i) ≡ from + i = omega arith in
    rw (get_or-take, get_or-drop, q)

pub coefs_part : (xs : List Float) (n : ℕ) → n ≤ length xs → coefs_ok xs n ≡ coefs_ok (take n xs) (length (take n xs))
unfolding coefs_ok
coefs_part xs n h = grind (arith, common_steps, all_same)

pub biases_head : (xs : List Float) (n : ℕ) → n ≤ length xs → biases_ok xs 0 n ≡ biases_ok (take n xs) 0 (length (take n xs))
unfolding biases_ok
biases_head xs n h = grind (arith, common_steps, all_same)

pub biases_part : (xs : List Float) (from n : ℕ) → from + n ≤ length xs → biases_ok xs from n ≡ biases_ok (part xs from n) 0 (length (part xs from n))
unfolding biases_ok
biases_part xs from n h =
    rw (part_length xs from n h) (all_same _ _ n (λ i l. rw (part_at xs from n i nan l)))

pub rises_part : (xs : List ℕ) (from n limit : ℕ) → from + n ≤ length xs
    → rises_below xs from n limit ≡ rises_below (part xs from n) 0 (length (part xs from n)) limit
unfolding rises_below pairs
rises_part xs from n limit h =
    let below = all_same (λ i. ltb (get_or xs (from + i) 0) limit) (λ i. ltb (get_or (part xs from n) (0 + i) 0) limit) n
    (λ i l. rw (part_at xs from n i 0 l)) in
    let rise = all_same (λ i. ltb (get_or xs (from + i) 0) (get_or xs (from + i + 1) 0))
    (λ i. ltb (get_or (part xs from n) (0 + i) 0) (get_or (part xs from n) (0 + i + 1) 0)) (n - 1)
    (λ i l.
    let q : 0 + i + 1 ≡ 0 + (i + 1) = omega arith in
    let r : from + (i + 1) ≡ from + i + 1 = omega arith in
    rw (q, part_at xs from n i 0 (omega arith), part_at xs from n (i + 1) 0 (omega arith), r)) in
    rw (part_length xs from n h) cc

times_part : (xs : List ℕ) (from n v m : ℕ) → m ≤ n → times xs from v m ≡ times (part xs from n) 0 v m
unfolding times
times_part xs from n v zero h = refl
times_part xs from n v (suc m) h = rw (part_at xs from n m 0 h, times_part xs from n v m (omega arith))

pub once_part : (xs : List ℕ) (from n : ℕ) → from + n ≤ length xs → each_once xs from n ≡ each_once (part xs from n) 0 (length (part xs from n))
unfolding each_once
once_part xs from n h =
    rw (part_length xs from n h) (all_same _ _ n (λ v l. rw (times_part xs from n v n (omega arith))))

pub ruleset parts = (coefs_part, biases_head, biases_part, rises_part, once_part)
