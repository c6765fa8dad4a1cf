-- The test of a whole float of at most 65,536 in size by two sums and three comparisons.
use mathlib.Core.Path.{◌≡◌, refl, sym, ap, ◌∙◌}
use mathlib.Core.Bool.{Bool, true, false, ◌&&◌}
use Prim.Native.Nat.{ℕ, ◌+◌, ◌-◌, ◌*◌, ◌/◌, ◌%◌, ◌≤◌}
use native.Mathlib.Nat.{div-add-mod', add-zero, mul-one, mul-mod_left, mul-le-mul_right, le_of_mul-le-mul_right, le_trans, le_of_eq}
use native.Mathlib.Omega.{arith}
use lib.Dec.{T, ltb, leb, eqb, leb→le, le→leb, eqb→eq}
use lib.Ieee.{Float, fin, binary32, up, down, add, sub, le, eq, of_bits, round, nan, inf}
use lib.Ieee.Fits.{down_pos, and_i, and_l, and_r, eq→eqb}
use lib.Ieee.Exact.{HasValue}
use Rattle.exact.specs.Whole.{dist, diff}
use Rattle.exact.specs.Tests.{small}
use Rattle.exact.proofs.Whole.{Worth, diff_value, same_test}
use Rattle.exact.proofs.Rounds.{rounds, Rounded, rounds_pass, rounds_told}

-- 1.5 * 2^23, about which a float has no fraction, and 65,536 less and more
abbrev middle : Float
middle = of_bits binary32 0x4b40_0000

abbrev least : Float
least = of_bits binary32 0x4b3f_0000

abbrev most : Float
most = of_bits binary32 0x4b41_0000

middle_is : middle ≡ diff binary32 12582912 0
unfolding of_bits diff round
middle_is = refl

least_is : least ≡ diff binary32 12517376 0
unfolding of_bits diff round
least_is = refl

most_is : most ≡ diff binary32 12648448 0
unfolding of_bits diff round
most_is = refl

-- ---- what small says

pub small_is : (x : Float) → T (small x) → (s : Bool) × (n : ℕ) × HasValue x s n 1 × (n ≤ 65536)
unfolding small
small_is (fin s m e) t =
    let n = m * up e / down e in
    let r : m * up e % down e ≡ 0 = eqb→eq (m * up e % down e) 0 (and_l (eqb (m * up e % down e) 0) (leb (m * up e) (65536 * down e)) t) in
    let w : m * up e ≡ n * down e = sym (div-add-mod' (m * up e) (down e)) ∙ ap (λ (x : ℕ). n * down e + x) r ∙ add-zero (n * down e) in
    let h : m * up e ≤ 65536 * down e = leb→le (m * up e) (65536 * down e) (and_r (eqb (m * up e % down e) 0) (leb (m * up e) (65536 * down e)) t) in
    (s, n, (refl, mul-one (m * up e) ∙ w), le_of_mul-le-mul_right (le_trans (le_of_eq (sym w)) h) (down_pos e))
small_is nan t = elim t [ ]
small_is (inf _) t = elim t [ ]

pub small_of : (x : Float) (s : Bool) (n : ℕ) → HasValue x s n 1 → n ≤ 65536 → T (small x)
unfolding small
small_of (fin s' m e) s n v h =
    let w : m * up e ≡ n * down e = sym (mul-one (m * up e)) ∙ v.1 in
    and_i (eqb (m * up e % down e) 0) (leb (m * up e) (65536 * down e))
    (eq→eqb (ap (λ (k : ℕ). k % down e) w ∙ mul-mod_left n (down e)))
    (le→leb (m * up e) (65536 * down e) (le_trans (le_of_eq w) (mul-le-mul_right (down e) h)))
small_of nan s n v h = elim v [ ]
small_of (inf _) s n v h = elim v [ ]

pub small_diff : (p q : ℕ) → p ≤ q + 65536 → q ≤ p + 65536 → T (small (diff binary32 p q))
small_diff p q h k = small_of (diff binary32 p q) (ltb p q) (dist p q) (diff_value binary32 p q (omega arith)) (omega arith)

-- ---- the test asks that

around : (x : Float) (s : Bool) (n : ℕ) → HasValue x s n 1 → n ≤ 65536 → Rounded 12517376 12582912 12648448 x
around x false n v h = record { total = 12582912 + n; low = omega arith; high = omega arith; sign = false; size = n; value = v; worth = omega arith }
around x true n v h = record { total = 12582912 - n; low = omega arith; high = omega arith; sign = true; size = n; value = v; worth = omega arith }

within : (s : Bool) (n t : ℕ) → 12517376 ≤ t → t ≤ 12648448 → Worth s n t 12582912 → n ≤ 65536
within false n t l h w = omega arith
within true n t l h w = omega arith

pub small_test : (x : Float) → le least (add binary32 x middle) && (le (add binary32 x middle) most && eq x (sub binary32 (add binary32 x middle) middle)) ≡ small x
small_test x =
    (λ i. le (least_is i) (add binary32 x (middle_is i)) && (le (add binary32 x (middle_is i)) (most_is i) && eq x (sub binary32 (add binary32 x (middle_is i)) (middle_is i))))
    ∙ same_test (rounds 12517376 12582912 12648448 x) (small x) to from
  where
    to : T (rounds 12517376 12582912 12648448 x) → T (small x)
    to t =
        let w = rounds_told 12517376 12582912 12648448 (omega arith) (omega arith) (omega arith) (omega arith) x t in
        small_of x w.sign w.size w.value (within w.sign w.size w.total w.low w.high w.worth)

    from : T (small x) → T (rounds 12517376 12582912 12648448 x)
    from t = let w = small_is x t in rounds_pass 12517376 12582912 12648448 (omega arith) (omega arith) (omega arith) x (around x w.0 w.1 w.2 w.3)
