-- The test of a natural number with no remainder: from 2^23 on whether x is finite, and below that by two sums and three comparisons.
use mathlib.Core.Path.{◌≡◌, refl, sym, ap, ◌∙◌, subst}
use mathlib.Core.Bool.{Bool, true, false, not, ◌&&◌}
use Prim.Native.Nat.{ℕ, suc, ◌+◌, ◌*◌, ◌^◌, ◌≤◌, ◌<◌}
use native.Mathlib.Nat.{mul-zero, zero-mul}
use native.Mathlib.Omega.{arith}
use lib.IntN.{ℤ}
use lib.Dec.{T, nleb→lt}
use lib.Pow.{pow_pos}
use lib.Ieee.{Float, nan, inf, fin, Format, binary32, prec, emax, low, unlike, up, down, add, sub, mul, le, eq, fits, of_bits, round}
use lib.Ieee.Fits.{down_pos}
use lib.Ieee.Exact.{HasValue, round_exact}
use lib.Ieee.Bits.{is_true}
use lib.Ieee.Positive.{positive, above, above_of_le}
use Rattle.exact.specs.Whole.{diff, zero32}
use Rattle.exact.specs.Tests.{natural}
use Rattle.exact.proofs.Whole.{Worth, same_test}
use Rattle.exact.proofs.Tests.{natural_is, is_natural, le_natural, zero_test}
use Rattle.exact.proofs.Rounds.{rounds, Rounded, rounds_pass, rounds_told, count_positive, high_natural}

-- 2^23 and 2^24
abbrev least : Float
least = of_bits binary32 0x4b00_0000

abbrev most : Float
most = of_bits binary32 0x4b80_0000

least_is : least ≡ diff binary32 8388608 0
unfolding of_bits diff round
least_is = refl

most_is : most ≡ diff binary32 16777216 0
unfolding of_bits diff round
most_is = refl

-- ---- from 2^23 on

-- a finite float times 0.0 is a zero
round_nought : (f : Format) (s : Bool) (d : ℕ) → 0 < d → HasValue (round f s 0 d) s 0 d
round_nought f s d p = round_exact f s 0 d 0 0 p (pow_pos (prec f)) (pow_pos (low f + suc (emax f))) (zero-mul (2 ^ low f) ∙ sym (zero-mul d))

times_nought : (s : Bool) (m : ℕ) (e : ℤ) → eq (mul binary32 (fin s m e) zero32) zero32 ≡ true
unfolding mul of_bits
times_nought s m e =
    let d = down e * 1 in
    let p : 0 < d = let g = down_pos e in omega arith in
    ap (λ (z : ℕ). eq (round binary32 (unlike s false) z d) zero32) (mul-zero (m * up e)) ∙ zero_test (round binary32 (unlike s false) 0 d) (unlike s false) 0 d p (round_nought binary32 (unlike s false) d p)

pub natural_high : (x : Float) → T (fits binary32 x) → T (le least x) → eq (mul binary32 x zero32) zero32 ≡ natural x
natural_high x t h = go x t (subst (λ (z : Float). T (le z x)) least_is h)
  where
    go : (x : Float) → T (fits binary32 x) → T (le (diff binary32 8388608 0) x) → eq (mul binary32 x zero32) zero32 ≡ natural x
    go nan t h = unfold mul eq natural in refl
    go (inf s) t h = unfold mul of_bits eq natural in refl
    go (fin s m e) t h =
        times_nought s m e ∙ sym (is_true (natural (fin s m e)) (high_natural 8388608 (omega arith) (omega arith) (fin s m e) t (finite s (above_of_le (diff binary32 8388608 0) (fin s m e) (count_positive 8388608 (omega arith) (omega arith)) h)) h))
      where
        finite : (s : Bool) → T (above (fin s m e)) → T (positive (fin s m e))
        finite true p = absurd p
        finite false p = p

-- ---- below 2^23

-- a negative one is 0
none : (s : Bool) (n t : ℕ) → 8388608 ≤ t → Worth s n t 8388608 → T s → n ≡ 0
none false n t l w u = absurd u
none true n t l w u = omega arith

above_middle : (x : Float) (n : ℕ) → n ≤ 8388608 → (s : Bool) → HasValue x s n 1 → (T s → n ≡ 0) → Rounded 8388608 8388608 16777216 x
above_middle x n h false v z = record { total = 8388608 + n; low = omega arith; high = omega arith; sign = false; size = n; value = v; worth = omega arith }
above_middle x n h true v z = let e = z tt in record { total = 8388608 + n; low = omega arith; high = omega arith; sign = true; size = n; value = v; worth = omega arith }

pub natural_low : (x : Float) → T (not (le least x)) → le least (add binary32 x least) && (le (add binary32 x least) most && eq x (sub binary32 (add binary32 x least) least)) ≡ natural x
natural_low x h =
    (λ i. le (least_is i) (add binary32 x (least_is i)) && (le (add binary32 x (least_is i)) (most_is i) && eq x (sub binary32 (add binary32 x (least_is i)) (least_is i))))
    ∙ same_test (rounds 8388608 8388608 16777216 x) (natural x) to from
  where
    to : T (rounds 8388608 8388608 16777216 x) → T (natural x)
    to t =
        let w = rounds_told 8388608 8388608 16777216 (omega arith) (omega arith) (omega arith) (omega arith) x t in
        is_natural x w.size (record { sign = w.sign; value = w.value; nought = none w.sign w.size w.total w.low w.worth })

    from : T (natural x) → T (rounds 8388608 8388608 16777216 x)
    from t =
        let w = natural_is x t in
        let b = nleb→lt 8388608 w.0 (subst (λ (z : Bool). T (not z)) (ap (λ (z : Float). le z x) least_is ∙ le_natural binary32 8388608 (omega arith) x w.0 w.1) h) in
        rounds_pass 8388608 8388608 16777216 (omega arith) (omega arith) (omega arith) x (above_middle x w.0 (omega arith) w.1.sign w.1.value w.1.nought)
