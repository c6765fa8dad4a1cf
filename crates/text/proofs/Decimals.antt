-- The fewest decimal digits that hold a number are its decimal digits.
use Rattle.std.proofs.Common.{◌≡◌, refl, sym, Bool, true, false, ltb, [], ◌∷◌, ◌++◌, ℕ, zero, suc, ◌+◌, ◌*◌, ◌-◌, ◌/◌, ◌%◌, ◌^◌, ◌≤◌, ◌<◌, pow-suc, arith}
use Rattle.std.proofs.Common.{lt-ltb, le-ltb, ltb-true, ltb-false}
use Rattle.std.proofs.Math.Nat.{one-le-pow, pow-le-pow_right}
use Rattle.io.specs.Digits.{last_digits, hex_digit_ascii, IsDigitCount}
use Rattle.text.specs.Text.{decimal_in, decimal}

glyph_digit : (d : ℕ) → d < 10 → hex_digit_ascii d ≡ 48 + d
glyph_digit d h = rw (lt-ltb d 10 h)

one_digit : (fuel n : ℕ) → n < 10 → decimal_in (suc fuel) n ≡ (48 + n) ∷ []
unfolding decimal_in
one_digit fuel n h = rw (lt-ltb n 10 h, decimal_in)

more_digits : (fuel n : ℕ) → 10 ≤ n → decimal_in (suc fuel) n ≡ decimal_in fuel (n / 10) ++ (48 + n % 10) ∷ []
unfolding decimal_in
more_digits fuel n h = rw (le-ltb n 10 h, decimal_in)

decimal_digits : (k fuel n : ℕ) → k ≤ fuel → IsDigitCount 10 1 n k → last_digits 10 k n ≡ decimal_in fuel n
decimal_digits zero fuel n h f = absurd (omega (arith, f.0))
decimal_digits (suc k) zero n h f = absurd (omega arith)
decimal_digits (suc zero) (suc fuel) n h f =
    let l : n < 10 = f.1 in
    let m : n % 10 ≡ n = omega arith in
    rw (m, glyph_digit n l) (sym (one_digit fuel n l))
decimal_digits (suc (suc k)) (suc fuel) n h f =
    let p : ℕ = 10 ^ k in
    let one : 10 ^ suc k ≡ p * 10 = pow-suc 10 k in
    let two : 10 ^ suc (suc k) ≡ 10 ^ suc k * 10 = pow-suc 10 (suc k) in
    let last : suc (suc k) - 1 ≡ suc k = omega arith in
    let next : suc k - 1 ≡ k = omega arith in
    let above : 10 ^ suc k ≤ n = rw last at (f.2 (omega arith)) in
    let positive : 1 ≤ p = one-le-pow k 10 (omega arith) in
    let inner : IsDigitCount 10 1 (n / 10) (suc k) = (omega arith, omega (arith, f.1), λ r. rw next (omega arith)) in
    rw (decimal_digits (suc k) fuel (n / 10) (omega arith) inner, glyph_digit (n % 10) (omega arith))
    (sym (more_digits fuel n (omega arith)))

-- 20 digits are enough for a number below 2^64
few_digits : (k n : ℕ) → n < 18446744073709551616 → IsDigitCount 10 1 n k → k ≤ 20
few_digits k n h f = go (ltb 20 k) refl
  where
    go : (b : Bool) → ltb 20 k ≡ b → k ≤ 20
    go true e =
        let l : 20 < k = ltb-true 20 k e in
        let p : 10 ^ (k - 1) ≤ n = f.2 (omega arith) in
        let q : 10 ^ 20 ≤ 10 ^ (k - 1) = pow-le-pow_right (omega arith) {i = 20} {j = k - 1} (omega arith) in
        absurd (omega arith)
    go false e = ltb-false 20 k e

pub decimal_is : (k n : ℕ) → n < 18446744073709551616 → IsDigitCount 10 1 n k → last_digits 10 k n ≡ decimal n
unfolding decimal
decimal_is k n h f = decimal_digits k 20 n (few_digits k n h f) f
