-- A test of whole floats with no remainder: from 2^23 on a float has no fraction, so adding such a number rounds to a whole one, and taking it away again gives x back if x is whole.
use mathlib.Core.Path.{◌≡◌, sym, ap, ◌∙◌, subst}
use mathlib.Core.Logic.{◌⊎◌, inl, inr}
use mathlib.Core.Bool.{Bool, true, false, ◌&&◌}
use Prim.Native.Nat.{ℕ, zero, suc, ◌+◌, ◌*◌, ◌%◌, ◌^◌, ◌≤◌, ◌<◌}
use native.Mathlib.Nat.{mod-one, zero-mod, pow-suc, mul-le-mul_right}
use native.Mathlib.Omega.{arith}
use lib.IntN.{ℤ, pos, negsuc}
use lib.Dec.{T, ltb, ltb→lt, leb→le, le→leb}
use lib.Pow.{pow_pos}
use lib.Ieee.{Float, fin, binary32, up, down, add, sub, le, eq, fits, nan, inf}
use lib.Ieee.Fits.{and_i, and_l, and_r, eq→eqb, add-fits}
use lib.Ieee.Exact.{HasValue}
use lib.Ieee.Positive.{positive, own_value, positive_of_value, values_of_le, between}
use Rattle.exact.specs.Whole.{dist, diff}
use Rattle.exact.specs.Tests.{natural}
use Rattle.exact.proofs.Whole.{Worth, worth_of, diff_value, count_value, add_worth, sub_diff, le_diff, eq_at}
use Rattle.exact.proofs.Tests.{Counts, counts, natural_is, natural_le, le_natural, eq_has}

-- x + c is from a to b, and less c it is x
abbrev pub rounds : ℕ → ℕ → ℕ → Float → Bool
rounds a c b x =
    le (diff binary32 a 0) (add binary32 x (diff binary32 c 0))
    && (le (add binary32 x (diff binary32 c 0)) (diff binary32 b 0) && eq x (sub binary32 (add binary32 x (diff binary32 c 0)) (diff binary32 c 0)))

-- what it tells: x is a whole number less c, and that one is from a to b
pub record Rounded (a c b : ℕ) (x : Float) : Type 0 where
  pub total : ℕ
  pub low : a ≤ total
  pub high : total ≤ b
  pub sign : Bool
  pub size : ℕ
  pub value : HasValue x sign size 1
  pub worth : Worth sign size total c

pub rounds_pass : (a c b : ℕ) → a ≤ 2 ^ 24 → c ≤ 2 ^ 24 → b ≤ 2 ^ 24 → (x : Float) → Rounded a c b x → T (rounds a c b x)
rounds_pass a c b A C B x w =
    let n = w.total in
    let lo : a ≤ n = w.low in
    let hi : n ≤ b = w.high in
    let m = diff binary32 c 0 in
    let s = add binary32 x m in
    let y : s ≡ diff binary32 (n + c) (c + 0) = add_worth binary32 x m w.sign false w.size c n c c 0 w.value (count_value binary32 c C) w.worth (omega arith) (λ t u. absurd u) in
    let z : sub binary32 s m ≡ diff binary32 (n + c + 0) (c + 0 + c) = ap (λ (t : Float). sub binary32 t m) y ∙ sub_diff binary32 (n + c) (c + 0) c 0 (omega arith) (omega arith) in
    and_i (le (diff binary32 a 0) s) (le s (diff binary32 b 0) && eq x (sub binary32 s m))
    (subst T (sym (ap (le (diff binary32 a 0)) y ∙ le_diff binary32 a 0 (n + c) (c + 0) (omega arith) (omega arith))) (le→leb (a + (c + 0)) (n + c + 0) (omega arith)))
    (and_i (le s (diff binary32 b 0)) (eq x (sub binary32 s m))
    (subst T (sym (ap (λ (t : Float). le t (diff binary32 b 0)) y ∙ le_diff binary32 (n + c) (c + 0) b 0 (omega arith) (omega arith))) (le→leb (n + c + 0) (b + (c + 0)) (omega arith)))
    (subst T (sym (ap (eq x) z ∙ eq_at x (diff binary32 (n + c + 0) (c + 0 + c)) w.sign (ltb (n + c + 0) (c + 0 + c)) w.size (dist (n + c + 0) (c + 0 + c)) n c (n + c + 0) (c + 0 + c) w.value (diff_value binary32 (n + c + 0) (c + 0 + c) (omega arith)) w.worth (worth_of (n + c + 0) (c + 0 + c))))
    (let q : n + (c + 0 + c) ≡ n + c + 0 + c = omega arith in eq→eqb q)))

-- ---- from 2^23 on a float has no fraction

no_fraction : (a m : ℕ) (e : ℤ) → 2 ^ 23 ≤ a → T (fits binary32 (fin false m e)) → a * down e ≤ m * up e → m * up e % down e ≡ 0
unfolding fits
no_fraction a m (pos n) A t h = mod-one (m * 2 ^ n)
no_fraction a zero (negsuc n) A t h = zero-mod (2 ^ suc n)
no_fraction a (suc m) (negsuc n) A t h =
    let few : T (ltb (suc m) (2 ^ 24)) = search (and_l, and_r) in
    let g = ltb→lt (suc m) (2 ^ 24) few in
    let l : 2 ^ 23 * 2 ^ suc n ≤ a * 2 ^ suc n = mul-le-mul_right (2 ^ suc n) A in
    let p : 0 < 2 ^ n = pow_pos n in
    let q : 2 ^ suc n ≡ 2 ^ n * 2 = pow-suc 2 n in
    absurd (omega arith)

-- a float of that size is positive and worth a natural number
pub count_positive : (a : ℕ) → 0 < a → a ≤ 2 ^ 24 → T (positive (diff binary32 a 0))
count_positive a p A = positive_of_value (diff binary32 a 0) a 1 (count_value binary32 a A) p

pub high_natural : (a : ℕ) → 2 ^ 23 ≤ a → a ≤ 2 ^ 24 → (y : Float) → T (fits binary32 y) → T (positive y) → T (le (diff binary32 a 0) y) → T (natural y)
unfolding natural
high_natural a A B (fin false m e) t p h =
    let k : a * down e ≤ m * up e * 1 = values_of_le (diff binary32 a 0) (fin false m e) a 1 (m * up e) (down e) (count_positive a (omega arith) B) p (count_value binary32 a B) (own_value (fin false m e) p) h in
    eq→eqb (no_fraction a m e A t (omega arith))
high_natural a A B nan t p h = elim p [ ]
high_natural a A B (inf _) t p h = elim p [ ]
high_natural a A B (fin true m e) t p h = elim p [ ]

high : (a b : ℕ) → 2 ^ 23 ≤ a → a ≤ b → b ≤ 2 ^ 24 → (y : Float) → T (fits binary32 y) → T (le (diff binary32 a 0) y) → T (le y (diff binary32 b 0)) → (n : ℕ) × (a ≤ n) × (n ≤ b) × (y ≡ diff binary32 n 0)
high a b A L B y t h k =
    let p : T (positive y) = between (diff binary32 a 0) y (diff binary32 b 0) (count_positive a (omega arith) (omega arith)) (count_positive b (omega arith) B) h k in
    let w = natural_is y (high_natural a A (omega arith) y t p h) in
    let lo : a ≤ w.0 = leb→le a w.0 (subst T (le_natural binary32 a (omega arith) y w.0 w.1) h) in
    let hi : w.0 ≤ b = leb→le w.0 b (subst T (natural_le binary32 b B y w.0 w.1) k) in
    (w.0, lo, hi, go w.0 lo (counts binary32 y w.0 (omega arith) t w.1))
  where
    go : (n : ℕ) → a ≤ n → Counts binary32 y n → y ≡ diff binary32 n 0
    go n lo (inl e) = e
    go n lo (inr e) = let z : n ≡ 0 = e.1 in absurd (omega arith)

pub rounds_told : (a c b : ℕ) → 2 ^ 23 ≤ a → a ≤ b → b ≤ 2 ^ 24 → c ≤ 2 ^ 24 → (x : Float) → T (rounds a c b x) → Rounded a c b x
rounds_told a c b A L B C x t =
    let m = diff binary32 c 0 in
    let y = add binary32 x m in
    let rest = and_r (le (diff binary32 a 0) y) (le y (diff binary32 b 0) && eq x (sub binary32 y m)) t in
    let d = high a b A L B y (add-fits binary32 x m) (and_l (le (diff binary32 a 0) y) (le y (diff binary32 b 0) && eq x (sub binary32 y m)) t) (and_l (le y (diff binary32 b 0)) (eq x (sub binary32 y m)) rest) in
    let n = d.0 in
    let lo : a ≤ n = d.1 in
    let hi : n ≤ b = d.2 in
    let z : sub binary32 y m ≡ diff binary32 (n + 0) (0 + c) = ap (λ (k : Float). sub binary32 k m) d.3 ∙ sub_diff binary32 n 0 c 0 (omega arith) (omega arith) in
    go n lo hi (eq_has x (diff binary32 (n + 0) (0 + c)) (ltb (n + 0) (0 + c)) (dist (n + 0) (0 + c)) (diff_value binary32 (n + 0) (0 + c) (omega arith)) (subst (λ (k : Float). T (eq x k)) z (and_r (le y (diff binary32 b 0)) (eq x (sub binary32 y m)) rest)))
  where
    nought : (n : ℕ) (s : Bool) → n ≡ c → Worth s 0 n c
    nought n false e = omega arith
    nought n true e = omega arith

    plain : (n : ℕ) (s : Bool) (k : ℕ) → Worth s k (n + 0) (0 + c) → Worth s k n c
    plain n false k w = omega arith
    plain n true k w = omega arith

    go : (n : ℕ) → a ≤ n → n ≤ b → HasValue x (ltb (n + 0) (0 + c)) (dist (n + 0) (0 + c)) 1 ⊎ ((s : Bool) × (dist (n + 0) (0 + c) ≡ 0) × HasValue x s 0 1) → Rounded a c b x
    go n lo hi (inl v) =
        record { total = n; low = lo; high = hi; sign = ltb (n + 0) (0 + c); size = dist (n + 0) (0 + c); value = v; worth = plain n (ltb (n + 0) (0 + c)) (dist (n + 0) (0 + c)) (worth_of (n + 0) (0 + c)) }
    go n lo hi (inr v) = let e = v.1 in record { total = n; low = lo; high = hi; sign = v.0; size = 0; value = v.2; worth = nought n v.0 (omega arith) }
