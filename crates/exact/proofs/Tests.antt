-- What the tests of one float tell: a float that passes is a number in one of two ways, its own float or -0 for 0, and the code's tests are those of specs/Tests.antt.
use mathlib.Core.Path.{◌≡◌, refl, sym, ap, ◌∙◌, subst}
use mathlib.Core.Logic.{◌⊎◌, inl, inr}
use mathlib.Core.Bool.{Bool, true, false, not, ◌&&◌, ◌||◌, beq, cond}
use Prim.Native.Nat.{ℕ, zero, suc, ◌+◌, ◌-◌, ◌*◌, ◌/◌, ◌%◌, ◌^◌, ◌≤◌, ◌<◌}
use native.Mathlib.Nat.{div-add-mod', add-zero, zero-div, mul-one, one-mul, zero-mul, mul_right_comm, eq_of_mul-eq-mul_right, div-eq_of_eq-mul_left, le_trans, eq-zero-or-pos, mul-mod_left}
use native.Mathlib.Omega.{arith}
use lib.IntN.{ℤ, pos}
use lib.Dec.{T, ltb, leb, eqb, ltb→lt, nltb→le, eqb→eq}
use lib.Pow.{pow_pos}
use lib.Ieee.{Float, nan, inf, fin, Format, binary32, prec, up, down, round, add, lt, le, eq, fits, of_bits, level, below}
use lib.Ieee.Fits.{down_pos, up_pos, and_i, and_l, and_r, eq→eqb}
use lib.Ieee.Exact.{HasValue}
use lib.Ieee.Back.{whole_unique}
use borrow.Author.Tests.{lt-ltb}
use Rattle.exact.specs.Whole.{diff, Within, zero32, one32}
use Rattle.exact.specs.Tests.{is_bit, natural, relu, whole_size}
use Rattle.exact.proofs.Whole.{Worth, diff_value, count_value, add_diff, lt_diff, le_at, diff_unique, diff_same, same_test, zero_is}

abbrev minus_zero : Float
minus_zero = fin true 0 (pos 0)

-- x is the number n: its float, or n is 0 and x is -0
abbrev pub Counts : Format → Float → ℕ → Type 0
Counts f x n = (x ≡ diff f n 0) ⊎ ((x ≡ minus_zero) × (n ≡ 0))

-- the same by value
pub record Natural (x : Float) (n : ℕ) : Type 0 where
  pub sign : Bool
  pub value : HasValue x sign n 1
  pub nought : T sign → n ≡ 0

minus_zero_fits : (f : Format) → T (fits f minus_zero)
unfolding fits
minus_zero_fits f = tt

-- of size 0 and negative: that is -0
minus_zero_lem : (f : Format) (x : Float) → T (fits f x) → HasValue x true 0 1 → x ≡ minus_zero
minus_zero_lem f x t v = whole_unique f x minus_zero true 0 t (minus_zero_fits f) v (refl, refl)

pub counts : (f : Format) (x : Float) (n : ℕ) → n ≤ 2 ^ prec f → T (fits f x) → Natural x n → Counts f x n
counts f x n h t w = go w.sign w.value w.nought
  where
    go : (s : Bool) → HasValue x s n 1 → (T s → n ≡ 0) → Counts f x n
    go true v z = inr (minus_zero_lem f x t (subst (λ (j : ℕ). HasValue x true j 1) (z tt) v), z tt)
    go false v z = inl (diff_unique f x false n n 0 t v h (omega arith) (λ u. absurd u))

pub counts_natural : (f : Format) (x : Float) (n : ℕ) → n ≤ 2 ^ prec f → Counts f x n → Natural x n
counts_natural f x n h (inl e) =
    subst (λ (y : Float). Natural y n) (sym e)
    (record { sign = ltb n 0; value = subst (λ (k : ℕ). HasValue (diff f n 0) (ltb n 0) k 1) (omega arith) (diff_value f n 0 (omega arith)); nought = λ t. let g = ltb→lt n 0 t in omega arith })
counts_natural f x n h (inr e) =
    subst (λ (y : Float). Natural y n) (sym e.0) (record { sign = true; value = (refl, ap (λ (k : ℕ). k * 1) (sym e.1)); nought = λ t. e.1 })

-- ---- what `==` tells of a float that is equal to a whole number

pub eq_has : (x y : Float) (t : Bool) (b : ℕ) → HasValue y t b 1 → T (eq x y) → HasValue x t b 1 ⊎ ((s : Bool) × (b ≡ 0) × HasValue x s 0 1)
unfolding eq
eq_has nan y t b v h = absurd h
eq_has (inf s) (fin t' n d) t b v h = absurd h
eq_has (fin s m e) (fin t' n d) t b v h =
    let same : m * up e * down d ≡ n * up d * down e = eqb→eq (m * up e * down d) (n * up d * down e) (and_l (eqb (m * up e * down d) (n * up d * down e)) (beq s t' || eqb (m * up e * down d) 0) h) in
    let val : m * up e * 1 ≡ b * down e = eq_of_mul-eq-mul_right (down d) (down_pos d) (m * up e * 1) (b * down e)
    (ap (λ (z : ℕ). z * down d) (mul-one (m * up e)) ∙ same ∙ ap (λ (z : ℕ). z * down e) (sym (mul-one (n * up d)) ∙ v.1) ∙ mul_right_comm b (down d) (down e)) in
    let zed : T (eqb (m * up e * down d) 0) → b ≡ 0 =
    λ k. eq_of_mul-eq-mul_right (down e) (down_pos e) b 0 (sym val ∙ mul-one (m * up e) ∙ eq_of_mul-eq-mul_right (down d) (down_pos d) (m * up e) 0 (eqb→eq (m * up e * down d) 0 k ∙ sym (zero-mul (down d))) ∙ sym (zero-mul (down e))) in
    go val s t' v.0 (eqb (m * up e * down d) 0) zed (and_r (eqb (m * up e * down d) (n * up d * down e)) (beq s t' || eqb (m * up e * down d) 0) h)
  where
    go : m * up e * 1 ≡ b * down e → (s t' : Bool) → t' ≡ t → (z : Bool) → (T z → b ≡ 0) → T (beq s t' || z) → HasValue (fin s m e) t b 1 ⊎ ((r : Bool) × (b ≡ 0) × HasValue (fin s m e) r 0 1)
    go val false false u z k g = inl (u, val)
    go val true true u z k g = inl (u, val)
    go val false true u z k g = inr (false, k g, (refl, val ∙ ap (λ (x : ℕ). x * down e) (k g)))
    go val true false u z k g = inr (true, k g, (refl, val ∙ ap (λ (x : ℕ). x * down e) (k g)))
eq_has (inf s) nan t b v h = elim v [ ]
eq_has (inf s) (inf _) t b v h = elim v [ ]
eq_has (fin s m e) nan t b v h = elim v [ ]
eq_has (fin s m e) (inf _) t b v h = elim v [ ]

-- ---- a bit: the test `x == 0.0 || x == 1.0`

pub zero_test : (z : Float) (s : Bool) (r d : ℕ) → 0 < d → HasValue z s r d → eq z zero32 ≡ eqb r 0
unfolding eq of_bits
zero_test (fin s' m e) s r d p v = same_test (level s' (m * up e * 1) false (0 * down e)) (eqb r 0) to from
  where
    to : T (level s' (m * up e * 1) false (0 * down e)) → T (eqb r 0)
    to t =
        let x : m * up e ≡ 0 = sym (mul-one (m * up e)) ∙ eqb→eq (m * up e * 1) (0 * down e) (and_l (eqb (m * up e * 1) (0 * down e)) (beq s' false || eqb (m * up e * 1) 0) t) ∙ zero-mul (down e) in
        eq→eqb (eq_of_mul-eq-mul_right (down e) (down_pos e) r 0 (sym v.1 ∙ ap (λ (z : ℕ). z * d) x ∙ zero-mul d ∙ sym (zero-mul (down e))))

    zeros : (s' : Bool) → T (level s' 0 false 0)
    zeros true = tt
    zeros false = tt

    from : T (eqb r 0) → T (level s' (m * up e * 1) false (0 * down e))
    from t =
        let x : m * up e ≡ 0 = eq_of_mul-eq-mul_right d p (m * up e) 0 (v.1 ∙ ap (λ (z : ℕ). z * down e) (eqb→eq r 0 t) ∙ zero-mul (down e) ∙ sym (zero-mul d)) in
        subst (λ (z : ℕ). T (level s' z false (0 * down e))) (sym (mul-one (m * up e) ∙ x)) (subst (λ (z : ℕ). T (level s' 0 false z)) (sym (zero-mul (down e))) (zeros s'))
zero_test nan s r d p v = elim v [ ]
zero_test (inf _) s r d p v = elim v [ ]

one_test : (s : Bool) (m : ℕ) (e : ℤ) → eq (fin s m e) one32 ≡ (not s && eqb (m * up e) (down e))
unfolding eq of_bits
one_test s m e = (λ i. level s (mul-one (m * up e) i) false (one-mul (down e) i)) ∙ go s (m * up e) (down e) (down_pos e)
  where
    go : (s : Bool) (a b : ℕ) → 0 < b → level s a false b ≡ (not s && eqb a b)
    go false a b p = same_test (eqb a b && true) (eqb a b) (and_l (eqb a b) true) (λ t. and_i (eqb a b) true t tt)
    go true a b p =
        same_test (eqb a b && eqb a 0) false
        (λ t. let x : a ≡ b = eqb→eq a b (and_l (eqb a b) (eqb a 0) t) in let y : a ≡ 0 = eqb→eq a 0 (and_r (eqb a b) (eqb a 0) t) in absurd (omega arith))
        (λ t. absurd t)

pub bit_test : (x : Float) → eq x zero32 || eq x one32 ≡ is_bit x
unfolding is_bit
bit_test nan = unfold eq in refl
bit_test (inf s) = unfold eq of_bits in refl
bit_test (fin s m e) = λ i. zero_test (fin s m e) s (m * up e) (down e) (down_pos e) (refl, refl) i || one_test s m e i

or_l : (a b : Bool) → T a → T (a || b)
or_l true b t = tt
or_l false b t = elim t [ ]

or_r : (a b : Bool) → T b → T (a || b)
or_r true b t = tt
or_r false b t = t

pub is_bit_lem : (f : Format) (x : Float) (n : ℕ) → n ≤ 1 → Counts f x n → T (is_bit x)
unfolding is_bit
is_bit_lem f x n h c = let w = counts_natural f x n (le_trans h (pow_pos (prec f))) c in go x w.sign w.value w.nought
  where
    go : (y : Float) (s : Bool) → HasValue y s n 1 → (T s → n ≡ 0) → T (is_bit y)
    go (fin s' m e) s v z = bit n s h z v.0 (sym (mul-one (m * up e)) ∙ v.1)
      where
        bit : (n : ℕ) (s : Bool) → n ≤ 1 → (T s → n ≡ 0) → s' ≡ s → m * up e ≡ n * down e → T (eqb (m * up e) 0 || (not s' && eqb (m * up e) (down e)))
        bit zero s h z q v = or_l (eqb (m * up e) 0) (not s' && eqb (m * up e) (down e)) (eq→eqb (v ∙ zero-mul (down e)))
        bit (suc zero) false h z q v =
            or_r (eqb (m * up e) 0) (not s' && eqb (m * up e) (down e)) (and_i (not s') (eqb (m * up e) (down e)) (subst (λ (b : Bool). T (not b)) (sym q) tt) (eq→eqb (v ∙ one-mul (down e))))
        bit (suc zero) true h z q v = let k : ◌≡◌ {A = ℕ} 1 0 = z tt in absurd (omega arith)
        bit (suc (suc n)) s h z q v = absurd (omega arith)
    go nan s v z = elim v [ ]
    go (inf _) s v z = elim v [ ]

-- ---- a natural number

-- where the sign says so, the number is 0
signed : (s : Bool) (m : ℕ) → T s → T (not s || eqb m 0) → T (eqb m 0)
signed true m u h = h
signed false m u h = absurd u

pub natural_is : (x : Float) → T (natural x) → (n : ℕ) × Natural x n
unfolding natural
natural_is (fin s m e) t =
    let n = m * up e / down e in
    let r : m * up e % down e ≡ 0 = eqb→eq (m * up e % down e) 0 (and_r (not s || eqb m 0) (eqb (m * up e % down e) 0) t) in (
      n,
      record {
        sign = s;
        value = (refl, mul-one (m * up e) ∙ sym (div-add-mod' (m * up e) (down e)) ∙ ap (λ (x : ℕ). n * down e + x) r ∙ add-zero (n * down e));
        nought = λ u. ap (λ (z : ℕ). z * up e / down e) (eqb→eq m 0 (signed s m u (and_l (not s || eqb m 0) (eqb (m * up e % down e) 0) t))) ∙ ap (λ (z : ℕ). z / down e) (zero-mul (up e)) ∙ zero-div (down e);
      },
    )
natural_is nan t = elim t [ ]
natural_is (inf _) t = elim t [ ]

pub is_natural : (x : Float) (n : ℕ) → Natural x n → T (natural x)
unfolding natural
is_natural x n w = go x w.sign w.value w.nought
  where
    go : (x : Float) (s : Bool) → HasValue x s n 1 → (T s → n ≡ 0) → T (natural x)
    go (fin s' m e) s v z =
        let u : m * up e ≡ n * down e = sym (mul-one (m * up e)) ∙ v.1 in
        and_i (not s' || eqb m 0) (eqb (m * up e % down e) 0) (subst (λ (b : Bool). T (not b || eqb m 0)) (sym v.0) (plain s z u)) (eq→eqb (ap (λ (k : ℕ). k % down e) u ∙ mul-mod_left n (down e)))
      where
        plain : (s : Bool) → (T s → n ≡ 0) → m * up e ≡ n * down e → T (not s || eqb m 0)
        plain false z u = tt
        plain true z u = eq→eqb (eq_of_mul-eq-mul_right (up e) (up_pos e) m 0 (u ∙ ap (λ (k : ℕ). k * down e) (z tt) ∙ zero-mul (down e) ∙ sym (zero-mul (up e))))
    go nan s v z = elim v [ ]
    go (inf _) s v z = elim v [ ]

-- its size, of any float that is worth n with either sign
pub whole_size_lem : (x : Float) (s : Bool) (n : ℕ) → HasValue x s n 1 → whole_size x ≡ n
unfolding whole_size
whole_size_lem (fin s' m e) s n v = div-eq_of_eq-mul_left (down_pos e) (sym (mul-one (m * up e)) ∙ v.1)
whole_size_lem nan s n v = elim v [ ]
whole_size_lem (inf _) s n v = elim v [ ]

-- one against k, and k against one
natural_worth : (n : ℕ) (s : Bool) → (T s → n ≡ 0) → Worth s n n 0
natural_worth n false z = omega arith
natural_worth n true z = let g = z tt in omega arith

pub natural_le : (f : Format) (k : ℕ) → k ≤ 2 ^ prec f → (x : Float) (n : ℕ) → Natural x n → le x (diff f k 0) ≡ leb n k
natural_le f k K x n w =
    le_at x (diff f k 0) w.sign false n k n 0 k 0 w.value (count_value f k K) (natural_worth n w.sign w.nought) (omega arith)
    ∙ (λ i. leb (add-zero n i) (add-zero k i))

pub le_natural : (f : Format) (k : ℕ) → k ≤ 2 ^ prec f → (x : Float) (n : ℕ) → Natural x n → le (diff f k 0) x ≡ leb k n
le_natural f k K x n w =
    le_at (diff f k 0) x false w.sign k n k 0 n 0 (count_value f k K) w.value (omega arith) (natural_worth n w.sign w.nought)
    ∙ (λ i. leb (add-zero k i) (add-zero n i))

floor_test : (s : Bool) (m : ℕ) (e : ℤ) → le zero32 (fin s m e) ≡ (not s || eqb m 0)
unfolding le of_bits
floor_test false m e = ap (λ (z : ℕ). below false z false (m * up e * 1) || level false z false (m * up e * 1)) (zero-mul (down e)) ∙ go (m * up e * 1)
  where
    go : (b : ℕ) → ltb 0 b || (eqb 0 b && true) ≡ true
    go b = elim (eq-zero-or-pos b) [ inl z ↦ ap (λ (k : ℕ). ltb 0 k || (eqb 0 k && true)) z | inr h ↦ ap (λ (t : Bool). t || (eqb 0 b && true)) (lt-ltb 0 b h) ]
floor_test true m e = ap (λ (z : ℕ). level false z true (m * up e * 1)) (zero-mul (down e)) ∙ same_test (eqb 0 (m * up e * 1) && true) (eqb m 0) to from
  where
    to : T (eqb 0 (m * up e * 1) && true) → T (eqb m 0)
    to t = eq→eqb (eq_of_mul-eq-mul_right (up e) (up_pos e) m 0 (sym (mul-one (m * up e)) ∙ sym (eqb→eq 0 (m * up e * 1) (and_l (eqb 0 (m * up e * 1)) true t)) ∙ sym (zero-mul (up e))))

    from : T (eqb m 0) → T (eqb 0 (m * up e * 1) && true)
    from t = and_i (eqb 0 (m * up e * 1)) true (eq→eqb (sym (mul-one (m * up e) ∙ ap (λ (z : ℕ). z * up e) (eqb→eq m 0 t) ∙ zero-mul (up e)))) tt

-- a natural number is not below zero
pub natural_floor : (x : Float) → T (natural x) → T (le zero32 x)
unfolding natural
natural_floor (fin s m e) h = subst T (sym (floor_test s m e)) (and_l (not s || eqb m 0) (eqb (m * up e % down e) 0) h)
natural_floor nan h = elim h [ ]
natural_floor (inf _) h = elim h [ ]

-- and what is worth n and not below zero is one
pub floor_natural : (x : Float) (s : Bool) (n : ℕ) → HasValue x s n 1 → T (le zero32 x) → T s → n ≡ 0
floor_natural (fin s' m e) s n v h u =
    eq_of_mul-eq-mul_right (down e) (down_pos e) n 0
    (sym v.1 ∙ ap (λ (z : ℕ). z * up e * 1) (eqb→eq m 0 (signed s' m (subst T (sym v.0) u) (subst T (floor_test s' m e) h))) ∙ ap (λ (z : ℕ). z * 1) (zero-mul (up e)) ∙ sym (zero-mul (down e)))
floor_natural nan s n v h u = elim v [ ]
floor_natural (inf _) s n v h u = elim v [ ]

-- adding 0.0 takes -0 to 0, and changes no other
pub plus_zero : (x : Float) (n : ℕ) → n ≤ 2 ^ 24 → Counts binary32 x n → add binary32 x zero32 ≡ diff binary32 n 0
unfolding add round of_bits
plus_zero x n h (inl e) =
    (λ i. add binary32 (e i) (zero_is i)) ∙ add_diff binary32 n 0 0 0 (omega arith) (omega arith) ∙ diff_same binary32 (n + 0) (0 + 0) n 0 (omega arith)
plus_zero x n h (inr e) = ap (λ (z : Float). add binary32 z zero32) e.0 ∙ zero_is ∙ ap (λ (k : ℕ). diff binary32 k 0) (sym e.1)

-- ---- the positive part

pub relu_diff : (p q : ℕ) → Within binary32 p q → relu (diff binary32 p q) ≡ diff binary32 (p - q) 0
unfolding relu
relu_diff p q h =
    ap (λ (b : Bool). cond b (diff binary32 p q) zero32) (ap (λ (z : Float). lt z (diff binary32 p q)) zero_is ∙ lt_diff binary32 0 0 p q (omega arith) h)
    ∙ go (ltb (0 + q) (p + 0)) (ltb→lt (0 + q) (p + 0)) (nltb→le (0 + q) (p + 0))
  where
    go : (b : Bool) → (T b → 0 + q < p + 0) → (T (not b) → p + 0 ≤ 0 + q) → cond b (diff binary32 p q) zero32 ≡ diff binary32 (p - q) 0
    go true y n = let g = y tt in diff_same binary32 p q (p - q) 0 (omega arith)
    go false y n = let g = n tt in zero_is ∙ diff_same binary32 0 0 (p - q) 0 (omega arith)
