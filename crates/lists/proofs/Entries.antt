-- Lists by index: length, one entry, two parts, and when they are equal.
use mathlib.Core.Path.{◌≡◌, refl, sym, ap, ◌∙◌}
use mathlib.Core.List.{List, [], ◌∷◌, ◌++◌}
use Prim.Native.Nat.{ℕ, zero, suc, ◌+◌, ◌≤◌, ◌<◌}
use native.Mathlib.Omega.{arith}
use lib.ListN.{length, get_or}
use lib.Seq.{ext_get_or}
use Rattle.lists.specs.Each.{each}

module _ {A : Type 0} (f : ℕ → A) where
  pub each_none : (i : ℕ) → each f i 0 ≡ []
  unfolding each
  each_none i = refl

  pub each_cons : (i n : ℕ) → each f i (suc n) ≡ f i ∷ each f (suc i) n
  unfolding each
  each_cons i n = refl

  pub each_length : (i n : ℕ) → length (each f i n) ≡ n
  unfolding each
  each_length i zero = refl
  each_length i (suc n) = ap suc (each_length (suc i) n)

  pub each_get_d : (i n k : ℕ) (d : A) → k < n → get_or (each f i n) k d ≡ f (i + k)
  unfolding each
  each_get_d i zero k d h = absurd (none h)
    where
      none : k < 0 → ⊥
      none h = omega arith
  each_get_d i (suc n) zero d h = let q : i ≡ i + 0 = omega arith in ap f q
  each_get_d i (suc n) (suc k) d h =
      let q : suc i + k ≡ i + suc k = omega arith in
      each_get_d (suc i) n k d (omega arith) ∙ ap f q

  pub each_append : (i n m : ℕ) → each f i (n + m) ≡ each f i n ++ each f (i + n) m
  unfolding each
  each_append i zero m = let q : i ≡ i + 0 = omega arith in let r : 0 + m ≡ m = omega arith in rw r (ap (λ (k : ℕ). each f k m) q)
  each_append i (suc n) m =
      let r : suc n + m ≡ suc (n + m) = omega arith in
      let q : suc i + n ≡ i + suc n = omega arith in
      rw r (ap (λ (xs : List A). f i ∷ xs) (each_append (suc i) n m ∙ ap (λ (k : ℕ). each f (suc i) n ++ each f k m) q))

-- lists by index are equal where the functions are equal at the indices read
pub each_same : {A : Type 0} (f g : ℕ → A) (i n : ℕ) → ((k : ℕ) → i ≤ k → k < i + n → f k ≡ g k) → each f i n ≡ each g i n
unfolding each
each_same f g i zero e = refl
each_same f g i (suc n) e =
    λ j. e i (omega arith) (omega arith) j ∷ each_same f g (suc i) n (λ k a b. e k (omega arith) (omega arith)) j

-- a list is the list by index of its entries
pub each_is : {A : Type 0} (f : ℕ → A) (n : ℕ) (xs : List A) (d : A) → length xs ≡ n → ((k : ℕ) → k < n → f k ≡ get_or xs k d) → each f 0 n ≡ xs
each_is f n xs d l e =
    ext_get_or d (each f 0 n) xs (each_length f 0 n ∙ sym l)
    (λ k h. let q : 0 + k ≡ k = omega arith in let b : k < n = omega (arith, each_length f 0 n) in each_get_d f 0 n k d b ∙ ap f q ∙ e k b)
