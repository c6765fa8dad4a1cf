-- Conjunctions, and a test of each index below a number.
use mathlib.Core.Path.{◌≡◌, refl, sym, ap, ◌∙◌}
use mathlib.Core.Bool.{Bool, true, false, ◌&&◌}
use mathlib.Core.Logic.{⊎_elim}
use Prim.Native.Nat.{ℕ, zero, suc, ◌<◌}
use native.Mathlib.Nat.{eq-or-lt_of_le, le_of_suc-le-suc}
use native.Mathlib.Omega.{arith}
use Rattle.lists.specs.All.{all}

pub both : (a b : Bool) → a ≡ true → b ≡ true → a && b ≡ true
both a b e f = rw (e, f)

pub both_left : (a b : Bool) → a && b ≡ true → a ≡ true
both_left true b e = refl
both_left false b e = e

pub both_right : (a b : Bool) → a && b ≡ true → b ≡ true
both_right true b e = e
both_right false true e = refl
both_right false false e = e

pub both_sides : (a b : Bool) → a && b ≡ true → (a ≡ true) × (b ≡ true)
both_sides a b e = (both_left a b e, both_right a b e)

pub fails_left : (a b : Bool) → a ≡ false → false ≡ a && b
fails_left a b e = rw e

pub fails_right : (a b : Bool) → b ≡ false → false ≡ a && b
fails_right true b e = sym e
fails_right false b e = refl

module _ (p : ℕ → Bool) where
  pub all_fails : (i n : ℕ) → i < n → p i ≡ false → false ≡ all p n
  unfolding all
  all_fails i zero h e = absurd (none h)
    where
      none : i < 0 → ⊥
      none h = omega arith
  all_fails i (suc n) h e =
      ⊎_elim
      (λ q. fails_right (all p n) (p n) (ap p (sym q) ∙ e))
      (λ l. fails_left (all p n) (p n) (sym (all_fails i n l e)))
      (eq-or-lt_of_le (le_of_suc-le-suc h))

  pub all_at : (i n : ℕ) → i < n → all p n ≡ true → p i ≡ true
  unfolding all
  all_at i zero h e = absurd (none h)
    where
      none : i < 0 → ⊥
      none h = omega arith
  all_at i (suc n) h e =
      ⊎_elim
      (λ q. ap p q ∙ both_right (all p n) (p n) e)
      (λ l. all_at i n l (both_left (all p n) (p n) e))
      (eq-or-lt_of_le (le_of_suc-le-suc h))
