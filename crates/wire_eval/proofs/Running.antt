-- The first op that cannot be valued, and what evaluating leaves.
use mathlib.Core.Path.{◌≡◌, refl, sym, ap, ◌∙◌}
use mathlib.Core.List.{List}
use mathlib.Core.Bool.{Bool, true, false, false≢true}
use mathlib.Core.Logic.{⊎_elim}
use Prim.Native.Nat.{ℕ, zero, suc, ◌+◌, ◌≤◌, ◌<◌}
use native.Mathlib.Nat.{eq-or-lt_of_le}
use native.Mathlib.Omega.{arith}
use lib.Ieee.{Float}
use Rattle.wire_pool.specs.Values.{OpReadable}
use Rattle.wire_read.proofs.Reading.{may_read_op}
use Rattle.wire_eval.specs.Evaluation.{first_false, can_value, first_bad}

module _ (p : ℕ → Bool) where
  -- what a search finds: p is true before it and, where it is not the end, false at it
  first_from : (i n k : ℕ) → i ≤ k → k ≤ i + n → ((j : ℕ) → i ≤ j → j < k → p j ≡ true) → (k < i + n → p k ≡ false)
      → k ≡ first_false p i n
  unfolding first_false
  first_from i zero k a b before here = omega arith
  first_from i (suc n) k a b before here =
      go (p i) refl (λ l. first_from (suc i) n k l (omega arith) (λ j h m. before j (omega arith) m) (λ h. here (omega arith)))
    where
      go : (t : Bool) → p i ≡ t → (i < k → k ≡ first_false p (suc i) n) → k ≡ elim t [ true ↦ first_false p (suc i) n | false ↦ i ]
      go true e more = more (⊎_elim (λ q. absurd (false≢true (sym (here (omega arith)) ∙ ap p (sym q) ∙ e))) (λ l. l) (eq-or-lt_of_le a))
      go false e more = ⊎_elim sym (λ l. absurd (false≢true (sym e ∙ before i (omega arith) l))) (eq-or-lt_of_le a)

  pub first_found : (n k : ℕ) → k ≤ n → ((j : ℕ) → j < k → p j ≡ true) → (k < n → p k ≡ false) → k ≡ first_false p 0 n
  first_found n k h before here = first_from 0 n k (omega arith) (omega arith) (λ j l m. before j m) (λ l. here (omega arith))

  pub first_high : (i n : ℕ) → first_false p i n ≤ i + n
  unfolding first_false
  first_high i zero = omega arith
  first_high i (suc n) = go (p i) (first_high (suc i) n)
    where
      go : (t : Bool) → first_false p (suc i) n ≤ suc i + n → elim t [ true ↦ first_false p (suc i) n | false ↦ i ] ≤ i + suc n
      go true h = omega arith
      go false h = omega arith

  pub first_good : (i n k : ℕ) → i ≤ k → k < first_false p i n → p k ≡ true
  unfolding first_false
  first_good i zero k a b = absurd (none a b)
    where
      none : i ≤ k → k < i → ⊥
      none a b = omega arith
  first_good i (suc n) k a b = go (p i) refl (λ l h. first_good (suc i) n k l h) b
    where
      go : (t : Bool) → p i ≡ t → (i < k → k < first_false p (suc i) n → p k ≡ true)
          → k < elim t [ true ↦ first_false p (suc i) n | false ↦ i ] → p k ≡ true
      go true e more h = ⊎_elim (λ q. ap p (sym q) ∙ e) (λ l. more l h) (eq-or-lt_of_le a)
      go false e more h = absurd (none a h)
        where
          none : i ≤ k → k < i → ⊥
          none a b = omega arith

module _ (nums : List ℕ) (bs : List Float) (ws : List ℕ) (cs : List Float) (cells ops : ℕ) where
  pub bad_high : first_bad nums bs ws cs cells ops ≤ ops
  unfolding first_bad
  bad_high = let h = first_high (can_value nums bs ws cs cells) 0 ops in omega arith

  pub good_before : (good : ℕ) → good ≡ first_bad nums bs ws cs cells ops → (i : ℕ) → i < good → OpReadable nums bs ws cs (cells + i) i
  unfolding first_bad can_value
  good_before good e i h = may_read_op nums bs ws cs (cells + i) i (first_good (can_value nums bs ws cs cells) 0 ops i (omega arith) (omega arith))
