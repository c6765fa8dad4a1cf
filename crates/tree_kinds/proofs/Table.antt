-- A rule of a table, proved at all of its entries by one computed test, one entry after the other.
use Rattle.std.proofs.Common.{◌∙◌, subst, sym, List, [], ◌∷◌, Option, Some, slice_get, ℕ, zero, suc, ◌+◌, ◌<◌, add-zero, zero-add, add-suc, suc-add}
use Rattle.std.proofs.Common.{le_of_suc-le-suc, not-suc-le-zero, length}

module _ {A : Type 0} where
  -- the rule F holds at each entry of the list and its place, counted from i
  abbrev pub Every : (ℕ → Option A → Type 0) → ℕ → List A → Type 0
  Every F i [] = Unit {0}
  Every F i (x ∷ xs) = F i (Some x) × Every F (suc i) xs

  from : (F : ℕ → Option A → Type 0) (xs : List A) (i : ℕ) → Every F i xs → (k : ℕ) → k < length xs → F (i + k) (slice_get xs k)
  from F [] i t k h = absurd (not-suc-le-zero h)
  from F (x ∷ xs) i t zero h = subst (λ (m : ℕ). F m (Some x)) (sym (add-zero i)) t.0
  from F (x ∷ xs) i t (suc k) h =
      subst (λ (m : ℕ). F m (slice_get xs k)) (suc-add i k ∙ sym (add-suc i k))
      (from F xs (suc i) t.1 k (le_of_suc-le-suc h))

  pub at : (F : ℕ → Option A → Type 0) (xs : List A) → Every F 0 xs → (k : ℕ) → k < length xs → F k (slice_get xs k)
  at F xs t k h = subst (λ (m : ℕ). F m (slice_get xs k)) (zero-add k) (from F xs 0 t k h)
