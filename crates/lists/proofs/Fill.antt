-- A list that is written at successive indices: what a loop finds of it, and that from 0 on it is a prefix.
use mathlib.Core.Path.{◌≡◌, refl, sym, ap, ◌∙◌}
use mathlib.Core.List.{List, [], ◌∷◌, ◌++◌, append_assoc}
use Prim.Native.Nat.{ℕ, zero, suc, ◌+◌, ◌≤◌}
use native.Mathlib.Numerals.{add-one}
use native.Mathlib.Omega.{arith}
use lib.ListN.{length, get_or, set, take, drop, length-set}
use lib.Seq.{drop-cons, set_at, take_at}
use Rattle.lists.specs.Each.{each}
use Rattle.lists.proofs.Entries.{each_length, each_append}
use Rattle.lists.specs.Fill.{fill_at, prefix}

module _ {A : Type 0} (base : ℕ) (f : ℕ → A) (xs : List A) where
  pub fill_length : (n : ℕ) → length (fill_at base f xs n) ≡ length xs
  unfolding fill_at
  fill_length zero = refl
  fill_length (suc n) = length-set (fill_at base f xs n) (base + n) (f n) ∙ fill_length n

pub snoc : {A : Type 0} (f : ℕ → A) (n : ℕ) → each f 0 n ++ (f n ∷ []) ≡ each f 0 (suc n)
unfolding each
snoc f n =
    let q : n ≡ 0 + n = omega arith in
    ap (λ (k : ℕ). each f 0 n ++ (f k ∷ [])) q ∙ sym (each_append f 0 n 1) ∙ ap (each f 0) (add-one n)

module _ {A : Type 0} (f : ℕ → A) (xs : List A) (d : A) where
  pub fill_prefix : (n : ℕ) → n ≤ length xs → fill_at 0 f xs n ≡ prefix f n xs
  unfolding fill_at prefix
  fill_prefix zero h = refl
  fill_prefix (suc n) h =
      let q : n ≡ 0 + n = omega arith in
      ap (λ (l : List A). set l (0 + n) (f n)) (fill_prefix n (omega arith) ∙ ap (λ (l : List A). each f 0 n ++ l) (drop-cons xs n d h))
      ∙ set_at (each f 0 n) (get_or xs n d) (drop (suc n) xs) (f n) (0 + n) (each_length f 0 n ∙ q) ∙ sym (append_assoc (each f 0 n) (f n ∷ []) (drop (suc n) xs))
      ∙ ap (λ (l : List A). l ++ drop (suc n) xs) (snoc f n)

  -- the part that is written is what was to be written
  pub take_prefix : (n : ℕ) → take n (prefix f n xs) ≡ each f 0 n
  unfolding prefix
  take_prefix n = take_at (each f 0 n) (drop n xs) n (each_length f 0 n)
