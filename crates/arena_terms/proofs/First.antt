-- The first term of a merge of two parts of the pools, by where it stands.
use mathlib.Core.Path.{◌≡◌, refl}
use mathlib.Core.List.{List, [], ◌∷◌}
use Prim.Native.Nat.{ℕ, zero, suc, ◌+◌, ◌-◌, ◌<◌}
use native.Mathlib.Numerals.{add-one, sub-one}
use native.Mathlib.Omega.{arith}
use borrow.Author.Tests.{lt-ltb, le-ltb}
use lib.ListN.{get_or}
use lib.Ieee.{Float, nan, binary32, add}
use Rattle.wire.specs.declared.Term.{Term}
use Rattle.wire.specs.Terms.{part, term_at}
use Rattle.arena_terms.specs.Sums.{merge, merge_into}
use Rattle.lists.proofs.Entries.{each_none, each_cons}

merge_nil : (xs : List Term) → merge xs [] ≡ xs
unfolding merge merge_into
merge_nil [] = refl
merge_nil (x ∷ xs) = refl

module _ (ws : List ℕ) (cs : List Float) where
  -- a part of no terms, and one taken apart at its first
  pub part_none : (i n : ℕ) → n ≡ 0 → part ws cs i n ≡ []
  unfolding part
  part_none i n e = rw e (each_none (term_at ws cs) i)

  pub part_first : (i n : ℕ) → 0 < n → part ws cs i n ≡ term_at ws cs i ∷ part ws cs (i + 1) (n - 1)
  unfolding part
  part_first i zero h = absurd (omega arith)
  part_first i (suc n) h = rw (add-one i, sub-one) (each_cons (term_at ws cs) i n)

  pub from_a : (i n j m : ℕ) → 0 < n → (0 < m → get_or ws i 0 < get_or ws j 0)
      → merge (part ws cs i n) (part ws cs j m) ≡ term_at ws cs i ∷ merge (part ws cs (i + 1) (n - 1)) (part ws cs j m)
  unfolding merge merge_into
  from_a i n j zero h lower = rw (part_first i n h, part_none j 0 refl, merge_nil)
  from_a i n j (suc m) h lower = rw (part_first i n h, part_first j (suc m) (omega arith), lt-ltb (get_or ws i 0) (get_or ws j 0) (lower (omega arith)))

  pub from_b : (i n j m : ℕ) → 0 < m → (0 < n → get_or ws j 0 < get_or ws i 0)
      → merge (part ws cs i n) (part ws cs j m) ≡ term_at ws cs j ∷ merge (part ws cs i n) (part ws cs (j + 1) (m - 1))
  unfolding merge merge_into
  from_b i zero j m h lower = rw (part_first j m h, part_none i 0 refl)
  from_b i (suc n) j m h lower =
      let q : get_or ws j 0 < get_or ws i 0 = lower (omega arith) in
      rw (part_first i (suc n) (omega arith), part_first j m h, le-ltb (get_or ws i 0) (get_or ws j 0) (omega arith), lt-ltb (get_or ws j 0) (get_or ws i 0) q)

  pub from_both : (i n j m : ℕ) → 0 < n → 0 < m → get_or ws i 0 ≡ get_or ws j 0
      → merge (part ws cs i n) (part ws cs j m)
      ≡ record { wire = record { 0 = get_or ws i 0 }; coef = add binary32 (get_or cs i nan) (get_or cs j nan) }
      ∷ merge (part ws cs (i + 1) (n - 1)) (part ws cs (j + 1) (m - 1))
  unfolding merge merge_into
  from_both i n j m h h' e =
      rw (part_first i n h, part_first j m h', le-ltb (get_or ws i 0) (get_or ws j 0) (omega arith), le-ltb (get_or ws j 0) (get_or ws i 0) (omega arith))
