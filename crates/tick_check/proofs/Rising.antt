-- Entries that rise strictly are all below a limit where the last is.
use Rattle.std.proofs.Common.{◌≡◌, ℕ, zero, suc, ◌+◌, ◌-◌, ◌<◌, ◌≤◌, true, ◌&&◌, List, length, get_or, ltb, sym, arith}
use Rattle.std.proofs.Math.Logic.{⊎_elim}
use Rattle.std.proofs.Math.Nat.{eq-or-lt_of_le}
use Rattle.std.proofs.lemmas.Bool.{ltb-true, lt-ltb, and_parts, cases_Bool}
use Rattle.lists.specs.All.{all}
use Rattle.lists.proofs.Tests.{all_fails}
use Rattle.tick_check.specs.Check.{pairs, rises_below}
use Rattle.tick_check.proofs.All.{all_from}

-- n neighbours that rise, the last below a limit: so are all
below_last : (xs : List ℕ) (from n limit : ℕ) → pairs xs from n ≡ true → get_or xs (from + n) 0 < limit
    → (i : ℕ) → i ≤ n → get_or xs (from + i) 0 < limit
unfolding pairs all
below_last xs from zero limit e l i h = let q : i ≡ zero = omega arith in rw q l
below_last xs from (suc n) limit e l i h =
    let p = and_parts (pairs xs from n) (ltb (get_or xs (from + n) 0) (get_or xs (from + n + 1) 0)) e in
    let q : from + n + 1 ≡ from + suc n = omega arith in
    let s = rw q at (ltb-true (get_or xs (from + n) 0) (get_or xs (from + n + 1) 0) p.1) in
    ⊎_elim (λ z. rw z l) (λ m. below_last xs from n limit p.0 (omega arith) i (omega arith)) (eq-or-lt_of_le h)

-- where n + 1 entries rise, that all are below the limit is that the last is
below_is : (xs : List ℕ) (from n limit : ℕ) {many last : ℕ} → many ≡ suc n → last ≡ from + n → pairs xs from n ≡ true
    → all (λ i. ltb (get_or xs (from + i) 0) limit) many ≡ ltb (get_or xs last 0) limit
below_is xs from n limit m k e =
    rw (m, k)
    (⊎_elim
    (λ t. let l = ltb-true _ _ t in rw t (all_from _ (suc n) (λ i h. lt-ltb _ _ (below_last xs from n limit e l i (omega arith)))))
    (λ f. rw f (sym (all_fails _ n (suc n) (omega arith) f)))
    (cases_Bool (ltb (get_or xs (from + n) 0) limit)))

pub rises_by_last : (xs : List ℕ) (limit : ℕ) → 0 < length xs
    → rises_below xs 0 (length xs) limit ≡ ltb (get_or xs (length xs - 1) 0) limit && pairs xs 0 (length xs - 1)
unfolding rises_below
rises_by_last xs limit some =
    ⊎_elim
    (λ t. let b = below_is xs 0 (length xs - 1) limit {many = length xs} {last = length xs - 1} (omega arith) (omega arith) t in rw b)
    (λ f. rw f (grind arith))
    (cases_Bool (pairs xs 0 (length xs - 1)))

pub rises_empty : (xs : List ℕ) (limit : ℕ) → length xs ≡ 0 → rises_below xs 0 (length xs) limit ≡ true
unfolding rises_below pairs all
rises_empty xs limit none = rw none
