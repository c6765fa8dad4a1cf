-- The tests of rising lists and of a report, from what their lists are known to be.
use mathlib.Core.Path.{◌≡◌, refl, sym, ◌∙◌, ap}
use mathlib.Core.Bool.{Bool, true, false, cond}
use mathlib.Core.List.{List, [], ◌∷◌}
use Prim.Native.Nat.{ℕ, zero, suc, ◌+◌, ◌-◌, ◌<◌}
use native.Mathlib.Omega.{arith}
use borrow.Author.Tests.{lt-ltb, eq-eqb}
use lib.Dec.{ltb, eqb}
use lib.ListN.{length, get_or}
use Rattle.plan.specs.Plan as P
use Rattle.lists.specs.All.{all}
use Rattle.lists.proofs.Tests.{both}
use Rattle.tick_check.specs.Check.{pairs, rises_below, times, each_once}
use Rattle.tick_check.proofs.All.{all_from}

-- n entries of which each but the last is below the one after it
pub pairs_rise : (xs : List ℕ) (from n : ℕ) → ((i : ℕ) → suc i < n → get_or xs (from + i) 0 < get_or xs (from + i + 1) 0) → pairs xs from (n - 1) ≡ true
unfolding pairs
pairs_rise xs from n h = all_from (λ i. ltb (get_or xs (from + i) 0) (get_or xs (from + i + 1) 0)) (n - 1) (λ i b. lt-ltb _ _ (h i (omega arith)))

-- ---- a list of nodes that rises

pub rising_below : (least limit : ℕ) (xs : List ℕ) (i : ℕ) → P.Rising least limit xs → i < length xs → get_or xs i 0 < limit
rising_below least limit [] i r h = absurd (omega arith)
rising_below least limit (x ∷ xs) zero r h = r.1
rising_below least limit (x ∷ xs) (suc i) r h = rising_below (suc x) limit xs i r.2 (omega arith)

rising_next : (least limit : ℕ) (xs : List ℕ) (i : ℕ) → P.Rising least limit xs → suc i < length xs → get_or xs i 0 < get_or xs (suc i) 0
rising_next least limit [] i r h = absurd (omega arith)
rising_next least limit (x ∷ []) i r h = absurd (omega arith)
rising_next least limit (x ∷ y ∷ xs) zero r h = r.2.0
rising_next least limit (x ∷ y ∷ xs) (suc i) r h = rising_next (suc x) limit (y ∷ xs) i r.2 (omega arith)

module _ (nums xs : List ℕ) (from : ℕ) (stand : (k : ℕ) → k < length xs → get_or nums (from + k) 0 ≡ get_or xs k 0) where
  pub list_rises : (least nodes : ℕ) → P.Rising least nodes xs → rises_below nums from (length xs) nodes ≡ true
  unfolding rises_below
  list_rises least nodes r =
      both (all (λ i. ltb (get_or nums (from + i) 0) nodes) (length xs)) (pairs nums from (length xs - 1))
      (all_from (λ i. ltb (get_or nums (from + i) 0) nodes) (length xs) (λ i b. lt-ltb (get_or nums (from + i) 0) nodes (rw (stand i b) (rising_below least nodes xs i r b))))
      (pairs_rise nums from (length xs) (λ i b.
      let e : from + i + 1 ≡ from + suc i = omega arith in
      rw (stand i (omega arith), e, stand (suc i) b) (rising_next least nodes xs i r b)))

-- ---- each node once

-- counting from the first entry on
times_front : (nums : List ℕ) (from v n : ℕ) → times nums from v (suc n) ≡ cond (eqb (get_or nums from 0) v) 1 0 + times nums (suc from) v n
unfolding times
times_front nums from v zero =
    let e : from + 0 ≡ from = omega arith in
    ap (λ (j : ℕ). cond (eqb (get_or nums j 0) v) (0 + 1) 0) e ∙ go (eqb (get_or nums from 0) v)
  where
    go : (b : Bool) → cond b (0 + 1) 0 ≡ cond b 1 0 + 0
    go true = refl
    go false = refl
times_front nums from v (suc n) =
    let e : from + suc n ≡ suc from + n = omega arith in
    (λ i. cond (eqb (get_or nums (e i) 0) v) (times_front nums from v n i + 1) (times_front nums from v n i))
    ∙ go (eqb (get_or nums (suc from + n) 0) v) (cond (eqb (get_or nums from 0) v) 1 0) (times nums (suc from) v n)
  where
    go : (b : Bool) (a m : ℕ) → cond b (a + m + 1) (a + m) ≡ a + cond b (m + 1) m
    go true a m = omega arith
    go false a m = refl

times_same : (nums xs : List ℕ) (from v : ℕ) → ((k : ℕ) → k < length xs → get_or nums (from + k) 0 ≡ get_or xs k 0) → times nums from v (length xs) ≡ P.times v xs
unfolding times
times_same nums [] from v h = refl
times_same nums (x ∷ xs) from v h =
    let e : from + 0 ≡ from = omega arith in
    let first : get_or nums from 0 ≡ x = rw e at (h 0 (omega arith)) in
    times_front nums from v (length xs)
    ∙ (λ i. cond (eqb (first i) v) 1 0 + times_same nums xs (suc from) v (λ k b. let q : suc from + k ≡ from + suc k = omega arith in ap (λ (j : ℕ). get_or nums j 0) q ∙ h (suc k) (omega arith)) i)

pub once : (nums xs : List ℕ) (from nodes : ℕ) → length xs ≡ nodes → ((k : ℕ) → k < length xs → get_or nums (from + k) 0 ≡ get_or xs k 0)
    → ((v : ℕ) → v < nodes → P.times v xs ≡ 1) → each_once nums from nodes ≡ true
unfolding each_once
once nums xs from nodes l h o =
    all_from (λ v. eqb (times nums from v nodes) 1) nodes
    (λ v b. eq-eqb (times nums from v nodes) 1 (ap (λ (n : ℕ). times nums from v n) (sym l) ∙ times_same nums xs from v h ∙ o v b))
