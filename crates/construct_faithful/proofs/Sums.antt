-- A sum of two term lists in floats is the sum in pairs, coefficient by coefficient, where coefficients are at most 2^23 in size, so that a sum of two
-- is still exact and can be tested.
use Prim.Native.Nat.{ℕ, suc, ◌+◌, ◌≤◌, ◌<◌, compare, Ordering}
use native.Mathlib.Omega.{arith}
use mathlib.Core.Path.{◌≡◌, refl, ap, sym, ◌∙◌}
use mathlib.Core.Logic.{◌≢◌}
use mathlib.Core.Bool.{Bool, true, false, cond}
use mathlib.Core.List.{List, [], ◌∷◌}
use lib.Dec.{eqb, ltb, compare_is_eq, is_le}
use borrow.Author.Tests.{ltb-true, ltb-false, leb-true, leb-false, ne_eqb, eqb-true, eqb-false}
use lib.Ieee.{binary32, add, eq}
use Rattle.exact.specs.Whole.{diff, Within, zero32}
use Rattle.exact.proofs.Whole.{add_diff, eq_diff, zero_is}
use Rattle.wire.specs.declared.Term.{Term as FloatTerm}
use Rattle.arena_terms.specs.Sums.{kept, merge_into, merge as mergeF, summed as summedF}
use Rattle.construct.specs.Pairs.{Term, summed, keep, insert_at, insert, merge}
use Rattle.construct.specs.Scope.{Within as Rising}
use Rattle.construct_sizes.specs.Exact.{Coefs}
use Rattle.construct_faithful.proofs.Float.{float_term, float_terms}

-- at most 2^23 in size
abbrev pub Near : ℕ → ℕ → Type 0
Near p q = (p ≤ q + 8388608) × (q ≤ p + 8388608)

pub near : (p q : ℕ) → Near p q → Within binary32 p q
near p q h = (omega (arith, h.0), omega (arith, h.1))

near2 : (p q r u : ℕ) → Near p q → Near r u → Within binary32 (p + r) (q + u)
near2 p q r u h k = (omega (arith, h.0, k.0), omega (arith, h.1, k.1))

-- a test against 0
pub eq_zero : (p q : ℕ) → Within binary32 p q → eq (diff binary32 p q) zero32 ≡ eqb p q
eq_zero p q h =
    let a : p + 0 ≡ p = omega arith in
    let b : 0 + q ≡ q = omega arith in
    ap (eq (diff binary32 p q)) zero_is ∙ eq_diff binary32 p q 0 0 h (omega arith, omega arith) ∙ (λ i. eqb (a i) (b i))

-- wires rise strictly from w on; no coefficient is 0; each is at most 2^23 in size
abbrev pub Fit : ℕ → List Term → Type 0
Fit w [] = Unit {0}
Fit w (t ∷ ts) = (w ≤ t.wire) × Near t.cp t.cn × (t.cp ≢ t.cn) × Fit (suc t.wire) ts

pub fit_of : (w n : ℕ) (ts : List Term) → Rising w n ts → Coefs 8388608 ts → Fit w ts
fit_of w n [] r c = tt
fit_of w n (t ∷ ts) r c = (r.0, c.0, r.2, fit_of (suc t.wire) n ts r.3 c.1)

-- ---- the native comparison

cmp_lt : (m n : ℕ) → m < n → compare m n ≡ Ordering.lt
cmp_lt m n l = go (compare m n) refl
  where
    go : (o : Ordering) → compare m n ≡ o → compare m n ≡ Ordering.lt
    go Ordering.lt e = e
    go Ordering.eq e = let q : m ≡ n = eqb-true m n (ap compare_is_eq e) in absurd (omega arith)
    go Ordering.gt e = let q : n < m = leb-false m n (ap is_le e) in absurd (omega arith)

cmp_gt : (m n : ℕ) → n < m → compare m n ≡ Ordering.gt
cmp_gt m n l = go (compare m n) refl
  where
    go : (o : Ordering) → compare m n ≡ o → compare m n ≡ Ordering.gt
    go Ordering.lt e = let q : m ≤ n = leb-true m n (ap is_le e) in absurd (omega arith)
    go Ordering.eq e = let q : m ≡ n = eqb-true m n (ap compare_is_eq e) in absurd (omega arith)
    go Ordering.gt e = e

cmp_eq : (m n : ℕ) → m ≡ n → compare m n ≡ Ordering.eq
cmp_eq m n l = go (compare m n) refl
  where
    go : (o : Ordering) → compare m n ≡ o → compare m n ≡ Ordering.eq
    go Ordering.lt e = absurd (eqb-false m n (ap compare_is_eq e) l)
    go Ordering.eq e = e
    go Ordering.gt e = absurd (eqb-false m n (ap compare_is_eq e) l)

-- ---- sorted lists of pairs

abbrev From : ℕ → List Term → Type 0
From w [] = Unit {0}
From w (t ∷ ts) = (w ≤ t.wire) × From (suc t.wire) ts

fit_from : (w : ℕ) (ts : List Term) → Fit w ts → From w ts
fit_from w [] h = tt
fit_from w (t ∷ ts) h = (h.0, fit_from (suc t.wire) ts h.3)

lower : (v w : ℕ) (ts : List Term) → v ≤ w → From w ts → From v ts
lower v w [] l h = tt
lower v w (t ∷ ts) l h = let k = h.0 in (omega arith, h.1)

insert_front : (t : Term) (us : List Term) → From (suc t.wire) us → insert t us ≡ t ∷ us
unfolding insert insert_at
insert_front t [] h = refl
insert_front t (u ∷ us) h = rw (cmp_lt t.wire u.wire h.0) refl

merge_nil : (w : ℕ) (ts : List Term) → From w ts → merge ts [] ≡ ts
unfolding merge
merge_nil w [] h = refl
merge_nil w (t ∷ ts) h = ap (insert t) (merge_nil (suc t.wire) ts h.1) ∙ insert_front t ts h.1

from_keep : (b : Bool) (t : Term) (us : List Term) (w : ℕ) → w ≤ t.wire → From (suc t.wire) us → From w (keep b t us)
unfolding keep
from_keep true t us w l h = lower w (suc t.wire) us (omega arith) h
from_keep false t us w l h = (l, h)

from_insert : (w : ℕ) (t : Term) (us : List Term) → w ≤ t.wire → From w us → From w (insert t us)
unfolding insert insert_at
from_insert w t [] l h = (l, tt)
from_insert w t (u ∷ us) l h = go (compare t.wire u.wire) refl (λ q. from_insert (suc u.wire) t us q h.1)
  where
    go : (o : Ordering) → compare t.wire u.wire ≡ o → (suc u.wire ≤ t.wire → From (suc u.wire) (insert t us)) → From w (insert_at o t u us (insert t us))
    go Ordering.lt e ih = let q : t.wire ≤ u.wire = leb-true t.wire u.wire (ap is_le e) in let n = eqb-false t.wire u.wire (ap compare_is_eq e) in (l, (less q n, h.1))
      where
        less : t.wire ≤ u.wire → (t.wire ≡ u.wire → ⊥) → t.wire < u.wire
        less q n = omega (arith, q, n)
    go Ordering.eq e ih = from_keep _ (summed t u) us w h.0 h.1
    go Ordering.gt e ih = let q : u.wire < t.wire = leb-false t.wire u.wire (ap is_le e) in (h.0, ih q)

from_merge : (w : ℕ) (ts us : List Term) → From w ts → From w us → From w (merge ts us)
unfolding merge
from_merge w [] us h k = k
from_merge w (t ∷ ts) us h k = from_insert w t (merge ts us) h.0 (from_merge w ts us (lower w (suc t.wire) ts (let l = h.0 in omega arith) h.1) k)

merge_below : (b : Term) (xs ys : List Term) → From (suc b.wire) xs → merge xs (b ∷ ys) ≡ b ∷ merge xs ys
unfolding merge insert insert_at
merge_below b [] ys h = refl
merge_below b (x ∷ xs) ys h =
    let l = h.0 in
    rw (merge_below b xs ys (lower (suc b.wire) (suc x.wire) xs (omega arith) h.1), cmp_gt x.wire b.wire (omega arith)) refl

-- ---- the sum

nonzero : (t : Term) → Near t.cp t.cn → t.cp ≢ t.cn → eq (diff binary32 t.cp t.cn) zero32 ≡ false
nonzero t h n = eq_zero t.cp t.cn (near _ _ h) ∙ ne_eqb t.cp t.cn n

pub kept_fit : (w : ℕ) (ts : List Term) → Fit w ts → kept (float_terms ts) ≡ float_terms ts
unfolding kept
kept_fit w [] h = refl
kept_fit w (t ∷ ts) h = rw (nonzero t h.1 h.2) (ap (λ l. float_term t ∷ l) (kept_fit (suc t.wire) ts h.3))

into : (a : Term) (xs : List Term) (w : ℕ) → Fit w (a ∷ xs)
    → ((v : ℕ) (zs : List Term) → Fit v zs → kept (mergeF (float_terms xs) (float_terms zs)) ≡ float_terms (merge xs zs))
    → (v : ℕ) (ys : List Term) → Fit v ys → kept (merge_into (float_term a) (float_terms xs) (mergeF (float_terms xs)) (float_terms ys)) ≡ float_terms (insert a (merge xs ys))
unfolding merge_into kept insert insert_at keep
into a xs w h ih v [] k =
    let f = fit_from (suc a.wire) xs h.3 in
    kept_fit w (a ∷ xs) h ∙ ap float_terms (sym (insert_front a xs f) ∙ ap (insert a) (sym (merge_nil (suc a.wire) xs f)))
into a xs w h ih v (b ∷ ys) k = go (ltb a.wire b.wire) (ltb b.wire a.wire) refl refl (into a xs w h ih (suc b.wire) ys k.3)
  where
    f : From (suc a.wire) xs
    f = fit_from (suc a.wire) xs h.3

    r : List Term
    r = merge xs ys

    s : FloatTerm
    s = record { wire = record { 0 = a.wire }; coef = add binary32 (diff binary32 a.cp a.cn) (diff binary32 b.cp b.cn) }

    last : (z : Bool) → a.wire ≡ b.wire
        → cond z (float_terms r) (record { wire = record { 0 = a.wire }; coef = diff binary32 (a.cp + b.cp) (a.cn + b.cn) } ∷ float_terms r) ≡ float_terms (keep z (summed a b) r)
    last true e = refl
    last false e = λ i. record { wire = record { 0 = e i }; coef = diff binary32 (a.cp + b.cp) (a.cn + b.cn) } ∷ float_terms r

    go : (p q : Bool) → ltb a.wire b.wire ≡ p → ltb b.wire a.wire ≡ q
        → kept (merge_into (float_term a) (float_terms xs) (mergeF (float_terms xs)) (float_terms ys)) ≡ float_terms (insert a (merge xs ys))
        → kept (cond p (float_term a ∷ mergeF (float_terms xs) (float_terms (b ∷ ys))) (cond q (float_term b ∷ merge_into (float_term a) (float_terms xs) (mergeF (float_terms xs)) (float_terms ys)) (s ∷ mergeF (float_terms xs) (float_terms ys))))
        ≡ float_terms (insert a (merge xs (b ∷ ys)))
    go true q ep eq' inner =
        let l : a.wire < b.wire = ltb-true a.wire b.wire ep in
        let g = fit_from (suc b.wire) ys k.3 in
        rw (nonzero a h.1 h.2, ih v (b ∷ ys) k) (ap float_terms (sym (insert_front a (merge xs (b ∷ ys)) (from_merge (suc a.wire) xs (b ∷ ys) f (l, g)))))
    go false true ep eq' inner =
        let l : b.wire < a.wire = ltb-true b.wire a.wire eq' in
        rw (nonzero b k.1 k.2, inner)
        (ap float_terms (sym (ap (insert a) (merge_below b xs ys (lower (suc b.wire) (suc a.wire) xs (omega arith) f)) ∙ (λ i. insert_at (cmp_gt a.wire b.wire l i) a b r (insert a r)))))
    go false false ep eq' inner =
        let l = ltb-false a.wire b.wire ep in
        let l' = ltb-false b.wire a.wire eq' in
        let e : a.wire ≡ b.wire = omega arith in
        let c : add binary32 (diff binary32 a.cp a.cn) (diff binary32 b.cp b.cn) ≡ diff binary32 (a.cp + b.cp) (a.cn + b.cn) =
        add_diff binary32 a.cp a.cn b.cp b.cn (near _ _ h.1) (near _ _ k.1) in
        rw (c, eq_zero (a.cp + b.cp) (a.cn + b.cn) (near2 a.cp a.cn b.cp b.cn h.1 k.1), ih (suc b.wire) ys k.3)
        (last (eqb (a.cp + b.cp) (a.cn + b.cn)) e
        ∙ ap float_terms (sym (ap (insert a) (merge_below b xs ys (lower (suc b.wire) (suc a.wire) xs (omega arith) f)) ∙ (λ i. insert_at (cmp_eq a.wire b.wire e i) a b r (insert a r)))))

merge_same : (w v : ℕ) (xs ys : List Term) → Fit w xs → Fit v ys → kept (mergeF (float_terms xs) (float_terms ys)) ≡ float_terms (merge xs ys)
unfolding mergeF merge
merge_same w v [] ys h k = kept_fit v ys k
merge_same w v (x ∷ xs) ys h k = into x xs w h (λ u zs. merge_same (suc x.wire) u xs zs h.3) v ys k

pub summed_same : (w v : ℕ) (xs ys : List Term) → Fit w xs → Fit v ys → summedF (float_terms xs) (float_terms ys) ≡ float_terms (merge xs ys)
unfolding summedF
summed_same w v [] ys h k = unfold merge in refl
summed_same w v (x ∷ xs) [] h k = ap float_terms (sym (merge_nil w (x ∷ xs) (fit_from w (x ∷ xs) h)))
summed_same w v (x ∷ xs) (y ∷ ys) h k = merge_same w v (x ∷ xs) (y ∷ ys) h k
