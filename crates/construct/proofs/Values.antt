-- The value of each operation on forms: sums keep only the difference of P and N, since cancelled terms are dropped from both.
use Prim.Native.Nat.{Ordering, ◌*◌, ◌+◌, compare, suc, zero, ℕ}
use native.Mathlib.Omega.{arith}
use mathlib.Core.Bool.{Bool, false, true}
use mathlib.Core.List.{List, [], ◌∷◌}
use mathlib.Core.Path.{◌≡◌, ap, refl}
use lib.Dec.{T, eqb, eqb→eq}
use Rattle.construct.specs.Builder.{minus}
use Rattle.construct.specs.Pairs.{Form, Term, constant, flip, insert, insert_at, keep, merge, negate, offset, pairs, plus, scaled, summed, times, wire'}
use Rattle.construct.specs.Value.{N, P, Val, sum_n, sum_p}

keep_law : (ρ : ℕ → ℕ) (b : Bool) (t : Term) (ts : List Term) → (T b → t.cp ≡ t.cn)
    → sum_p ρ (keep b t ts) + (t.cn * ρ t.wire + sum_n ρ ts) ≡ sum_n ρ (keep b t ts) + (t.cp * ρ t.wire + sum_p ρ ts)
unfolding keep sum_p sum_n
keep_law ρ true t ts h = rw (h tt) (omega arith)
keep_law ρ false t ts h = omega arith

insert_at_lem : (ρ : ℕ → ℕ) (o : Ordering) (t u : Term) (us r : List Term)
    → (o ≡ Ordering.eq → t.wire ≡ u.wire)
    → sum_p ρ r + (t.cn * ρ t.wire + sum_n ρ us) ≡ sum_n ρ r + (t.cp * ρ t.wire + sum_p ρ us)
    → sum_p ρ (insert_at o t u us r) + (t.cn * ρ t.wire + (u.cn * ρ u.wire + sum_n ρ us))
    ≡ sum_n ρ (insert_at o t u us r) + (t.cp * ρ t.wire + (u.cp * ρ u.wire + sum_p ρ us))
unfolding insert_at sum_p sum_n
insert_at_lem ρ Ordering.lt t u us r e h = omega arith
insert_at_lem ρ Ordering.eq t u us r e h = rw (e refl)
    (omega (arith, keep_law ρ (eqb (t.cp + u.cp) (t.cn + u.cn)) (summed t u) us (eqb→eq (t.cp + u.cp) (t.cn + u.cn))))
insert_at_lem ρ Ordering.gt t u us r e h = omega arith

pub eq_of : (m n : ℕ) → compare m n ≡ Ordering.eq → m ≡ n
eq_of m n e = eqb→eq m n (rw e tt)

insert_law : (ρ : ℕ → ℕ) (t : Term) (us : List Term)
    → sum_p ρ (insert t us) + (t.cn * ρ t.wire + sum_n ρ us) ≡ sum_n ρ (insert t us) + (t.cp * ρ t.wire + sum_p ρ us)
unfolding insert sum_p sum_n
insert_law ρ t [] = omega arith
insert_law ρ t (u ∷ us) = insert_at_lem ρ (compare t.wire u.wire) t u us (insert t us) (eq_of t.wire u.wire) (insert_law ρ t us)

merge_law : (ρ : ℕ → ℕ) (ts us : List Term)
    → sum_p ρ (merge ts us) + (sum_n ρ ts + sum_n ρ us) ≡ sum_n ρ (merge ts us) + (sum_p ρ ts + sum_p ρ us)
unfolding merge sum_p sum_n
merge_law ρ [] us = omega arith
merge_law ρ (t ∷ ts) us = omega (arith, merge_law ρ ts us, insert_law ρ t (merge ts us))

flip_p : (ρ : ℕ → ℕ) (ts : List Term) → sum_p ρ (flip ts) ≡ sum_n ρ ts
unfolding flip sum_p sum_n
flip_p ρ [] = refl
flip_p ρ (t ∷ ts) = omega (arith, flip_p ρ ts)

flip_n : (ρ : ℕ → ℕ) (ts : List Term) → sum_n ρ (flip ts) ≡ sum_p ρ ts
unfolding flip sum_p sum_n
flip_n ρ [] = refl
flip_n ρ (t ∷ ts) = omega (arith, flip_n ρ ts)

times_p : (ρ : ℕ → ℕ) (k : ℕ) (ts : List Term) → sum_p ρ (times k ts) ≡ k * sum_p ρ ts
unfolding times sum_p
times_p ρ k [] = omega arith
times_p ρ k (t ∷ ts) = omega (arith, times_p ρ k ts)

pub times_n : (ρ : ℕ → ℕ) (k : ℕ) (ts : List Term) → sum_n ρ (times k ts) ≡ k * sum_n ρ ts
unfolding times sum_n
times_n ρ k [] = omega arith
times_n ρ k (t ∷ ts) = omega (arith, times_n ρ k ts)

module _ (ρ : ℕ → ℕ) where
  pub constant_val : (b : ℕ) → Val ρ (constant b) b
  unfolding P N sum_p sum_n constant
  constant_val b = omega arith

  pub wire_val : (w : ℕ) → Val ρ (wire' w) (ρ w)
  unfolding P N sum_p sum_n wire'
  wire_val w = omega arith

  pub offset_p : (p n : ℕ) (f : Form) → P ρ (offset p n f) ≡ P ρ f + p
  unfolding P offset
  offset_p p n f = omega arith

  pub offset_n : (p n : ℕ) (f : Form) → N ρ (offset p n f) ≡ N ρ f + n
  unfolding N offset
  offset_n p n f = omega arith

  pub negate_p : (f : Form) → P ρ (negate f) ≡ N ρ f
  unfolding P N negate
  negate_p f = omega (arith, flip_p ρ f.terms)

  pub negate_n : (f : Form) → N ρ (negate f) ≡ P ρ f
  unfolding P N negate
  negate_n f = omega (arith, flip_n ρ f.terms)

  -- only the difference of P and N is kept: cancelled terms are dropped from both
  pub plus_law : (f g : Form) → P ρ (plus f g) + (N ρ f + N ρ g) ≡ N ρ (plus f g) + (P ρ f + P ρ g)
  unfolding P N plus
  plus_law f g = omega (arith, merge_law ρ f.terms g.terms)

  pub plus_val : (f g : Form) (v w : ℕ) → Val ρ f v → Val ρ g w → Val ρ (plus f g) (v + w)
  plus_val f g v w p q = omega (arith, plus_law f g)

  pub minus_val : (f g : Form) (v w : ℕ) → Val ρ f (v + w) → Val ρ g w → Val ρ (minus pairs f g) v
  unfolding minus
  minus_val f g v w p q = omega (arith, plus_law f (negate g), negate_p g, negate_n g)

  pub scaled_law : (k : ℕ) (f : Form) → (P ρ (scaled k f) ≡ k * P ρ f) × (N ρ (scaled k f) ≡ k * N ρ f)
  unfolding P N sum_p sum_n scaled constant
  scaled_law zero f = (omega arith, omega arith)
  scaled_law (suc k) f = (omega (arith, times_p ρ (suc k) f.terms), omega (arith, times_n ρ (suc k) f.terms))

  pub scaled_val : (k : ℕ) (f : Form) (v : ℕ) → Val ρ f v → Val ρ (scaled k f) (k * v)
  unfolding P N sum_p sum_n scaled constant
  scaled_val zero f v p = omega arith
  scaled_val (suc k) f v p = omega (arith, times_p ρ (suc k) f.terms, times_n ρ (suc k) f.terms, ap (suc k *◌) p)
