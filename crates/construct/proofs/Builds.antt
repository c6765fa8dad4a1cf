-- The laws of builder.rs, under one fixed table ρ that satisfies every op of the list (`Sat`): no law speaks of an evaluation in
-- progress, and a form needs no bound on its wires.
use Prim.Native.Nat.{◌*◌, ◌+◌, ◌-◌, ◌≤◌, suc, zero, ℕ}
use native.Mathlib.Omega.{arith}
use mathlib.Core.Bool.{Bool, ◌&&◌, ◌||◌, and-false, and-true, false, not, or-false, or-true, true}
use mathlib.Core.List.{List, [], ◌∷◌}
use mathlib.Core.Logic.{◌≢◌}
use mathlib.Core.Path.{◌∙◌, ◌≡◌, refl}
use lib.Dec.{T, T_not, eqb, eqb→eq, leb}
use lib.ListN.{length}
use Rattle.construct.proofs.Bits.{bit_and, bit_is_z, bit_leb, bit_not, bit_or, eq→eqb, is_z, leb_add}
use Rattle.construct.proofs.Values.{constant_val, minus_val, negate_n, negate_p, offset_n, offset_p, plus_val, wire_val}
use Rattle.construct.specs.Builder.{and, and_at, at_least, at_least_at, is_zero, is_zero_at, not', or, or_at, push, relu, step}
use Rattle.construct.specs.Forms.{Known, No, Open, Yes}
use Rattle.construct.specs.Pairs.{Form, Op, Term, constant, empty, known, known_at, negate, offset, pairs, plus, wire'}
use Rattle.construct.specs.Value.{Bit, N, P, Val, op_val, sum_n, sum_p}
use Rattle.walk.specs.Kind.{bit}

-- a wire's form is no constant
pub wire_open : (i : ℕ) → known (wire' i) ≡ Open
unfolding known known_at empty wire'
wire_open i = refl

-- the op list only grows
pub data Grows : List Op → List Op → Type 0 where
  same : {os : List Op} → Grows os os
  more : {os os' : List Op} {o : Op} → Grows os os' → Grows os (o ∷ os')

pub after : {a b c : List Op} → Grows a b → Grows b c → Grows a c
after p same = p
after p (more q) = more (after p q)

module _ (opsAt : ℕ) where
  pub push_grows : (f g : Form) (os : List Op) → Grows os (push pairs opsAt f g os).ops
  unfolding push
  push_grows f g os = more same

  pub relu_grows : (f : Form) (os : List Op) → Grows os (relu pairs opsAt f os).ops
  unfolding relu push
  relu_grows f os = more same

  is_zero_grows_at : (t : Known) (c : Form) (os : List Op) → Grows os (is_zero_at pairs opsAt t c os).ops
  unfolding is_zero_at relu push
  is_zero_grows_at No c os = same
  is_zero_grows_at Yes c os = same
  is_zero_grows_at Open c os = more same

  pub is_zero_grows : (c : Form) (os : List Op) → Grows os (is_zero pairs opsAt c os).ops
  unfolding is_zero
  is_zero_grows c os = is_zero_grows_at (known c) c os

  at_least_grows_at : (t : Known) (c : Form) (k : ℕ) (os : List Op) → Grows os (at_least_at pairs opsAt t c k os).ops
  unfolding at_least_at step relu push
  at_least_grows_at No c k os = same
  at_least_grows_at Yes c k os = same
  at_least_grows_at Open c k os = more (more same)

  pub at_least_grows : (c : Form) (k : ℕ) (os : List Op) → Grows os (at_least pairs opsAt c k os).ops
  unfolding at_least
  at_least_grows c k os = at_least_grows_at (known c) c k os

  and_grows_at : (t u : Known) (f g : Form) (os : List Op) → Grows os (and_at pairs opsAt t u f g os).ops
  unfolding and_at push
  and_grows_at Yes u f g os = same
  and_grows_at No Yes f g os = same
  and_grows_at No No f g os = same
  and_grows_at No Open f g os = same
  and_grows_at Open Yes f g os = same
  and_grows_at Open No f g os = same
  and_grows_at Open Open f g os = more same

  pub and_grows : (f g : Form) (os : List Op) → Grows os (and pairs opsAt f g os).ops
  unfolding and
  and_grows f g os = and_grows_at (known f) (known g) f g os

  or_grows_at : (t u : Known) (f g : Form) (os : List Op) → Grows os (or_at pairs opsAt t u f g os).ops
  unfolding or_at
  or_grows_at Yes u f g os = same
  or_grows_at No Yes f g os = same
  or_grows_at No No f g os = same
  or_grows_at No Open f g os = same
  or_grows_at Open Yes f g os = same
  or_grows_at Open No f g os = same
  or_grows_at Open Open f g os = and_grows f g os

  pub or_grows : (f g : Form) (os : List Op) → Grows os (or pairs opsAt f g os).ops
  unfolding or
  or_grows f g os = or_grows_at (known f) (known g) f g os

-- what the environment satisfies
abbrev pub Sat : ℕ → (ℕ → ℕ) → List Op → Type 0
Sat opsAt ρ [] = Unit
Sat opsAt ρ (o ∷ os) = (ρ (opsAt + length os) ≡ op_val ρ o) × Sat opsAt ρ os

-- what is known of a form is so of its value
abbrev pub KnownIs : Known → ℕ → Type 0
KnownIs Yes v = 1 ≤ v
KnownIs No v = v ≡ 0
KnownIs Open v = Unit

set : (a : Bool) → 1 ≤ bit a → a ≡ true
set true h = refl
set false h = absurd (omega arith)

clear : (a : Bool) → bit a ≡ 0 → a ≡ false
clear true h = absurd (omega arith)
clear false h = refl

is_z_set : (v : ℕ) → 1 ≤ v → 0 ≡ bit (is_z v)
is_z_set zero h = absurd (omega arith)
is_z_set (suc v) h = refl

module _ (ρ : ℕ → ℕ) where
  -- a form without terms
  none_p : (ts : List Term) → T (empty ts) → sum_p ρ ts ≡ 0
  unfolding sum_p empty
  none_p [] h = refl
  none_p (t ∷ ts) h = absurd h

  none_n : (ts : List Term) → T (empty ts) → sum_n ρ ts ≡ 0
  unfolding sum_n empty
  none_n [] h = refl
  none_n (t ∷ ts) h = absurd h

module _ (opsAt : ℕ) (ρ : ℕ → ℕ) where
  pub back : {a b : List Op} → Grows a b → Sat opsAt ρ b → Sat opsAt ρ a
  back same s = s
  back (more p) s = back p s.1

  pub not_val : (f : Form) (a : Bool) → Bit ρ f a → Bit ρ (not' pairs f) (not a)
  unfolding not'
  not_val f a p = omega (arith, offset_p ρ 1 0 (negate f), offset_n ρ 1 0 (negate f), negate_p ρ f, negate_n ρ f, bit_not a)

  -- a form without terms, of value v
  const_is : (f : Form) (v : ℕ) → Val ρ f v → T (empty f.terms) → f.bp ≡ f.bn + v
  unfolding P N
  const_is f v p h = omega (arith, none_p ρ f.terms h, none_n ρ f.terms h)

  -- a form without terms has one value in every table
  pub const_same : (τ : ℕ → ℕ) (f : Form) (v : ℕ) → Val ρ f v → T (empty f.terms) → Val τ f v
  unfolding P N
  const_same τ f v p h = omega (arith, const_is f v p h, none_p τ f.terms h, none_n τ f.terms h)

  push_val : (f g : Form) (v w : ℕ) (os : List Op) → Val ρ f v → P ρ g - N ρ g ≡ w
      → Sat opsAt ρ (push pairs opsAt f g os).ops → Val ρ (push pairs opsAt f g os).form (v * w)
  unfolding push op_val
  push_val f g v w os p q s =
      let e : P ρ f - N ρ f ≡ v = omega arith in
      let r : ρ (opsAt + length os) ≡ v * w = s.0 ∙ rw (e, q) refl in
      rw (← r) (wire_val ρ (opsAt + length os))

  pub relu_val : (f : Form) (w : ℕ) (os : List Op) → P ρ f - N ρ f ≡ w → Sat opsAt ρ (relu pairs opsAt f os).ops → Val ρ (relu pairs opsAt f os).form w
  unfolding relu
  relu_val f w os q s = omega (arith, push_val (constant 1) f 1 w os (constant_val ρ 1) q s)

  known_at_lem : (b z : Bool) (f : Form) (v : ℕ) → (T b → f.bp ≡ f.bn + v) → (T z → f.bp ≡ f.bn) → (T (not z) → f.bp ≢ f.bn) → KnownIs (known_at b z) v
  unfolding known_at
  known_at_lem true true f v k y n = omega (arith, k tt, y tt)
  known_at_lem true false f v k y n = omega (arith, k tt, n tt)
  known_at_lem false z f v k y n = tt

  pub known_is : (f : Form) (v : ℕ) → Val ρ f v → KnownIs (known f) v
  unfolding known
  known_is f v h = known_at_lem (empty f.terms) (eqb f.bp f.bn) f v (const_is f v h) (eqb→eq f.bp f.bn) (λ t e. T_not (eqb f.bp f.bn) t (eq→eqb f.bp f.bn e))

  is_zero_val_at : (t : Known) (c : Form) (v : ℕ) (os : List Op) → KnownIs t v → Val ρ c v
      → Sat opsAt ρ (is_zero_at pairs opsAt t c os).ops → Bit ρ (is_zero_at pairs opsAt t c os).form (is_z v)
  unfolding is_zero_at
  is_zero_val_at No c v os m h s = rw m (constant_val ρ 1)
  is_zero_val_at Yes c v os m h s = rw (← is_z_set v m) (constant_val ρ 0)
  is_zero_val_at Open c v os m h s = rw (bit_is_z v) (relu_val (offset 1 0 (negate c)) (1 - v) os
      (omega (arith, offset_p ρ 1 0 (negate c), offset_n ρ 1 0 (negate c), negate_p ρ c, negate_n ρ c)) s)

  pub is_zero_val : (c : Form) (v : ℕ) (os : List Op) → Val ρ c v → Sat opsAt ρ (is_zero pairs opsAt c os).ops → Bit ρ (is_zero pairs opsAt c os).form (is_z v)
  unfolding is_zero
  is_zero_val c v os h s = is_zero_val_at (known c) c v os (known_is c v h) h s

  -- a form that is no open one has no terms
  closed : (f : Form) → (known f ≡ Open → ⊥) → T (empty f.terms)
  unfolding known known_at
  closed f h = go (empty f.terms) h
    where
      go : (b : Bool) → (known_at b (eqb f.bp f.bn) ≡ Open → ⊥) → T b
      go true h = tt
      go false h = h refl

  fixed_val : (c : Form) (k v : ℕ) → Val ρ c v → T (empty c.terms) → Bit ρ (constant (bit (leb (c.bn + k) c.bp))) (leb k v)
  fixed_val c k v h e = rw (const_is c v h e, leb_add c.bn k v) (constant_val ρ (bit (leb k v)))

  pub step_val : (c : Form) (k v : ℕ) (os : List Op) → Val ρ c v → Sat opsAt ρ (step pairs opsAt c k os).ops → Bit ρ (step pairs opsAt c k os).form (leb k v)
  unfolding step
  step_val c k v os h s =
      let f : Form = offset 1 k c in
      let g : Form = offset 0 1 f in
      let high : Val ρ (relu pairs opsAt f os).form (suc v - k) = relu_val f (suc v - k) os (omega (arith, offset_p ρ 1 k c, offset_n ρ 1 k c)) (back (relu_grows opsAt g (relu pairs opsAt f os).ops) s) in
      let low : Val ρ (relu pairs opsAt g (relu pairs opsAt f os).ops).form (v - k) =
      relu_val g (v - k) (relu pairs opsAt f os).ops (omega (arith, offset_p ρ 1 k c, offset_n ρ 1 k c, offset_p ρ 0 1 f, offset_n ρ 0 1 f)) s in
      minus_val ρ (relu pairs opsAt f os).form (relu pairs opsAt g (relu pairs opsAt f os).ops).form (bit (leb k v)) (v - k) (omega (arith, bit_leb k v, high)) low

  at_least_val_at : (t : Known) (c : Form) (k v : ℕ) (os : List Op) → known c ≡ t → Val ρ c v
      → Sat opsAt ρ (at_least_at pairs opsAt t c k os).ops → Bit ρ (at_least_at pairs opsAt t c k os).form (leb k v)
  unfolding at_least_at
  at_least_val_at No c k v os e h s = fixed_val c k v h (closed c (λ o. let z : ◌≡◌ {A = ℕ} 0 1 = cc in omega arith))
  at_least_val_at Yes c k v os e h s = fixed_val c k v h (closed c (λ o. let z : ◌≡◌ {A = ℕ} 0 1 = cc in omega arith))
  at_least_val_at Open c k v os e h s = step_val c k v os h s

  pub at_least_val : (c : Form) (k v : ℕ) (os : List Op) → Val ρ c v → Sat opsAt ρ (at_least pairs opsAt c k os).ops → Bit ρ (at_least pairs opsAt c k os).form (leb k v)
  unfolding at_least
  at_least_val c k v os h s = at_least_val_at (known c) c k v os refl h s

  and_val_at : (t u : Known) (f g : Form) (a b : Bool) (os : List Op) → KnownIs t (bit a) → KnownIs u (bit b) → Bit ρ f a → Bit ρ g b
      → Sat opsAt ρ (and_at pairs opsAt t u f g os).ops → Bit ρ (and_at pairs opsAt t u f g os).form (a && b)
  unfolding and_at
  and_val_at Yes u f g a b os m k p q s = rw (set a m) q
  and_val_at No Yes f g a b os m k p q s = rw (clear a m) (rw (clear a m) at p)
  and_val_at No No f g a b os m k p q s = rw (clear a m) (constant_val ρ 0)
  and_val_at No Open f g a b os m k p q s = rw (clear a m) (constant_val ρ 0)
  and_val_at Open Yes f g a b os m k p q s = rw (set b k, and-true a) p
  and_val_at Open No f g a b os m k p q s = rw (clear b k, and-false a) (constant_val ρ 0)
  and_val_at Open Open f g a b os m k p q s = rw (← bit_and a b) (push_val f g (bit a) (bit b) os p (omega arith) s)

  pub and_val : (f g : Form) (a b : Bool) (os : List Op) → Bit ρ f a → Bit ρ g b
      → Sat opsAt ρ (and pairs opsAt f g os).ops → Bit ρ (and pairs opsAt f g os).form (a && b)
  unfolding and
  and_val f g a b os p q s = and_val_at (known f) (known g) f g a b os (known_is f (bit a) p) (known_is g (bit b) q) p q s

  or_val_at : (t u : Known) (f g : Form) (a b : Bool) (os : List Op) → KnownIs t (bit a) → KnownIs u (bit b) → Bit ρ f a → Bit ρ g b
      → Sat opsAt ρ (or_at pairs opsAt t u f g os).ops → Bit ρ (or_at pairs opsAt t u f g os).form (a || b)
  unfolding or_at
  or_val_at Yes u f g a b os m k p q s = rw (set a m) (constant_val ρ 1)
  or_val_at No Yes f g a b os m k p q s = rw (clear a m, set b k) (constant_val ρ 1)
  or_val_at No No f g a b os m k p q s = rw (clear a m) q
  or_val_at No Open f g a b os m k p q s = rw (clear a m) q
  or_val_at Open Yes f g a b os m k p q s = rw (set b k, or-true a) (constant_val ρ 1)
  or_val_at Open No f g a b os m k p q s = rw (clear b k, or-false a) p
  or_val_at Open Open f g a b os m k p q s =
      minus_val ρ (plus f g) (and pairs opsAt f g os).form (bit (a || b)) (bit (a && b))
      (omega (arith, plus_val ρ f g (bit a) (bit b) p q, bit_or a b)) (and_val f g a b os p q s)

  pub or_val : (f g : Form) (a b : Bool) (os : List Op) → Bit ρ f a → Bit ρ g b
      → Sat opsAt ρ (or pairs opsAt f g os).ops → Bit ρ (or pairs opsAt f g os).form (a || b)
  unfolding or
  or_val f g a b os p q s = or_val_at (known f) (known g) f g a b os (known_is f (bit a) p) (known_is g (bit b) q) p q s

  -- mask: any natural value, gated by a bit
  pub mask_val : (f g : Form) (v : ℕ) (b : Bool) (os : List Op) → Val ρ f v → Bit ρ g b
      → Sat opsAt ρ (push pairs opsAt f g os).ops → Val ρ (push pairs opsAt f g os).form (v * bit b)
  mask_val f g v b os p q s = push_val f g v (bit b) os p (omega arith) s
