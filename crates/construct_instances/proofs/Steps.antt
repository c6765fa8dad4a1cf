-- builder.rs over an algebra that respects small forms is builder.rs over forms with whole coefficients.
use Prim.Native.Nat.{◌+◌, ◌≤◌, ℕ}
use native.Mathlib.Omega.{arith}
use mathlib.Core.List.{List, ◌∷◌, map}
use mathlib.Core.Path.{◌∙◌, ◌≡◌, ap, refl}
use lib.Dec.{leb}
use lib.ListN.{length, length-map}
use Rattle.construct.proofs.Bits.{bit_le}
use Rattle.construct.proofs.Builds.{same}
use Rattle.construct.specs.Builder.{and, and_at, at_least, at_least_at, is_zero, is_zero_at, minus, not', or, or_at, push, relu, step}
use Rattle.construct.specs.Forms.{Forms, Known, No, Open, Yes}
use Rattle.construct.specs.Pairs.{Form, Op, Out, constant, known, negate, offset, pairs, plus, wire'}
use Rattle.construct_instances.proofs.Fits.{Fit, fit_up, fits, negate_fit, offset_fit, plus_fit, relu_fit, wire_fit}
use Rattle.construct_instances.proofs.Respects.{Respects, of_op}
use Rattle.walk.specs.Kind.{bit}
use Rattle.construct.specs.Builder as B

-- small enough that a sum of a few such forms is small too
abbrev pub most : ℕ
most = 1000000

module _ {F : Type 0} (A : Forms F) (of : Form → F) (same : Respects A of) where
  abbrev pub ops : List Op → List (B.Op F)
  ops os = map (of_op of) os

  abbrev pub out : Out → B.Out F
  out o = record { form = of o.form; ops = ops o.ops }

  -- operands of sums, and of everything else
  pub plus_sim : (f g : Form) → Fit 4194304 f → Fit 4194304 g → A.plus (of f) (of g) ≡ of (plus f g)
  plus_sim f g h k = same.plus_same f g (fits 4194304 8388608 f (omega arith) h) (fits 4194304 8388608 g (omega arith) k)

  pub negate_sim : (f : Form) → Fit 4194304 f → A.negate (of f) ≡ of (negate f)
  negate_sim f h = same.negate_same f (fits 4194304 8388608 f (omega arith) h)

  pub offset_sim : (p n : ℕ) (f : Form) → p ≤ 1 → n ≤ 128 → Fit 4194304 f → A.offset p n (of f) ≡ of (offset p n f)
  offset_sim p n f a b h = same.offset_same p n f a b (fits 4194304 8388608 f (omega arith) h)

  known_sim : (f : Form) → Fit most f → A.known (of f) ≡ known f
  known_sim f h = same.known_same f (fits most 8388608 f (omega arith) h)

  pub not_sim : (f : Form) → Fit (most + most + 1) f → not' A (of f) ≡ of (not' pairs f)
  unfolding not'
  not_sim f h =
      let k : Fit 4194304 f = fit_up (most + most + 1) 4194304 f h (omega arith) in
      ap (λ (x : F). A.offset 1 0 x) (negate_sim f k) ∙ offset_sim 1 0 (negate f) (omega arith) (omega arith) (negate_fit 4194304 f k)

  minus_sim : (f g : Form) → Fit (most + most) f → Fit 1 g → minus A (of f) (of g) ≡ of (minus pairs f g)
  unfolding minus
  minus_sim f g h k =
      let k' : Fit 4194304 g = fit_up 1 4194304 g k (omega arith) in
      ap (λ (x : F). A.plus (of f) x) (negate_sim g k') ∙ plus_sim f (negate g) (fit_up (most + most) 4194304 f h (omega arith)) (negate_fit 4194304 g k')

  module _ (opsAt : ℕ) where
    at_sim : (os : List Op) → A.wire (opsAt + length (ops os)) ≡ of (wire' (opsAt + length os))
    at_sim os = ap (λ (k : ℕ). A.wire (opsAt + k)) (length-map os (of_op of)) ∙ same.wire_same (opsAt + length os)

    pub push_sim : (f g : Form) (os : List Op) → push A opsAt (of f) (of g) (ops os) ≡ out (push pairs opsAt f g os)
    unfolding push
    push_sim f g os = λ i. record { form = at_sim os i; ops = of_op of (record { left = f; gate = g }) ∷ ops os }

    relu_sim : (f : Form) (os : List Op) → relu A opsAt (of f) (ops os) ≡ out (relu pairs opsAt f os)
    unfolding relu
    relu_sim f os = ap (λ (x : F). push A opsAt x (of f) (ops os)) (same.constant_same 1 (omega arith)) ∙ push_sim (constant 1) f os

    -- a constant, with no op made
    plain_sim : (b : ℕ) (os : List Op) → b ≤ 1 → ◌≡◌ {A = B.Out F} (record { form = A.constant b; ops = ops os }) (record { form = of (constant b); ops = ops os })
    plain_sim b os l = λ i. record { form = same.constant_same b l i; ops = ops os }

    is_zero_sim_at : (t : Known) (c : Form) (os : List Op) → Fit most c → is_zero_at A opsAt t (of c) (ops os) ≡ out (is_zero_at pairs opsAt t c os)
    unfolding is_zero_at
    is_zero_sim_at No c os h = plain_sim 1 os (omega arith)
    is_zero_sim_at Yes c os h = plain_sim 0 os (omega arith)
    is_zero_sim_at Open c os h =
        let k : Fit 4194304 c = fit_up most 4194304 c h (omega arith) in
        ap (λ (x : F). relu A opsAt x (ops os)) (ap (λ (x : F). A.offset 1 0 x) (negate_sim c k) ∙ offset_sim 1 0 (negate c) (omega arith) (omega arith) (negate_fit 4194304 c k))
        ∙ relu_sim (offset 1 0 (negate c)) os

    pub is_zero_sim : (c : Form) (os : List Op) → Fit most c → is_zero A opsAt (of c) (ops os) ≡ out (is_zero pairs opsAt c os)
    unfolding is_zero
    is_zero_sim c os h = ap (λ (t : Known). is_zero_at A opsAt t (of c) (ops os)) (known_sim c h) ∙ is_zero_sim_at (known c) c os h

    step_sim : (c : Form) (k : ℕ) (os : List Op) → k ≤ 128 → Fit 1 c → step A opsAt (of c) k (ops os) ≡ out (step pairs opsAt c k os)
    unfolding step
    step_sim c k os l h =
        let f = offset 1 k c in
        let g = offset 0 1 f in
        let hf : Fit (1 + 1 + k) f = offset_fit 1 k 1 c h in
        let e₁ : A.offset 1 k (of c) ≡ of f = offset_sim 1 k c (omega arith) l (fit_up 1 4194304 c h (omega arith)) in
        let e₂ : A.offset 0 1 (of f) ≡ of g = offset_sim 0 1 f (omega arith) (omega arith) (fit_up (1 + 1 + k) 4194304 f hf (omega arith)) in
        let hi = relu pairs opsAt f os in
        let lo = relu pairs opsAt g hi.ops in
        let eh : relu A opsAt (A.offset 1 k (of c)) (ops os) ≡ out hi = ap (λ (x : F). relu A opsAt x (ops os)) e₁ ∙ relu_sim f os in
        let el : relu A opsAt (A.offset 0 1 (A.offset 1 k (of c))) (relu A opsAt (A.offset 1 k (of c)) (ops os)).ops ≡ out lo
        = (λ i. relu A opsAt (A.offset 0 1 (e₁ i)) (eh i).ops) ∙ ap (λ (x : F). relu A opsAt x (ops hi.ops)) e₂ ∙ relu_sim g hi.ops in
        (λ i. record { form = minus A (eh i).form (el i).form; ops = (el i).ops })
        ∙ (λ i. record { form = made i; ops = ops lo.ops })
      where
        made : minus A (of (relu pairs opsAt (offset 1 k c) os).form) (of (relu pairs opsAt (offset 0 1 (offset 1 k c)) (relu pairs opsAt (offset 1 k c) os).ops).form)
            ≡ of (minus pairs (relu pairs opsAt (offset 1 k c) os).form (relu pairs opsAt (offset 0 1 (offset 1 k c)) (relu pairs opsAt (offset 1 k c) os).ops).form)
        made = minus_sim _ _ (fit_up 1 (most + most) _ (relu_fit opsAt (offset 1 k c) os) (omega arith)) (relu_fit opsAt _ _)

    fixed_sim : (c : Form) (k : ℕ) (os : List Op) → k ≤ 128 → Fit 1 c
        → ◌≡◌ {A = B.Out F} (record { form = A.constant (bit (A.reaches k (of c))); ops = ops os }) (record { form = of (constant (bit (leb (c.bn + k) c.bp))); ops = ops os })
    fixed_sim c k os l h =
        (λ i. record { form = A.constant (bit (same.reaches_same k c l (fits 1 8388608 c (omega arith) h) i)); ops = ops os })
        ∙ plain_sim (bit (leb (c.bn + k) c.bp)) os (bit_le (leb (c.bn + k) c.bp))

    at_least_sim_at : (t : Known) (c : Form) (k : ℕ) (os : List Op) → k ≤ 128 → Fit 1 c → at_least_at A opsAt t (of c) k (ops os) ≡ out (at_least_at pairs opsAt t c k os)
    unfolding at_least_at
    at_least_sim_at No c k os l h = fixed_sim c k os l h
    at_least_sim_at Yes c k os l h = fixed_sim c k os l h
    at_least_sim_at Open c k os l h = step_sim c k os l h

    pub at_least_sim : (c : Form) (k : ℕ) (os : List Op) → k ≤ 128 → Fit 1 c → at_least A opsAt (of c) k (ops os) ≡ out (at_least pairs opsAt c k os)
    unfolding at_least
    at_least_sim c k os l h = ap (λ (t : Known). at_least_at A opsAt t (of c) k (ops os)) (known_sim c (fit_up 1 most c h (omega arith))) ∙ at_least_sim_at (known c) c k os l h

    and_sim_at : (t u : Known) (f g : Form) (os : List Op) → and_at A opsAt t u (of f) (of g) (ops os) ≡ out (and_at pairs opsAt t u f g os)
    unfolding and_at
    and_sim_at Yes u f g os = refl
    and_sim_at No Yes f g os = refl
    and_sim_at No No f g os = plain_sim 0 os (omega arith)
    and_sim_at No Open f g os = plain_sim 0 os (omega arith)
    and_sim_at Open Yes f g os = refl
    and_sim_at Open No f g os = plain_sim 0 os (omega arith)
    and_sim_at Open Open f g os = push_sim f g os

    pub and_sim : (f g : Form) (os : List Op) → Fit most f → Fit most g → and A opsAt (of f) (of g) (ops os) ≡ out (and pairs opsAt f g os)
    unfolding and
    and_sim f g os h k = (λ i. and_at A opsAt (known_sim f h i) (known_sim g k i) (of f) (of g) (ops os)) ∙ and_sim_at (known f) (known g) f g os

    both_fit : (f g : Form) (os : List Op) → known f ≡ Open → known g ≡ Open → Fit 1 (and pairs opsAt f g os).form
    unfolding and and_at push
    both_fit f g os i j = rw (i, j) (wire_fit (opsAt + length os))

    or_sim_at : (t u : Known) (f g : Form) (os : List Op) → known f ≡ t → known g ≡ u → Fit most f → Fit most g → or_at A opsAt t u (of f) (of g) (ops os) ≡ out (or_at pairs opsAt t u f g os)
    unfolding or_at
    or_sim_at Yes u f g os i j h k = plain_sim 1 os (omega arith)
    or_sim_at No Yes f g os i j h k = plain_sim 1 os (omega arith)
    or_sim_at No No f g os i j h k = refl
    or_sim_at No Open f g os i j h k = refl
    or_sim_at Open Yes f g os i j h k = plain_sim 1 os (omega arith)
    or_sim_at Open No f g os i j h k = refl
    or_sim_at Open Open f g os i j h k =
        let e = and_sim f g os h k in
        let x = and pairs opsAt f g os in
        let p : A.plus (of f) (of g) ≡ of (plus f g) = plus_sim f g (fit_up most 4194304 f h (omega arith)) (fit_up most 4194304 g k (omega arith)) in
        (λ l. record { form = minus A (p l) (e l).form; ops = (e l).ops })
        ∙ (λ l. record { form = minus_sim (plus f g) x.form (plus_fit most most f g h k) (both_fit f g os i j) l; ops = ops x.ops })

    pub or_sim : (f g : Form) (os : List Op) → Fit most f → Fit most g → or A opsAt (of f) (of g) (ops os) ≡ out (or pairs opsAt f g os)
    unfolding or
    or_sim f g os h k = (λ i. or_at A opsAt (known_sim f h i) (known_sim g k i) (of f) (of g) (ops os)) ∙ or_sim_at (known f) (known g) f g os refl refl h k
