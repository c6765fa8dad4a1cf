-- A running sum of a form is its value in a table τ that agrees with ρ up to some wire and is 0 past it; so it is enough to bound P - N at
-- every τ that is nowhere above ρ + ε. There P - N is linear in the form: terms that cancel cost nothing. An op is fine if its left form is
-- not negative at ρ and both its forms stay within B at τ.
use Prim.Native.Nat.{◌*◌, ◌+◌, ◌-◌, ◌≤◌, suc, ℕ}
use native.Mathlib.Nat.{mul-le-mul_left}
use native.Mathlib.Omega.{arith}
use mathlib.Core.Bool.{Bool, ◌&&◌, false, true}
use mathlib.Core.List.{List, [], ◌∷◌}
use mathlib.Core.Logic.{◌⊎◌, inl}
use mathlib.Core.Path.{◌≡◌, refl}
use lib.Dec.{T, eqb, leb}
use lib.IntN.{pos}
use lib.ListN.{length}
use Rattle.construct.proofs.Bits.{bit_and, bit_le, is_z}
use Rattle.construct.proofs.Builds.{Sat, back, const_same, is_zero_val, mask_val, relu_grows, relu_val}
use Rattle.construct.proofs.Values.{constant_val, negate_n, negate_p, offset_n, offset_p, plus_law, scaled_law, wire_val}
use Rattle.construct.specs.Builder.{and, and_at, at_least, at_least_at, is_zero, is_zero_at, minus, not', or, or_at, push, relu, step}
use Rattle.construct.specs.Forms.{Known, No, Open, Yes}
use Rattle.construct.specs.Pairs.{Form, Op, constant, empty, known, known_at, negate, offset, pairs, plus, scaled, wire'}
use Rattle.construct.specs.Value.{Bit, N, P, Val}
use Rattle.walk.specs.Kind.{bit}

-- a class of tables
abbrev pub Tables : Type 1
Tables = (ℕ → ℕ) → Type 0

-- nowhere above ρ + ε
abbrev pub Under : Tables → (ℕ → ℕ) → ℕ → Type 0
Under Ts ρ ε = (τ : ℕ → ℕ) → Ts τ → (w : ℕ) → τ w ≤ ρ w + ε

-- everything below ρ; tables of zeros and ones
abbrev pub Below : (ℕ → ℕ) → Tables
Below ρ τ = (w : ℕ) → τ w ≤ ρ w

abbrev pub Bits : Tables
Bits τ = (w : ℕ) → τ w ≤ 1

-- a form's value is at most d in size, at every table of the class
abbrev pub Low : Tables → ℕ → Form → Type 0
Low Ts d f = (τ : ℕ → ℕ) → Ts τ → (P τ f ≤ N τ f + d) × (N τ f ≤ P τ f + d)

module _ (τ : Tables) where
  pub low_up : (d e : ℕ) (f : Form) → Low τ d f → d ≤ e → Low τ e f
  low_up d e f h l t c = omega (arith, h t c)

  pub constant_low : (b : ℕ) → Low τ b (constant b)
  constant_low b t c = omega (arith, constant_val t b)

  pub offset_low : (p n d : ℕ) (f : Form) → Low τ d f → Low τ (d + p + n) (offset p n f)
  offset_low p n d f h t c = omega (arith, h t c, offset_p t p n f, offset_n t p n f)

  pub negate_low : (d : ℕ) (f : Form) → Low τ d f → Low τ d (negate f)
  negate_low d f h t c = omega (arith, h t c, negate_p t f, negate_n t f)

  pub not_low : (d : ℕ) (f : Form) → Low τ d f → Low τ (d + 1) (not' pairs f)
  unfolding not'
  not_low d f h t c = omega (arith, h t c, offset_p t 1 0 (negate f), offset_n t 1 0 (negate f), negate_p t f, negate_n t f)

  pub plus_low : (d e : ℕ) (f g : Form) → Low τ d f → Low τ e g → Low τ (d + e) (plus f g)
  plus_low d e f g h k t c = omega (arith, h t c, k t c, plus_law t f g)

  pub minus_low : (d e : ℕ) (f g : Form) → Low τ d f → Low τ e g → Low τ (d + e) (minus pairs f g)
  unfolding minus
  minus_low d e f g h k t c = omega (arith, h t c, k t c, plus_law t f (negate g), negate_p t g, negate_n t g)

  pub scaled_low : (k d : ℕ) (f : Form) → Low τ d f → Low τ (k * d) (scaled k f)
  scaled_low k d f h t c = omega (arith, scaled_law t k f, mul-le-mul_left k (h t c).0, mul-le-mul_left k (h t c).1)

module _ (opsAt : ℕ) (ρ : ℕ → ℕ) (τ : Tables) (ε : ℕ) (le : Under τ ρ ε) (B : ℕ) where
  pub record OpFine (o : Op) : Type 0 where
    pub pos : N ρ o.left ≤ P ρ o.left
    pub one : (P ρ o.left ≤ N ρ o.left + 1) ⊎ (P ρ o.gate ≤ N ρ o.gate + 1)
    pub left : Low τ B o.left
    pub gate : Low τ B o.gate

  abbrev pub Fine : List Op → Type 0
  Fine [] = Unit {0}
  Fine (o ∷ os) = OpFine o × Fine os

  pub wire_low : (w v : ℕ) → ρ w ≤ v → Low τ (v + ε) (wire' w)
  wire_low w v h t c = omega (arith, wire_val t w, le t c w)

  pub push_low' : (f g : Form) (v : ℕ) (os : List Op) → Val ρ (push pairs opsAt f g os).form v → Low τ (v + ε) (push pairs opsAt f g os).form
  unfolding push
  push_low' f g v os h = wire_low (opsAt + length os) v (omega (arith, wire_val ρ (opsAt + length os)))

  pub push_fine : (f g : Form) (v : ℕ) (os : List Op) → Val ρ f v → (P ρ f ≤ N ρ f + 1) ⊎ (P ρ g ≤ N ρ g + 1) → Low τ B f → Low τ B g → Fine os → Fine (push pairs opsAt f g os).ops
  unfolding push
  push_fine f g v os h o a b w = (record { pos = omega arith; one = o; left = a; gate = b }, w)

  relu_fine : (f : Form) (os : List Op) → 1 ≤ B → Low τ B f → Fine os → Fine (relu pairs opsAt f os).ops
  unfolding relu
  relu_fine f os l b w = push_fine (constant 1) f 1 os (constant_val ρ 1) (inl (omega (arith, constant_val ρ 1))) (low_up τ 1 B (constant 1) (constant_low τ 1) l) b w

  relu_low : (f : Form) (v : ℕ) (os : List Op) → Val ρ (relu pairs opsAt f os).form v → Low τ (v + ε) (relu pairs opsAt f os).form
  unfolding relu
  relu_low f v os h = push_low' (constant 1) f v os h

  is_zero_fine_at : (t : Known) (c : Form) (v d : ℕ) (os : List Op) → Low τ d c → d + 1 ≤ B → Fine os
      → Bit ρ (is_zero_at pairs opsAt t c os).form (is_z v) → Fine (is_zero_at pairs opsAt t c os).ops × Low τ (1 + ε) (is_zero_at pairs opsAt t c os).form
  unfolding is_zero_at
  is_zero_fine_at No c v d os m l w i = (w, low_up τ 1 (1 + ε) (constant 1) (constant_low τ 1) (omega arith))
  is_zero_fine_at Yes c v d os m l w i = (w, low_up τ 0 (1 + ε) (constant 0) (constant_low τ 0) (omega arith))
  is_zero_fine_at Open c v d os m l w i =
      let f : Form = offset 1 0 (negate c) in (
        relu_fine f os (omega arith) (low_up τ (d + 1 + 0) B f (offset_low τ 1 0 d (negate c) (negate_low τ d c m)) (omega arith)) w,
        low_up τ (bit (is_z v) + ε) (1 + ε) (relu pairs opsAt f os).form (relu_low f (bit (is_z v)) os i) (omega (arith, bit_le (is_z v))),
      )

  pub is_zero_fine : (c : Form) (v d : ℕ) (os : List Op) → Val ρ c v → Low τ d c → d + 1 ≤ B → Fine os → Sat opsAt ρ (is_zero pairs opsAt c os).ops
      → Fine (is_zero pairs opsAt c os).ops × Low τ (1 + ε) (is_zero pairs opsAt c os).form
  unfolding is_zero
  is_zero_fine c v d os h m l w s = is_zero_fine_at (known c) c v d os m l w (is_zero_val opsAt ρ c v os h s)

  -- the difference of two wires
  apart_low : (a b v : ℕ) → ρ a ≤ v → ρ b ≤ v → Low τ (v + ε) (minus pairs (wire' a) (wire' b))
  unfolding minus
  apart_low a b v h k t c = omega (arith, plus_law t (wire' a) (negate (wire' b)), negate_p t (wire' b), negate_n t (wire' b), wire_val t a, wire_val t b, le t c a, le t c b)

  wire_is : (f : Form) (v : ℕ) (os : List Op) → Val ρ (relu pairs opsAt f os).form v → ρ (opsAt + length os) ≡ v
  unfolding relu push
  wire_is f v os h = omega (arith, wire_val ρ (opsAt + length os))

  relus_low : (f g : Form) (v : ℕ) (os os' : List Op) → ρ (opsAt + length os) ≤ v → ρ (opsAt + length os') ≤ v → Low τ (v + ε) (minus pairs (relu pairs opsAt f os).form (relu pairs opsAt g os').form)
  unfolding relu push
  relus_low f g v os os' h k = apart_low (opsAt + length os) (opsAt + length os') v h k

  step_fine : (c : Form) (k v d : ℕ) (os : List Op) → Val ρ c v → Low τ d c → d + k + 3 ≤ B → Fine os
      → Sat opsAt ρ (step pairs opsAt c (suc k) os).ops → Fine (step pairs opsAt c (suc k) os).ops × Low τ (v + 1 + ε) (step pairs opsAt c (suc k) os).form
  unfolding step
  step_fine c k v d os h m l w s =
      let f : Form = offset 1 (suc k) c in
      let g : Form = offset 0 1 f in
      let lf : Low τ (d + 1 + suc k) f = offset_low τ 1 (suc k) d c m in
      let lg : Low τ (d + 1 + suc k + 0 + 1) g = offset_low τ 0 1 (d + 1 + suc k) f lf in
      let hi = relu pairs opsAt f os in
      let lo = relu pairs opsAt g hi.ops in
      let s₁ : Sat opsAt ρ hi.ops = back opsAt ρ (relu_grows opsAt g hi.ops) s in
      let vh : Val ρ hi.form (v - k) = relu_val opsAt ρ f (v - k) os (omega (arith, offset_p ρ 1 (suc k) c, offset_n ρ 1 (suc k) c)) s₁ in
      let vl : Val ρ lo.form (v - suc k) = relu_val opsAt ρ g (v - suc k) hi.ops (omega (arith, offset_p ρ 1 (suc k) c, offset_n ρ 1 (suc k) c, offset_p ρ 0 1 f, offset_n ρ 0 1 f)) s in (
        relu_fine g hi.ops (omega arith) (low_up τ (d + 1 + suc k + 0 + 1) B g lg (omega arith)) (relu_fine f os (omega arith) (low_up τ (d + 1 + suc k) B f lf (omega arith)) w),
        low_up τ (v + ε) (v + 1 + ε) (minus pairs hi.form lo.form) (relus_low f g v os hi.ops (omega (arith, wire_is f (v - k) os vh)) (omega (arith, wire_is g (v - suc k) hi.ops vl))) (omega arith),
      )

  bit_low : (a : Bool) (v : ℕ) → Low τ (v + 1 + ε) (constant (bit a))
  bit_low a v = low_up τ (bit a) (v + 1 + ε) (constant (bit a)) (constant_low τ (bit a)) (omega (arith, bit_le a))

  at_least_fine_at : (t : Known) (c : Form) (k v d : ℕ) (os : List Op) → Val ρ c v → Low τ d c → d + k + 3 ≤ B → Fine os
      → Sat opsAt ρ (at_least_at pairs opsAt t c (suc k) os).ops → Fine (at_least_at pairs opsAt t c (suc k) os).ops × Low τ (v + 1 + ε) (at_least_at pairs opsAt t c (suc k) os).form
  unfolding at_least_at
  at_least_fine_at No c k v d os h m l w s = (w, bit_low (leb (c.bn + suc k) c.bp) v)
  at_least_fine_at Yes c k v d os h m l w s = (w, bit_low (leb (c.bn + suc k) c.bp) v)
  at_least_fine_at Open c k v d os h m l w s = step_fine c k v d os h m l w s

  pub at_least_fine : (c : Form) (k v d : ℕ) (os : List Op) → Val ρ c v → Low τ d c → d + k + 3 ≤ B → Fine os
      → Sat opsAt ρ (at_least pairs opsAt c (suc k) os).ops → Fine (at_least pairs opsAt c (suc k) os).ops × Low τ (v + 1 + ε) (at_least pairs opsAt c (suc k) os).form
  unfolding at_least
  at_least_fine c k v d os h m l w s = at_least_fine_at (known c) c k v d os h m l w s

  pub zero_low : (d : ℕ) → Low τ d (constant 0)
  zero_low d = low_up τ 0 d (constant 0) (constant_low τ 0) (omega arith)

  -- and: no larger than the larger operand
  and_fine_at : (t u : Known) (f g : Form) (a b : Bool) (d : ℕ) (os : List Op) → Bit ρ f a → Bit ρ g b → Low τ d f → Low τ d g → 1 + ε ≤ d → d ≤ B → Fine os
      → Sat opsAt ρ (and_at pairs opsAt t u f g os).ops → Fine (and_at pairs opsAt t u f g os).ops × Low τ d (and_at pairs opsAt t u f g os).form
  unfolding and_at
  and_fine_at Yes u f g a b d os p q m n o l w s = (w, n)
  and_fine_at No Yes f g a b d os p q m n o l w s = (w, m)
  and_fine_at No No f g a b d os p q m n o l w s = (w, zero_low d)
  and_fine_at No Open f g a b d os p q m n o l w s = (w, zero_low d)
  and_fine_at Open Yes f g a b d os p q m n o l w s = (w, m)
  and_fine_at Open No f g a b d os p q m n o l w s = (w, zero_low d)
  and_fine_at Open Open f g a b d os p q m n o l w s = (
    push_fine f g (bit a) os p (inl (omega (arith, bit_le a))) (low_up τ d B f m l) (low_up τ d B g n l) w,
    low_up τ (bit a * bit b + ε) d (push pairs opsAt f g os).form (push_low' f g (bit a * bit b) os (mask_val opsAt ρ f g (bit a) b os p q s)) (omega (arith, bit_and a b, bit_le (a && b))),
  )

  pub and_fine : (f g : Form) (a b : Bool) (d : ℕ) (os : List Op) → Bit ρ f a → Bit ρ g b → Low τ d f → Low τ d g → 1 + ε ≤ d → d ≤ B → Fine os
      → Sat opsAt ρ (and pairs opsAt f g os).ops → Fine (and pairs opsAt f g os).ops × Low τ d (and pairs opsAt f g os).form
  unfolding and
  and_fine f g a b d os p q m n o l w s = and_fine_at (known f) (known g) f g a b d os p q m n o l w s

  -- and: with neither operand known to be 1, the result is a wire or 0
  and_tight_at : (t u : Known) (f g : Form) (a b : Bool) (os : List Op) → (t ≡ Yes → ⊥) → (u ≡ Yes → ⊥) → Bit ρ f a → Bit ρ g b
      → Sat opsAt ρ (and_at pairs opsAt t u f g os).ops → Low τ (bit (a && b) + ε) (and_at pairs opsAt t u f g os).form
  unfolding and_at
  and_tight_at Yes u f g a b os i j p q s = absurd (i refl)
  and_tight_at No Yes f g a b os i j p q s = absurd (j refl)
  and_tight_at No No f g a b os i j p q s = zero_low (bit (a && b) + ε)
  and_tight_at No Open f g a b os i j p q s = zero_low (bit (a && b) + ε)
  and_tight_at Open Yes f g a b os i j p q s = absurd (j refl)
  and_tight_at Open No f g a b os i j p q s = zero_low (bit (a && b) + ε)
  and_tight_at Open Open f g a b os i j p q s = rw (bit_and a b) at (push_low' f g (bit a * bit b) os (mask_val opsAt ρ f g (bit a) b os p q s))

  pub and_tight : (f g : Form) (a b : Bool) (os : List Op) → (known f ≡ Yes → ⊥) → (known g ≡ Yes → ⊥) → Bit ρ f a → Bit ρ g b
      → Sat opsAt ρ (and pairs opsAt f g os).ops → Low τ (bit (a && b) + ε) (and pairs opsAt f g os).form
  unfolding and
  and_tight f g a b os i j p q s = and_tight_at (known f) (known g) f g a b os i j p q s

  yes_empty : (b z : Bool) → known_at b z ≡ Yes → T b
  unfolding known_at
  yes_empty true z e = tt
  yes_empty false z e = let x : ◌≡◌ {A = ℕ} 0 1 = cc in absurd (omega arith)

  -- what `and` leaves of its first operand
  self_low : (f : Form) (d : ℕ) → Low τ d (minus pairs f f)
  unfolding minus
  self_low f d t c = omega (arith, plus_law t f (negate f), negate_p t f, negate_n t f)

  rest0 : (f : Form) (d : ℕ) → Low τ d f → Low τ (d + 1 + ε) (minus pairs f (constant 0))
  rest0 f d m = low_up τ (d + 1) (d + 1 + ε) (minus pairs f (constant 0)) (minus_low τ d 1 f (constant 0) m (zero_low 1)) (omega arith)

  not_yes : (k : Known) → k ≡ Open → k ≡ Yes → ⊥
  not_yes k i y = let x : ◌≡◌ {A = ℕ} 0 1 = cc in omega arith

  and_rest_at : (t u : Known) (f g : Form) (a b : Bool) (d : ℕ) (os : List Op) → known f ≡ t → Bit ρ f a → Bit ρ g b → Low τ d f → Low τ d g → 1 ≤ d
      → Sat opsAt ρ (and_at pairs opsAt t u f g os).ops → Low τ (d + 1 + ε) (minus pairs f (and_at pairs opsAt t u f g os).form)
  unfolding and_at known
  and_rest_at Yes u f g a b d os i p q m n o s =
      let c : Low τ 1 f = λ t _. omega (arith, const_same opsAt ρ t f (bit a) p (yes_empty (empty f.terms) (eqb f.bp f.bn) i), bit_le a) in
      low_up τ (1 + d) (d + 1 + ε) (minus pairs f g) (minus_low τ 1 d f g c n) (omega arith)
  and_rest_at No Yes f g a b d os i p q m n o s = self_low f (d + 1 + ε)
  and_rest_at No No f g a b d os i p q m n o s = rest0 f d m
  and_rest_at No Open f g a b d os i p q m n o s = rest0 f d m
  and_rest_at Open Yes f g a b d os i p q m n o s = self_low f (d + 1 + ε)
  and_rest_at Open No f g a b d os i p q m n o s = rest0 f d m
  and_rest_at Open Open f g a b d os i p q m n o s =
      low_up τ (d + (1 + ε)) (d + 1 + ε) (minus pairs f (push pairs opsAt f g os).form) (minus_low τ d (1 + ε) f (push pairs opsAt f g os).form m
      (low_up τ (bit a * bit b + ε) (1 + ε) (push pairs opsAt f g os).form (push_low' f g (bit a * bit b) os (mask_val opsAt ρ f g (bit a) b os p q s)) (omega (arith, bit_and a b, bit_le (a && b))))) (omega arith)

  pub and_rest : (f g : Form) (a b : Bool) (d : ℕ) (os : List Op) → Bit ρ f a → Bit ρ g b → Low τ d f → Low τ d g → 1 ≤ d
      → Sat opsAt ρ (and pairs opsAt f g os).ops → Low τ (d + 1 + ε) (minus pairs f (and pairs opsAt f g os).form)
  unfolding and
  and_rest f g a b d os p q m n o s = and_rest_at (known f) (known g) f g a b d os refl p q m n o s

  or_fine_at : (t u : Known) (f g : Form) (a b : Bool) (d e : ℕ) (os : List Op) → Bit ρ f a → Bit ρ g b → Low τ d f → Low τ e g → d + e + 1 + ε ≤ B
      → known f ≡ t → known g ≡ u → Fine os → Sat opsAt ρ (or_at pairs opsAt t u f g os).ops → Fine (or_at pairs opsAt t u f g os).ops × Low τ (d + e + 1 + ε) (or_at pairs opsAt t u f g os).form
  unfolding or_at
  or_fine_at Yes u f g a b d e os p q m n l i j w s = (w, low_up τ 1 (d + e + 1 + ε) (constant 1) (constant_low τ 1) (omega arith))
  or_fine_at No Yes f g a b d e os p q m n l i j w s = (w, low_up τ 1 (d + e + 1 + ε) (constant 1) (constant_low τ 1) (omega arith))
  or_fine_at No No f g a b d e os p q m n l i j w s = (w, low_up τ e (d + e + 1 + ε) g n (omega arith))
  or_fine_at No Open f g a b d e os p q m n l i j w s = (w, low_up τ e (d + e + 1 + ε) g n (omega arith))
  or_fine_at Open Yes f g a b d e os p q m n l i j w s = (w, low_up τ 1 (d + e + 1 + ε) (constant 1) (constant_low τ 1) (omega arith))
  or_fine_at Open No f g a b d e os p q m n l i j w s = (w, low_up τ d (d + e + 1 + ε) f m (omega arith))
  or_fine_at Open Open f g a b d e os p q m n l i j w s =
      let x = and pairs opsAt f g os in
      let t : Low τ (bit (a && b) + ε) x.form = and_tight f g a b os (λ y. not_yes (known f) i y) (λ y. not_yes (known g) j y) p q s in (
        (and_fine f g a b (d + e + 1 + ε) os p q (low_up τ d (d + e + 1 + ε) f m (omega arith)) (low_up τ e (d + e + 1 + ε) g n (omega arith)) (omega arith) l w s).0,
        low_up τ (d + e + (1 + ε)) (d + e + 1 + ε) (minus pairs (plus f g) x.form) (minus_low τ (d + e) (1 + ε) (plus f g) x.form (plus_low τ d e f g m n) (low_up τ (bit (a && b) + ε) (1 + ε) x.form t (omega (arith, bit_le (a && b))))) (omega arith),
      )

  pub or_fine : (f g : Form) (a b : Bool) (d e : ℕ) (os : List Op) → Bit ρ f a → Bit ρ g b → Low τ d f → Low τ e g → d + e + 1 + ε ≤ B
      → Fine os → Sat opsAt ρ (or pairs opsAt f g os).ops → Fine (or pairs opsAt f g os).ops × Low τ (d + e + 1 + ε) (or pairs opsAt f g os).form
  unfolding or
  or_fine f g a b d e os p q m n l w s = or_fine_at (known f) (known g) f g a b d e os p q m n l refl refl w s
