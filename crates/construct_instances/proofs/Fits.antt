-- How large the forms of the construction are at tables of zeros and ones, operation by operation.
use Prim.Native.Nat.{◌*◌, ◌+◌, ◌≤◌, suc, ℕ}
use native.Mathlib.Omega.{arith}
use mathlib.Core.Bool.{Bool}
use mathlib.Core.List.{List, [], ◌∷◌}
use mathlib.Core.Path.{◌≡◌, refl}
use lib.Dec.{leb}
use lib.ListN.{length}
use Rattle.construct.proofs.Bits.{bit_le}
use Rattle.construct.proofs.Scope.{constant_reads, negate_reads, not_reads, offset_reads, plus_reads, reads_up, scaled_reads, wire_reads}
use Rattle.construct.proofs.Values.{negate_n, negate_p, plus_law, wire_val}
use Rattle.construct.specs.Builder.{and, and_at, at_least, at_least_at, is_zero, is_zero_at, minus, not', or, or_at, push, relu, step}
use Rattle.construct.specs.Forms.{Known, No, Open, Yes}
use Rattle.construct.specs.Lower.{top}
use Rattle.construct.specs.Pairs.{Form, Op, Term, constant, known, negate, offset, pairs, plus, scaled, wire'}
use Rattle.construct.specs.Scope.{Reads}
use Rattle.construct_instances.proofs.Respects.{Fits}
use Rattle.construct_sizes.proofs.Bounds.{Bits, Low, constant_low, low_up, negate_low, not_low, offset_low, plus_low, scaled_low}
use Rattle.construct_sizes.proofs.Coef.{small}
use Rattle.construct_sizes.specs.Exact.{Coefs, Small}
use Rattle.walk.specs.Kind.{bit}

-- rising terms, and a value of at most d in size at every table of zeros and ones
pub record Fit (d : ℕ) (f : Form) : Type 0 where
  pub top : ℕ
  pub reads : Reads top f
  pub low : Low Bits d f

pub fit_up : (d e : ℕ) (f : Form) → Fit d f → d ≤ e → Fit e f
fit_up d e f h l = record { top = h.top; reads = h.reads; low = low_up Bits d e f h.low l }

-- twice the bound for each coefficient
small_up : (C D : ℕ) (f : Form) → C ≤ D → Small C f → Small D f
small_up C D f l h = (omega (arith, h.0), omega (arith, h.1), go f.terms h.2)
  where
    go : (ts : List Term) → Coefs C ts → Coefs D ts
    go [] h = tt
    go (t ∷ ts) h = ((omega (arith, h.0.0), omega (arith, h.0.1)), go ts h.1)

pub fits : (d C : ℕ) (f : Form) → d + d ≤ C → Fit d f → Fits C f
fits d C f l h = ((h.top, h.reads), small_up (d + d) C f l (small d h.top f h.reads h.low))

pub constant_fit : (b : ℕ) → Fit b (constant b)
constant_fit b = record { top = 0; reads = constant_reads 0 b; low = constant_low Bits b }

pub wire_fit : (w : ℕ) → Fit 1 (wire' w)
wire_fit w = record { top = suc w; reads = wire_reads (suc w) w (omega arith); low = λ τ c. omega (arith, wire_val τ w, c w) }

pub plus_fit : (d e : ℕ) (f g : Form) → Fit d f → Fit e g → Fit (d + e) (plus f g)
plus_fit d e f g h k =
    let n = h.top + k.top in
    record { top = n; reads = plus_reads n f g (reads_up h.top n f (omega arith) h.reads) (reads_up k.top n g (omega arith) k.reads); low = plus_low Bits d e f g h.low k.low }

pub negate_fit : (d : ℕ) (f : Form) → Fit d f → Fit d (negate f)
negate_fit d f h = record { top = h.top; reads = negate_reads h.top f h.reads; low = negate_low Bits d f h.low }

pub offset_fit : (p n d : ℕ) (f : Form) → Fit d f → Fit (d + p + n) (offset p n f)
offset_fit p n d f h = record { top = h.top; reads = offset_reads h.top p n f h.reads; low = offset_low Bits p n d f h.low }

pub scaled_fit : (k d : ℕ) (f : Form) → Fit d f → Fit (k * d) (scaled k f)
scaled_fit k d f h = record { top = h.top; reads = scaled_reads h.top k f h.reads; low = scaled_low Bits k d f h.low }

pub not_fit : (d : ℕ) (f : Form) → Fit d f → Fit (d + 1) (not' pairs f)
not_fit d f h = record { top = h.top; reads = not_reads h.top f h.reads; low = not_low Bits d f h.low }

pub minus_fit : (d e : ℕ) (f g : Form) → Fit d f → Fit e g → Fit (d + e) (minus pairs f g)
unfolding minus
minus_fit d e f g h k = plus_fit d e f (negate g) h (negate_fit e g k)

-- the difference of two wires
pub apart_fit : (a b : ℕ) → Fit 1 (minus pairs (wire' a) (wire' b))
unfolding minus
apart_fit a b =
    let h = minus_fit 1 1 (wire' a) (wire' b) (wire_fit a) (wire_fit b) in
    record {
      top = h.top;
      reads = h.reads;
      low = λ τ c. omega (arith, plus_law τ (wire' a) (negate (wire' b)), negate_p τ (wire' b), negate_n τ (wire' b), wire_val τ a, wire_val τ b, c a, c b);
    }

-- what builder.rs makes of small forms
module _ (opsAt : ℕ) where
  and_fit_at : (t u : Known) (d : ℕ) (f g : Form) (os : List Op) → 1 ≤ d → Fit d f → Fit d g → Fit d (and_at pairs opsAt t u f g os).form
  unfolding and_at push
  and_fit_at Yes u d f g os l h k = k
  and_fit_at No Yes d f g os l h k = h
  and_fit_at No No d f g os l h k = fit_up 0 d (constant 0) (constant_fit 0) (omega arith)
  and_fit_at No Open d f g os l h k = fit_up 0 d (constant 0) (constant_fit 0) (omega arith)
  and_fit_at Open Yes d f g os l h k = h
  and_fit_at Open No d f g os l h k = fit_up 0 d (constant 0) (constant_fit 0) (omega arith)
  and_fit_at Open Open d f g os l h k = fit_up 1 d (wire' (opsAt + length os)) (wire_fit (opsAt + length os)) l

  pub and_fit : (d : ℕ) (f g : Form) (os : List Op) → 1 ≤ d → Fit d f → Fit d g → Fit d (and pairs opsAt f g os).form
  unfolding and
  and_fit d f g os l h k = and_fit_at (known f) (known g) d f g os l h k

  or_fit_at : (t u : Known) (d e : ℕ) (f g : Form) (os : List Op) → known f ≡ t → known g ≡ u → Fit d f → Fit e g → Fit (d + e + 1) (or_at pairs opsAt t u f g os).form
  unfolding or_at and and_at push
  or_fit_at Yes u d e f g os i j h k = fit_up 1 (d + e + 1) (constant 1) (constant_fit 1) (omega arith)
  or_fit_at No Yes d e f g os i j h k = fit_up 1 (d + e + 1) (constant 1) (constant_fit 1) (omega arith)
  or_fit_at No No d e f g os i j h k = fit_up e (d + e + 1) g k (omega arith)
  or_fit_at No Open d e f g os i j h k = fit_up e (d + e + 1) g k (omega arith)
  or_fit_at Open Yes d e f g os i j h k = fit_up 1 (d + e + 1) (constant 1) (constant_fit 1) (omega arith)
  or_fit_at Open No d e f g os i j h k = fit_up d (d + e + 1) f h (omega arith)
  or_fit_at Open Open d e f g os i j h k = rw (i, j) (minus_fit (d + e) 1 (plus f g) (wire' (opsAt + length os)) (plus_fit d e f g h k) (wire_fit (opsAt + length os)))

  pub or_fit : (d e : ℕ) (f g : Form) (os : List Op) → Fit d f → Fit e g → Fit (d + e + 1) (or pairs opsAt f g os).form
  unfolding or
  or_fit d e f g os h k = or_fit_at (known f) (known g) d e f g os refl refl h k

  pub relu_fit : (f : Form) (os : List Op) → Fit 1 (relu pairs opsAt f os).form
  unfolding relu push
  relu_fit f os = wire_fit (opsAt + length os)

  is_zero_fit_at : (t : Known) (c : Form) (os : List Op) → Fit 1 (is_zero_at pairs opsAt t c os).form
  unfolding is_zero_at relu push
  is_zero_fit_at No c os = constant_fit 1
  is_zero_fit_at Yes c os = fit_up 0 1 (constant 0) (constant_fit 0) (omega arith)
  is_zero_fit_at Open c os = wire_fit (opsAt + length os)

  pub is_zero_fit : (c : Form) (os : List Op) → Fit 1 (is_zero pairs opsAt c os).form
  unfolding is_zero
  is_zero_fit c os = is_zero_fit_at (known c) c os

  bit_fit : (b : Bool) → Fit 1 (constant (bit b))
  bit_fit b = fit_up (bit b) 1 (constant (bit b)) (constant_fit (bit b)) (bit_le b)

  at_least_fit_at : (t : Known) (c : Form) (k : ℕ) (os : List Op) → Fit 1 (at_least_at pairs opsAt t c k os).form
  unfolding at_least_at step relu push
  at_least_fit_at No c k os = bit_fit (leb (c.bn + k) c.bp)
  at_least_fit_at Yes c k os = bit_fit (leb (c.bn + k) c.bp)
  at_least_fit_at Open c k os = apart_fit (opsAt + length os) (opsAt + suc (length os))

  pub at_least_fit : (c : Form) (k : ℕ) (os : List Op) → Fit 1 (at_least pairs opsAt c k os).form
  unfolding at_least
  at_least_fit c k os = at_least_fit_at (known c) c k os
