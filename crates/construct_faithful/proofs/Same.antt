-- The float instance respects whole coefficients: on the images of small forms its operations give the images of the results.
use Prim.Native.Nat.{ℕ, zero, suc, ◌+◌, ◌*◌, ◌≤◌}
use native.Mathlib.Omega.{arith}
use native.Mathlib.Nat.{mul-le-mul_left, mul-le-mul_right, eq_of_mul-eq-mul_left, zero-lt-suc}
use mathlib.Core.Path.{◌≡◌, refl, ap, sym, ◌∙◌}
use mathlib.Core.Bool.{Bool, true, false}
use mathlib.Core.List.{List, [], ◌∷◌, map}
use lib.ListN.{length, length-map}
use lib.Dec.{eqb, leb}
use borrow.Author.Tests.{eq-eqb}
use lib.Ieee.{Float, binary32, add, mul, le}
use Rattle.exact.specs.Whole.{diff, Within, minus_one32}
use Rattle.exact.proofs.Whole.{add_diff, sub_diff, mul_add_diff, diff_same, le_diff, zero_is, one_is, minus_one_is}
use Rattle.wire.specs.declared.Term.{Term as FloatTerm}
use Rattle.wire.specs.Terms.{Affine}
use Rattle.arena_terms.specs.Sums as S
use Rattle.construct_floats.specs.Floats.{number, difference, floats, known as knownF, known_at as knownAtF, empty as emptyF}
use Rattle.construct.specs.Scope.{Within as Rising}
use Rattle.construct.specs.Pairs.{Term, Form, constant, wire', plus, negate, flip, scaled, times, offset, known, known_at, empty, len}
use Rattle.construct_sizes.specs.Exact.{Coefs}
use Rattle.construct_instances.proofs.Respects.{Fits, Respects}
use Rattle.construct_faithful.proofs.Float.{float_term, float_terms, float}
use Rattle.construct_faithful.proofs.Sums.{Near, near, eq_zero, Fit, fit_of, kept_fit, summed_same}

affine : {p q : Float} {xs ys : List FloatTerm} → p ≡ q → xs ≡ ys → ◌≡◌ {A = Affine} (record { bias = p; terms = xs }) (record { bias = q; terms = ys })
affine e f = λ i. record { bias = e i; terms = f i }

fit : (f : Form) → Fits 8388608 f → Fit 0 f.terms
fit f h = fit_of 0 h.0.0 f.terms h.0.1 h.1.2

bias_near : (f : Form) → Fits 8388608 f → Near f.bp f.bn
bias_near f h = (h.1.0, h.1.1)

constant_same : (b : ℕ) → S.constant (number b) ≡ float (constant b)
unfolding S.constant float constant
constant_same b = refl

wire_same : (w : ℕ) → S.single w ≡ float (wire' w)
unfolding S.single float wire'
wire_same w = affine zero_is (λ i. record { wire = record { 0 = w }; coef = one_is i } ∷ [])

plus_same : (f g : Form) → Fits 8388608 f → Fits 8388608 g → S.plus (float f) (float g) ≡ float (plus f g)
unfolding S.plus float plus
plus_same f g h k =
    affine (add_diff binary32 f.bp f.bn g.bp g.bn (near _ _ (bias_near f h)) (near _ _ (bias_near g k))) (summed_same 0 0 f.terms g.terms (fit f h) (fit g k))

-- ---- multiples

-- p - q times r - u, where the product is in range
product : (p q r u : ℕ) → Within binary32 p q → Within binary32 r u → Within binary32 (p * r + q * u) (p * u + q * r)
    → S.times (diff binary32 r u) (diff binary32 p q) ≡ diff binary32 (p * r + q * u) (p * u + q * r)
product p q r u h k l =
    ap (add binary32 (mul binary32 (diff binary32 p q) (diff binary32 r u))) zero_is
    ∙ mul_add_diff binary32 0 0 p q r u (omega arith) (omega arith, omega arith) h k l
    ∙ diff_same binary32 (p * r + q * u + 0) (p * u + q * r + 0) (p * r + q * u) (p * u + q * r) (omega arith)

turned : (p q : ℕ) → Near p q → S.times minus_one32 (diff binary32 p q) ≡ diff binary32 q p
turned p q h =
    ap (λ (z : Float). S.times z (diff binary32 p q)) minus_one_is
    ∙ product p q 0 1 (near p q h) (omega arith, omega arith) (omega (arith, h.0, h.1), omega (arith, h.0, h.1))
    ∙ diff_same binary32 (p * 0 + q * 1) (p * 1 + q * 0) q p (omega arith)

flip_same : (w : ℕ) (ts : List Term) → Fit w ts → map (S.times_term minus_one32) (float_terms ts) ≡ float_terms (flip ts)
unfolding flip
flip_same w [] h = refl
flip_same w (t ∷ ts) h = λ i. record { wire = record { 0 = t.wire }; coef = turned t.cp t.cn h.1 i } ∷ flip_same (suc t.wire) ts h.3 i

flip_fit : (w : ℕ) (ts : List Term) → Fit w ts → Fit w (flip ts)
unfolding flip
flip_fit w [] h = tt
flip_fit w (t ∷ ts) h = (h.0, (h.1.1, h.1.0), (λ e. h.2 (sym e)), flip_fit (suc t.wire) ts h.3)

negate_same : (f : Form) → Fits 8388608 f → S.scaled minus_one32 (float f) ≡ float (negate f)
unfolding S.scaled float negate
negate_same f h =
    affine (turned f.bp f.bn (bias_near f h)) (ap S.kept (flip_same 0 f.terms (fit f h)) ∙ kept_fit 0 (flip f.terms) (flip_fit 0 f.terms (fit f h)))

-- times a number of at most 128, of at most 65,536 in size
abbrev Low : ℕ → ℕ → Type 0
Low p q = (p ≤ q + 65536) × (q ≤ p + 65536)

stretch : (k p q : ℕ) → k ≤ 128 → Low p q → Near (k * p) (k * q)
stretch k p q h l = (half p q l.0, half q p l.1)
  where
    half : (a b : ℕ) → a ≤ b + 65536 → k * a ≤ k * b + 8388608
    half a b m = omega (arith, mul-le-mul_left k m, mul-le-mul_right 65536 h)

multiple : (k p q : ℕ) → k ≤ 128 → Low p q → S.times (number k) (diff binary32 p q) ≡ diff binary32 (k * p) (k * q)
multiple k p q h l =
    let n = stretch k p q h l in
    product p q k 0 (omega (arith, l.0), omega (arith, l.1)) (omega arith, omega arith) (omega (arith, n.0), omega (arith, n.1))
    ∙ diff_same binary32 (p * k + q * 0) (p * 0 + q * k) (k * p) (k * q) (omega arith)

times_same : (k : ℕ) (ts : List Term) → k ≤ 128 → Coefs 65536 ts → map (S.times_term (number k)) (float_terms ts) ≡ float_terms (times k ts)
unfolding times
times_same k [] h c = refl
times_same k (t ∷ ts) h c = λ i. record { wire = record { 0 = t.wire }; coef = multiple k t.cp t.cn h c.0 i } ∷ times_same k ts h c.1 i

times_fit : (w n k : ℕ) (ts : List Term) → suc k ≤ 128 → Rising w n ts → Coefs 65536 ts → Fit w (times (suc k) ts)
unfolding times
times_fit w n k [] h r c = tt
times_fit w n k (t ∷ ts) h r c =
    (r.0, stretch (suc k) t.cp t.cn h c.0, (λ e. r.2 (eq_of_mul-eq-mul_left (suc k) (zero-lt-suc k) t.cp t.cn e)), times_fit (suc t.wire) n k ts h r.3 c.1)

-- times 0 nothing is left
kept_none : (ts : List Term) → S.kept (float_terms (times 0 ts)) ≡ []
unfolding times S.kept
kept_none [] = refl
kept_none (t ∷ ts) =
    let z : 0 * t.cp ≡ 0 * t.cn = omega arith in
    rw (eq_zero (0 * t.cp) (0 * t.cn) (omega arith, omega arith), eq-eqb (0 * t.cp) (0 * t.cn) z) (kept_none ts)

scaled_same : (k : ℕ) (f : Form) → k ≤ 128 → Fits 65536 f → S.scaled (number k) (float f) ≡ float (scaled k f)
unfolding S.scaled float scaled
scaled_same zero f h l = affine (multiple 0 f.bp f.bn h (l.1.0, l.1.1) ∙ unfold constant in diff_same binary32 (0 * f.bp) (0 * f.bn) 0 0 (omega arith)) (ap S.kept (times_same 0 f.terms h l.1.2) ∙ kept_none f.terms ∙ unfold constant in refl)
scaled_same (suc k) f h l =
    affine (multiple (suc k) f.bp f.bn h (l.1.0, l.1.1))
    (ap S.kept (times_same (suc k) f.terms h l.1.2) ∙ kept_fit 0 (times (suc k) f.terms) (times_fit 0 l.0.0 k f.terms h l.0.1 l.1.2))

-- ---- a form plus a number

offset_same : (p n : ℕ) (f : Form) → p ≤ 1 → n ≤ 128 → Fits 8388608 f → S.offset (difference p n) (float f) ≡ float (offset p n f)
unfolding S.offset float offset
offset_same p n f h k l =
    let d : difference p n ≡ diff binary32 p n = sub_diff binary32 p 0 n 0 (omega arith, omega arith) (omega arith, omega arith) ∙ diff_same binary32 (p + 0) (0 + n) p n (omega arith) in
    affine (ap (add binary32 (diff binary32 f.bp f.bn)) d ∙ add_diff binary32 f.bp f.bn p n (near _ _ (bias_near f l)) (omega arith, omega arith)) refl

-- ---- constants

empty_same : (ts : List Term) → emptyF (float_terms ts) ≡ empty ts
unfolding emptyF empty
empty_same [] = refl
empty_same (t ∷ ts) = refl

known_at_lem : (a b : Bool) → knownAtF a b ≡ known_at a b
unfolding knownAtF known_at
known_at_lem true true = refl
known_at_lem true false = refl
known_at_lem false b = refl

known_same : (f : Form) → Fits 8388608 f → knownF (float f) ≡ known f
unfolding knownF known float
known_same f h = (λ i. knownAtF (empty_same f.terms i) (eq_zero f.bp f.bn (near _ _ (bias_near f h)) i)) ∙ known_at_lem (empty f.terms) (eqb f.bp f.bn)

reaches_same : (k : ℕ) (f : Form) → k ≤ 128 → Fits 8388608 f → le (number k) (float f).bias ≡ leb (f.bn + k) f.bp
unfolding float
reaches_same k f h l =
    let a : k + f.bn ≡ f.bn + k = omega arith in
    let b : f.bp + 0 ≡ f.bp = omega arith in
    le_diff binary32 k 0 f.bp f.bn (omega arith, omega arith) (near _ _ (bias_near f l)) ∙ (λ i. leb (a i) (b i))

terms_same : (f : Form) → length (float f).terms ≡ len f
unfolding float
terms_same f = length-map f.terms float_term

pub faithful : Respects floats float
faithful = record {
  constant_same = λ b l. constant_same b;
  wire_same = wire_same;
  plus_same = plus_same;
  negate_same = negate_same;
  scaled_same = scaled_same;
  offset_same = offset_same;
  known_same = known_same;
  reaches_same = reaches_same;
  terms_same = terms_same;
}
