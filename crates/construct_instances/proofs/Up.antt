-- The bottom-up pass over an algebra that respects small forms.
use Prim.Native.Nat.{◌*◌, ◌+◌, ◌≤◌, suc, zero, ℕ}
use native.Mathlib.Omega.{arith}
use mathlib.Core.Bool.{Bool, false, not, true}
use mathlib.Core.List.{List, [], ◌∷◌}
use mathlib.Core.Path.{◌∙◌, ◌≡◌, ap, refl}
use lib.ListN.{drop, take}
use Rattle.construct.proofs.Bits.{bit_le}
use Rattle.construct.specs.Forms.{Forms}
use Rattle.construct.specs.Lower.{Flat, cell_after, cursor_f, fixed, fixed_t, force, forced, invert, inverted, leaf, leaf_t, lower, ordered, plain, slot_after, top, up, up_step}
use Rattle.construct.specs.Pairs.{Form, Arbitration, ArbitratedChild, StatusBits, Up, constant, pairs, plus}
use Rattle.construct_instances.proofs.Fits.{Fit, constant_fit, fit_up, plus_fit, wire_fit}
use Rattle.construct_instances.proofs.Loops.{Weights, lower_sim, wcons, wnil}
use Rattle.construct_instances.proofs.Turns.{BitsFit, of_arbitrated_child, of_ops, of_statuses}
use Rattle.construct_instances.proofs.Steps.{plus_sim}
use Rattle.construct_instances.proofs.Respects.{Respects, of_status}
use Rattle.walk.specs.Kind.{bit}
use Rattle.lists.specs.Every.{All}
use Rattle.construct.specs.Lower as L
use mathlib.Core.List.{map}

-- the children on the stack, few and light
pub record Stacked (ts : List StatusBits) : Type 0 where
  pub count : ℕ
  pub weight : ℕ
  pub few : count ≤ 128
  pub light : weight + 2 ≤ 32768
  pub fit : Weights BitsFit count weight ts

pub record Taken (k n W : ℕ) (ts : List StatusBits) : Type 0 where
  pub count : ℕ
  pub weight : ℕ
  pub fewer : count ≤ n
  pub lighter : weight ≤ W
  pub fit : Weights BitsFit count weight (take k ts)

pub taken : (k : ℕ) {n W : ℕ} {ts : List StatusBits} → Weights BitsFit n W ts → Taken k n W ts
taken zero ws = record { count = 0; weight = 0; fewer = omega arith; lighter = omega arith; fit = wnil }
taken (suc k) wnil = record { count = 0; weight = 0; fewer = omega arith; lighter = omega arith; fit = wnil }
taken (suc k) (wcons {w = w} h hs) =
    let r = taken k hs in
    record { count = suc r.count; weight = w + 5 + r.weight; fewer = omega (arith, r.fewer); lighter = omega (arith, r.lighter); fit = wcons h r.fit }

bits_up : (v w : ℕ) (t : StatusBits) → v ≤ w → BitsFit v t → BitsFit w t
bits_up v w t l h = record { success = fit_up v w t.success h.success l; failure = fit_up v w t.failure h.failure l; running = fit_up v w t.running h.running l; sf = fit_up v w (plus t.success t.failure) h.sf l }

fixed_fit : (b : Bool) → BitsFit 2 (fixed_t pairs b)
unfolding fixed_t
fixed_fit b =
    let s : Fit 1 (constant (bit b)) = fit_up (bit b) 1 (constant (bit b)) (constant_fit (bit b)) (bit_le b) in
    let f : Fit 1 (constant (bit (not b))) = fit_up (bit (not b)) 1 (constant (bit (not b))) (constant_fit (bit (not b))) (bit_le (not b)) in
    record { success = fit_up 1 2 _ s (omega arith); failure = fit_up 1 2 _ f (omega arith); running = fit_up 0 2 _ (constant_fit 0) (omega arith); sf = plus_fit 1 1 (constant (bit b)) (constant (bit (not b))) s f }

top_fit : {n W : ℕ} {ts : List StatusBits} → W + 2 ≤ 32768 → Weights BitsFit n W ts → BitsFit 32768 (top (fixed_t pairs true) ts)
top_fit l wnil = bits_up 2 32768 (fixed_t pairs true) (omega arith) (fixed_fit true)
top_fit l (wcons {w = w} {x = t} h hs) = bits_up w 32768 t (omega arith) h

-- what the top-down pass calculates with
pub record ArbitrationFit (x : Arbitration) : Type 0 where
  pub run : Fit 32769 x.raw.running
  pub kids : All (λ (k : ArbitratedChild). Fit 32768 k.reach × Fit 32768 k.after_stop) x.kids

kids_up : (D : ℕ) (xs : List ArbitratedChild) → D ≤ 32768 → All (λ (k : ArbitratedChild). Fit D k.reach × Fit D k.after_stop) xs → All (λ (k : ArbitratedChild). Fit 32768 k.reach × Fit 32768 k.after_stop) xs
kids_up D [] l h = tt
kids_up D (x ∷ xs) l h = ((fit_up D 32768 x.reach h.0.0 l, fit_up D 32768 x.after_stop h.0.1 l), kids_up D xs l h.1)

forced_run : (b : Bool) (t : StatusBits) → (forced pairs b t).running ≡ t.running
unfolding forced
forced_run true t = refl
forced_run false t = refl

module _ {F : Type 0} (A : Forms F) (of : Form → F) (same : Respects A of) where
  abbrev pub of_arbitration : Arbitration → L.Arbitration F
  of_arbitration x = record { node = x.node; raw = of_status of x.raw; kids = map (of_arbitrated_child A of same) x.kids; cursor = of x.cursor }

  abbrev pub of_up : Up → L.Up F
  of_up u = record { stack = of_statuses A of same u.stack; arbitrations = map of_arbitration u.arbitrations; ops = of_ops A of same u.ops }

  zero_is : A.constant 0 ≡ of (constant 0)
  zero_is = same.constant_same 0 (omega arith)

  fixed_is : (b : Bool) → fixed_t A b ≡ of_status of (fixed_t pairs b)
  unfolding fixed_t
  fixed_is b = λ i. record { success = same.constant_same (bit b) (bit_le b) i; failure = same.constant_same (bit (not b)) (bit_le (not b)) i; running = zero_is i }

  forced_is : (b : Bool) (t : StatusBits) → BitsFit 32768 t → forced A b (of_status of t) ≡ of_status of (forced pairs b t)
  unfolding forced
  forced_is true t h = λ i. record { success = plus_sim A of same t.success t.failure (fit_up 32768 4194304 t.success h.success (omega arith)) (fit_up 32768 4194304 t.failure h.failure (omega arith)) i; failure = zero_is i; running = of t.running }
  forced_is false t h = λ i. record { success = zero_is i; failure = plus_sim A of same t.success t.failure (fit_up 32768 4194304 t.success h.success (omega arith)) (fit_up 32768 4194304 t.failure h.failure (omega arith)) i; running = of t.running }

  pub top_is : (ts : List StatusBits) → top (fixed_t A true) (of_statuses A of same ts) ≡ of_status of (top (fixed_t pairs true) ts)
  top_is [] = fixed_is true
  top_is (t ∷ ts) = refl

  pub drop_is : {X Y : Type 0} (image : X → Y) (k : ℕ) (xs : List X) → drop k (map image xs) ≡ map image (drop k xs)
  drop_is image zero xs = refl
  drop_is image (suc k) [] = refl
  drop_is image (suc k) (x ∷ xs) = drop_is image k xs

  pub take_is : {X Y : Type 0} (image : X → Y) (k : ℕ) (xs : List X) → take k (map image xs) ≡ map image (take k xs)
  take_is image zero xs = refl
  take_is image (suc k) [] = refl
  take_is {Y = Y} image (suc k) (x ∷ xs) = ap (λ (l : List Y). image x ∷ l) (take_is image k xs)

  module _ (opsAt cursorsAt leaves_at : ℕ) where
    leaf_is : (s : ℕ) → leaf_t A opsAt cursorsAt leaves_at s ≡ of_status of (leaf_t pairs opsAt cursorsAt leaves_at s)
    leaf_is s = λ i. record { success = same.wire_same (leaves_at + 3 * s) i; failure = same.wire_same (leaves_at + 3 * s + 1) i; running = same.wire_same (leaves_at + 3 * s + 2) i }

    pub cursor_is : (m : Bool) (c : ℕ) → cursor_f A opsAt cursorsAt leaves_at m c ≡ of (cursor_f pairs opsAt cursorsAt leaves_at m c)
    cursor_is true c = same.wire_same (cursorsAt + c)
    cursor_is false c = zero_is

    pub cursor_fit : (m : Bool) (c : ℕ) → Fit 1 (cursor_f pairs opsAt cursorsAt leaves_at m c)
    cursor_fit true c = wire_fit (cursorsAt + c)
    cursor_fit false c = fit_up 0 1 (constant 0) (constant_fit 0) (omega arith)

    -- a node without ops
    plain_is : (n : Flat) (t : StatusBits) (x : L.StatusBits F) (ts : List StatusBits) (xs : List (L.StatusBits F)) (u : Up) → x ≡ of_status of t → xs ≡ of_statuses A of same ts → plain A n x xs (of_up u) ≡ of_up (plain pairs n t ts u)
    plain_is n t x ts xs u e d = λ i. record {
      stack = e i ∷ d i;
      arbitrations = record { node = n; raw = e i; kids = []; cursor = zero_is i } ∷ map of_arbitration u.arbitrations;
      ops = of_ops A of same u.ops;
    }

    step_is : (n : Flat) (s c : ℕ) (u : Up) → Stacked u.stack → up_step A opsAt cursorsAt leaves_at n s c (of_up u) ≡ of_up (up_step pairs opsAt cursorsAt leaves_at n s c u)
    unfolding up_step inverted
    step_is leaf s c u h = plain_is leaf (leaf_t pairs opsAt cursorsAt leaves_at s) (leaf_t A opsAt cursorsAt leaves_at s) u.stack (of_statuses A of same u.stack) u (leaf_is s) refl
    step_is (fixed b) s c u h = plain_is (fixed b) (fixed_t pairs b) (fixed_t A b) u.stack (of_statuses A of same u.stack) u (fixed_is b) refl
    step_is invert s c u h = plain_is invert (inverted (top (fixed_t pairs true) u.stack)) (inverted (top (fixed_t A true) (of_statuses A of same u.stack))) (drop 1 u.stack) (drop 1 (of_statuses A of same u.stack)) u
        (ap (λ (x : L.StatusBits F). inverted x) (top_is u.stack)) (drop_is (of_status of) 1 u.stack)
    step_is (force b) s c u h =
        let t = top (fixed_t pairs true) u.stack in
        plain_is (force b) (forced pairs b t) (forced A b (top (fixed_t A true) (of_statuses A of same u.stack))) (drop 1 u.stack) (drop 1 (of_statuses A of same u.stack)) u
        (ap (λ (x : L.StatusBits F). forced A b x) (top_is u.stack) ∙ forced_is b t (top_fit h.light h.fit)) (drop_is (of_status of) 1 u.stack)
    step_is (ordered m q n) s c u h =
        let k = taken n h.fit in
        let f = cursor_f pairs opsAt cursorsAt leaves_at m c in
        let r = lower_sim A of same opsAt q f u.ops (cursor_fit m c) (omega (arith, k.fewer, h.few)) (omega (arith, k.lighter, h.light)) k.fit in
        (λ i. let o = lower A opsAt q (cursor_is m c i) (take_is (of_status of) n u.stack i) (of_ops A of same u.ops) in
        record { stack = o.status ∷ drop_is (of_status of) n u.stack i; arbitrations = record { node = ordered m q n; raw = o.status; kids = o.kids; cursor = o.cursor } ∷ map of_arbitration u.arbitrations; ops = o.ops })
        ∙ (λ i. let o = r.is i in
        record { stack = o.status ∷ of_statuses A of same (drop n u.stack); arbitrations = record { node = ordered m q n; raw = o.status; kids = o.kids; cursor = o.cursor } ∷ map of_arbitration u.arbitrations; ops = o.ops })

    step_fit : (n : Flat) (s c : ℕ) (u : Up) → Stacked u.stack → All ArbitrationFit u.arbitrations → All ArbitrationFit (up_step pairs opsAt cursorsAt leaves_at n s c u).arbitrations
    unfolding up_step inverted
    step_fit leaf s c u h g = (record { run = fit_up 1 32769 _ (wire_fit (leaves_at + 3 * s + 2)) (omega arith); kids = tt }, g)
    step_fit (fixed b) s c u h g = (record { run = fit_up 2 32769 _ (fixed_fit b).running (omega arith); kids = tt }, g)
    step_fit invert s c u h g = (record { run = fit_up 32768 32769 _ (top_fit h.light h.fit).running (omega arith); kids = tt }, g)
    step_fit (force b) s c u h g = (record { run = rw (forced_run b (top (fixed_t pairs true) u.stack)) (fit_up 32768 32769 _ (top_fit h.light h.fit).running (omega arith)); kids = tt }, g)
    step_fit (ordered m q n) s c u h g =
        let k = taken n h.fit in
        let f = cursor_f pairs opsAt cursorsAt leaves_at m c in
        let o = lower pairs opsAt q f (take n u.stack) u.ops in
        let r = lower_sim A of same opsAt q f u.ops (cursor_fit m c) (omega (arith, k.fewer, h.few)) (omega (arith, k.lighter, h.light)) k.fit in (
          record {
            run = fit_up (k.weight + 2 + 1) 32769 o.status.running r.status.2 (omega (arith, k.lighter, h.light));
            kids = kids_up (k.weight + 2) o.kids (omega (arith, k.lighter, h.light)) r.kids;
          },
          g,
        )

-- every stack that the bottom-up pass comes to
abbrev pub Ready : ℕ → ℕ → ℕ → ℕ → ℕ → List Flat → Type 0
Ready opsAt cursorsAt leaves_at s c [] = Unit {0}
Ready opsAt cursorsAt leaves_at s c (n ∷ ns) = Stacked (up pairs opsAt cursorsAt leaves_at (slot_after n s) (cell_after n c) ns).stack × Ready opsAt cursorsAt leaves_at (slot_after n s) (cell_after n c) ns

module _ {F : Type 0} (A : Forms F) (of : Form → F) (same : Respects A of) (opsAt cursorsAt leaves_at : ℕ) where
  pub up_is : (s c : ℕ) (ns : List Flat) → Ready opsAt cursorsAt leaves_at s c ns → up A opsAt cursorsAt leaves_at s c ns ≡ of_up A of same (up pairs opsAt cursorsAt leaves_at s c ns)
  unfolding up
  up_is s c [] h = refl
  up_is s c (n ∷ ns) h =
      ap (λ (u : L.Up F). up_step A opsAt cursorsAt leaves_at n s c u) (up_is (slot_after n s) (cell_after n c) ns h.1)
      ∙ step_is A of same opsAt cursorsAt leaves_at n s c (up pairs opsAt cursorsAt leaves_at (slot_after n s) (cell_after n c) ns) h.0

  pub up_fit : (s c : ℕ) (ns : List Flat) → Ready opsAt cursorsAt leaves_at s c ns → All ArbitrationFit (up pairs opsAt cursorsAt leaves_at s c ns).arbitrations
  unfolding up
  up_fit s c [] h = tt
  up_fit s c (n ∷ ns) h = step_fit A of same opsAt cursorsAt leaves_at n s c (up pairs opsAt cursorsAt leaves_at (slot_after n s) (cell_after n c) ns) h.0 (up_fit (slot_after n s) (cell_after n c) ns h.1)
