-- Lower_ordered over an algebra that respects small forms, turn by turn: what one turn of each loop makes of images is the image of what it
-- makes.
use Prim.Native.Nat.{◌*◌, ◌+◌, ◌≤◌, suc, ℕ}
use native.Mathlib.Omega.{arith}
use mathlib.Core.List.{List}
use mathlib.Core.Path.{◌∙◌, ◌≡◌}
use Rattle.construct.specs.Builder.{and, at_least, is_zero, not', or}
use Rattle.construct.specs.Forms.{Forms}
use Rattle.construct.specs.Pairs.{Form, GatedChild, ClearedChild, ArbitratedChild, Many, Op, Ordered, Picked, StatusBits, pairs, plus, scaled}
use Rattle.construct_instances.proofs.Fits.{Fit, and_fit, at_least_fit, fit_up, fits, not_fit, or_fit, scaled_fit}
use Rattle.construct_instances.proofs.Steps.{and_sim, at_least_sim, is_zero_sim, most, not_sim, or_sim, out, plus_sim}
use Rattle.construct_instances.proofs.Respects.{Respects, of_op, of_status}
use Rattle.construct.specs.Builder as B
use Rattle.construct.specs.Lower as L
use mathlib.Core.List.{map}
use native.Mathlib.Nat.{mul-le-mul_right}

module _ {F : Type 0} (A : Forms F) (of : Form → F) (same : Respects A of) where
  abbrev pub of_ops : List Op → List (B.Op F)
  of_ops os = map (of_op of) os

  abbrev pub of_statuses : List StatusBits → List (L.StatusBits F)
  of_statuses ts = map (of_status of) ts

  abbrev pub of_gated_child : GatedChild → L.GatedChild F
  of_gated_child x = record { status = of_status of x.status; before = of x.before; blocked = of x.blocked }

  abbrev pub of_cleared_child : ClearedChild → L.ClearedChild F
  of_cleared_child x = record { child = of_gated_child x.child; clear = of x.clear }

  abbrev pub of_arbitrated_child : ArbitratedChild → L.ArbitratedChild F
  of_arbitrated_child x = record { status = of_status of x.status; reach = of x.reach; stop = of x.stop; after_stop = of x.after_stop }

  abbrev pub of_many : {X Y : Type 0} → (X → Y) → Many X → L.Many F Y
  of_many image m = record { items = map image m.items; ops = of_ops m.ops }

  abbrev pub of_picked : Picked → L.Picked F
  of_picked p = record { other = of p.other; run = of p.run; cursor = of p.cursor; ops = of_ops p.ops }

  abbrev pub of_ordered : Ordered → L.Ordered F
  of_ordered o = record { status = of_status of o.status; kids = map of_arbitrated_child o.kids; cursor = of o.cursor; ops = of_ops o.ops }

-- a status of weight w
pub record BitsFit (w : ℕ) (t : StatusBits) : Type 0 where
  pub success : Fit w t.success
  pub failure : Fit w t.failure
  pub running : Fit w t.running
  pub sf : Fit w (plus t.success t.failure)

pub record Fit1 (w : ℕ) (x : GatedChild) : Type 0 where
  pub status : BitsFit w x.status
  pub before : Fit 1 x.before
  pub blocked : Fit (w + 3) x.blocked

pub record Fit2 (w : ℕ) (x : ClearedChild) : Type 0 where
  pub child : Fit1 w x.child
  pub clear : Fit 1 x.clear

pub record Fit3 (D w : ℕ) (x : ArbitratedChild) : Type 0 where
  pub status : BitsFit w x.status
  pub reach : Fit 2 x.reach
  pub stop : Fit (w + 3) x.stop
  pub after_stop : Fit D x.after_stop

module _ {F : Type 0} (A : Forms F) (of : Form → F) (same : Respects A of) (opsAt : ℕ) where
  pub record Gate (w : ℕ) (c : Form) (k : ℕ) (t : StatusBits) (os : List Op) : Type 0 where
    pub later : at_least A opsAt (of c) (suc k) (of_ops A of same os) ≡ out A of same (at_least pairs opsAt c (suc k) os)
    pub pass : or A opsAt (at_least A opsAt (of c) (suc k) (of_ops A of same os)).form (of t.success) (at_least A opsAt (of c) (suc k) (of_ops A of same os)).ops
        ≡ out A of same (or pairs opsAt (at_least pairs opsAt c (suc k) os).form t.success (at_least pairs opsAt c (suc k) os).ops)
    pub later_fit : Fit 1 (at_least pairs opsAt c (suc k) os).form
    pub pass_fit : Fit (1 + w + 1) (or pairs opsAt (at_least pairs opsAt c (suc k) os).form t.success (at_least pairs opsAt c (suc k) os).ops).form

  pub gate : (w : ℕ) (c : Form) (k : ℕ) (t : StatusBits) (os : List Op) → Fit 1 c → suc k ≤ 128 → w ≤ 400000 → BitsFit w t → Gate w c k t os
  gate w c k t os h l b t' =
      let o₁ = at_least pairs opsAt c (suc k) os in
      let f₁ : Fit 1 o₁.form = at_least_fit opsAt c (suc k) os in
      let e₁ : at_least A opsAt (of c) (suc k) (of_ops A of same os) ≡ out A of same o₁ = at_least_sim A of same opsAt c (suc k) os l h in
      record {
        later = e₁;
        pass = (λ i. or A opsAt (e₁ i).form (of t.success) (e₁ i).ops) ∙ or_sim A of same opsAt o₁.form t.success o₁.ops (fit_up 1 most o₁.form f₁ (omega arith)) (fit_up w most t.success t'.success (omega arith));
        later_fit = f₁;
        pass_fit = or_fit opsAt 1 w o₁.form t.success o₁.ops f₁ t'.success;
      }

  -- a prefix sum
  pub sum : (p d : ℕ) (pre x : Form) → Fit p pre → Fit d x → p + d ≤ 4194304 → A.plus (of pre) (of x) ≡ of (plus pre x)
  sum p d pre x h g b = plus_sim A of same pre x (fit_up p 4194304 pre h (omega arith)) (fit_up d 4194304 x g (omega arith))

  pub clear : (p : ℕ) (pre : Form) (os : List Op) → Fit p pre → p ≤ 400000 → is_zero A opsAt (of pre) (of_ops A of same os) ≡ out A of same (is_zero pairs opsAt pre os)
  clear p pre os h b = is_zero_sim A of same opsAt pre os (fit_up p most pre h (omega arith))

  pub record StopTurn (w : ℕ) (x : ClearedChild) (os : List Op) : Type 0 where
    pub reach : and A opsAt (of x.clear) (not' A (of x.child.before)) (of_ops A of same os) ≡ out A of same (and pairs opsAt x.clear (not' pairs x.child.before) os)
    pub stop : and A opsAt (of x.clear) (of x.child.blocked) (and A opsAt (of x.clear) (not' A (of x.child.before)) (of_ops A of same os)).ops
        ≡ out A of same (and pairs opsAt x.clear x.child.blocked (and pairs opsAt x.clear (not' pairs x.child.before) os).ops)
    pub reach_fit : Fit 2 (and pairs opsAt x.clear (not' pairs x.child.before) os).form
    pub stop_fit : Fit (w + 3) (and pairs opsAt x.clear x.child.blocked (and pairs opsAt x.clear (not' pairs x.child.before) os).ops).form

  pub stop : (w : ℕ) (x : ClearedChild) (os : List Op) → w ≤ 400000 → Fit2 w x → StopTurn w x os
  stop w x os b g =
      let nb = not' pairs x.child.before in
      let fn : Fit 2 nb = not_fit 1 x.child.before g.child.before in
      let o₁ = and pairs opsAt x.clear nb os in
      let cl : Fit most x.clear = fit_up 1 most x.clear g.clear (omega arith) in
      let en : not' A (of x.child.before) ≡ of nb = not_sim A of same x.child.before (fit_up 1 (most + most + 1) x.child.before g.child.before (omega arith)) in
      let e₁ : and A opsAt (of x.clear) (not' A (of x.child.before)) (of_ops A of same os) ≡ out A of same o₁
      = (λ i. and A opsAt (of x.clear) (en i) (of_ops A of same os)) ∙ and_sim A of same opsAt x.clear nb os cl (fit_up 2 most nb fn (omega arith)) in
      record {
        reach = e₁;
        stop = (λ i. and A opsAt (of x.clear) (of x.child.blocked) (e₁ i).ops)
            ∙ and_sim A of same opsAt x.clear x.child.blocked o₁.ops cl (fit_up (w + 3) most x.child.blocked g.child.blocked (omega arith));
        reach_fit = and_fit opsAt 2 x.clear nb os (omega arith) (fit_up 1 2 x.clear g.clear (omega arith)) fn;
        stop_fit = and_fit opsAt (w + 3) x.clear x.child.blocked o₁.ops (omega arith) (fit_up 1 (w + 3) x.clear g.clear (omega arith)) g.child.blocked;
      }

  pub record Pick (w k : ℕ) (x : ArbitratedChild) (os : List Op) : Type 0 where
    pub other : and A opsAt (of x.stop) (of x.status.failure) (of_ops A of same os) ≡ out A of same (and pairs opsAt x.stop x.status.failure os)
    pub run : and A opsAt (of x.stop) (of x.status.running) (and A opsAt (of x.stop) (of x.status.failure) (of_ops A of same os)).ops
        ≡ out A of same (and pairs opsAt x.stop x.status.running (and pairs opsAt x.stop x.status.failure os).ops)
    pub cursor : A.scaled k (of (and pairs opsAt x.stop x.status.running (and pairs opsAt x.stop x.status.failure os).ops).form)
        ≡ of (scaled k (and pairs opsAt x.stop x.status.running (and pairs opsAt x.stop x.status.failure os).ops).form)
    pub oth_fit : Fit (w + 3) (and pairs opsAt x.stop x.status.failure os).form
    pub run_fit : Fit (w + 3) (and pairs opsAt x.stop x.status.running (and pairs opsAt x.stop x.status.failure os).ops).form
    pub cur_fit : Fit (128 * (w + 3)) (scaled k (and pairs opsAt x.stop x.status.running (and pairs opsAt x.stop x.status.failure os).ops).form)

  pub pick : (D w k : ℕ) (x : ArbitratedChild) (os : List Op) → w + 3 ≤ 32768 → k ≤ 128 → Fit3 D w x → Pick w k x os
  pick D w k x os l b g =
      let d = w + 3 in
      let a = and pairs opsAt x.stop x.status.failure os in
      let r = and pairs opsAt x.stop x.status.running a.ops in
      let hf : Fit d x.status.failure = fit_up w d x.status.failure g.status.failure (omega arith) in
      let hr : Fit d x.status.running = fit_up w d x.status.running g.status.running (omega arith) in
      let fr : Fit d r.form = and_fit opsAt d x.stop x.status.running a.ops (omega arith) g.stop hr in
      let st : Fit most x.stop = fit_up d most x.stop g.stop (omega arith) in
      let ea : and A opsAt (of x.stop) (of x.status.failure) (of_ops A of same os) ≡ out A of same a = and_sim A of same opsAt x.stop x.status.failure os st (fit_up d most x.status.failure hf (omega arith)) in
      record {
        other = ea;
        run = (λ i. and A opsAt (of x.stop) (of x.status.running) (ea i).ops) ∙ and_sim A of same opsAt x.stop x.status.running a.ops st (fit_up d most x.status.running hr (omega arith));
        cursor = same.scaled_same k r.form b (fits d 65536 r.form (omega arith) fr);
        oth_fit = and_fit opsAt d x.stop x.status.failure os (omega arith) g.stop hf;
        run_fit = fr;
        cur_fit = fit_up (k * d) (128 * d) (scaled k r.form) (scaled_fit k d r.form fr) (mul-le-mul_right d b);
      }
