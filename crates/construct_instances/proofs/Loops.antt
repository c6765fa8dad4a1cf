-- lower_ordered over an algebra that respects small forms. A child of weight w adds at most w + 5 to every sum of its parent.
use Prim.Native.Nat.{◌*◌, ◌+◌, ◌≤◌, suc, ℕ}
use native.Mathlib.Omega.{arith}
use mathlib.Core.Bool.{Bool, false, true}
use mathlib.Core.List.{List, [], ◌∷◌}
use mathlib.Core.Path.{◌∙◌, ◌≡◌, ap, refl}
use Rattle.construct.proofs.Builds.{same}
use Rattle.construct.proofs.Values.{plus_law}
use Rattle.construct.specs.Builder.{and, at_least, is_zero, not', or}
use Rattle.construct.specs.Forms.{Forms}
use Rattle.construct.specs.Lower.{clears, gates, inverted, inverteds, lower, lower_seq, picks, stops, total}
use Rattle.construct.specs.Pairs.{Form, GatedChild, ClearedChild, ArbitratedChild, Many, Op, Ordered, Picked, StatusBits, constant, pairs, plus, scaled}
use Rattle.construct_instances.proofs.Fits.{Fit, constant_fit, fit_up, is_zero_fit, not_fit, plus_fit}
use Rattle.construct_instances.proofs.Steps.{most, not_sim}
use Rattle.construct_instances.proofs.Turns.{Fit1, Fit2, Fit3, BitsFit, clear, gate, of_gated_child, of_cleared_child, of_arbitrated_child, of_many, of_ops, of_ordered, of_picked, of_statuses, pick, stop, sum}
use Rattle.construct_instances.proofs.Respects.{Respects, of_status}
use Rattle.lists.specs.Every.{All}
use Rattle.walk.specs.Walk.{status}
use Rattle.construct.specs.Lower as L
use mathlib.Core.List.{map}

-- children as the three loops leave them, counted, with their weights added up: each may take 5 more than its own
pub data Weights {X : Type 0} (R : ℕ → X → Type 0) : ℕ → ℕ → List X → Type 0 where
  wnil : Weights R 0 0 []
  wcons : {n w W : ℕ} {x : X} {xs : List X} → R w x → Weights R n W xs → Weights R (suc n) (w + 5 + W) (x ∷ xs)

-- what a loop makes: the images, and its items' weights
pub record Simulates {F X Y : Type 0} (image : Many X → L.Many F Y) (R : ℕ → X → Type 0) (n W : ℕ) (a : L.Many F Y) (m : Many X) : Type 0 where
  pub is : a ≡ image m
  pub fit : Weights R n W m.items

-- lower_ordered from each loop's result on
module _ {F : Type 0} (A : Forms F) (opsAt : ℕ) where
  abbrev stopped : F → L.Many F (L.ArbitratedChild F) → L.Ordered F
  stopped z d =
      let e = picks A opsAt 0 z z z d.items d.ops in
      record { status = record { success = not' A (total A z d.items); failure = e.other; running = e.run }; kids = d.items; cursor = e.cursor; ops = e.ops }

  abbrev cleared : F → L.Many F (L.ClearedChild F) → L.Ordered F
  cleared z b = stopped z (stops A opsAt z b.items b.ops)

  abbrev gated : F → L.Many F (L.GatedChild F) → L.Ordered F
  gated z a = cleared z (clears A opsAt z a.items a.ops)

module _ {F : Type 0} (A : Forms F) (of : Form → F) (same : Respects A of) (opsAt : ℕ) where
  pub gates_sim : (c : Form) (k : ℕ) {n W : ℕ} {ts : List StatusBits} (os : List Op) → Fit 1 c → k + n ≤ 128 → W ≤ 400000 → Weights BitsFit n W ts
      → Simulates (of_many A of same (of_gated_child A of same)) Fit1 n W (gates A opsAt (of c) k (of_statuses A of same ts) (of_ops A of same os)) (gates pairs opsAt c k ts os)
  unfolding gates
  gates_sim c k os h l b wnil = record { is = refl; fit = wnil }
  gates_sim c k os h l b (wcons {w = w} {W = W} {x = t} {xs = ts} t' hs) =
      let o₁ = at_least pairs opsAt c (suc k) os in
      let o₂ = or pairs opsAt o₁.form t.success o₁.ops in
      let g = gate A of same opsAt w c k t os h (omega arith) (omega arith) t' in
      let n : not' A (of o₂.form) ≡ of (not' pairs o₂.form) = not_sim A of same o₂.form (fit_up (1 + w + 1) (most + most + 1) o₂.form g.pass_fit (omega arith)) in
      let r = gates_sim c (suc k) o₂.ops h (omega arith) (omega arith) hs in
      record {
        is = (λ i. let rest = gates A opsAt (of c) (suc k) (of_statuses A of same ts) (g.pass i).ops in
            record { items = record { status = of_status of t; before = (g.later i).form; blocked = not' A (g.pass i).form } ∷ rest.items; ops = rest.ops })
            ∙ (λ i. record { items = record { status = of_status of t; before = of o₁.form; blocked = n i } ∷ (r.is i).items; ops = (r.is i).ops });
        fit = wcons (record { status = t'; before = g.later_fit; blocked = fit_up (1 + w + 1 + 1) (w + 3) (not' pairs o₂.form) (not_fit (1 + w + 1) o₂.form g.pass_fit) (omega arith) }) r.fit;
      }

  pub clears_sim : (pre : Form) (p : ℕ) {n W : ℕ} {xs : List GatedChild} (os : List Op) → Fit p pre → p + W ≤ 400000 → Weights Fit1 n W xs
      → Simulates (of_many A of same (of_cleared_child A of same)) Fit2 n W (clears A opsAt (of pre) (map (of_gated_child A of same) xs) (of_ops A of same os)) (clears pairs opsAt pre xs os)
  unfolding clears
  clears_sim pre p os h b wnil = record { is = refl; fit = wnil }
  clears_sim pre p os h b (wcons {w = w} {W = W} {x = x} {xs = xs} g hs) =
      let z = is_zero pairs opsAt pre os in
      let e₁ = clear A of same opsAt p pre os h (omega arith) in
      let e₂ = sum A of same opsAt p (w + 3) pre x.blocked h g.blocked (omega arith) in
      let r = clears_sim (plus pre x.blocked) (p + (w + 3)) z.ops (plus_fit p (w + 3) pre x.blocked h g.blocked) (omega arith) hs in
      record {
        is = (λ i. let rest = clears A opsAt (e₂ i) (map (of_gated_child A of same) xs) (e₁ i).ops in
            record { items = record { child = of_gated_child A of same x; clear = (e₁ i).form } ∷ rest.items; ops = rest.ops })
            ∙ (λ i. record { items = record { child = of_gated_child A of same x; clear = of z.form } ∷ (r.is i).items; ops = (r.is i).ops });
        fit = wcons (record { child = g; clear = is_zero_fit opsAt pre os }) r.fit;
      }

  pub stops_sim : (D : ℕ) (acc : Form) (p : ℕ) {n W : ℕ} {xs : List ClearedChild} (os : List Op) → Fit p acc → p + W ≤ D → D ≤ 400000 → Weights Fit2 n W xs
      → Simulates (of_many A of same (of_arbitrated_child A of same)) (Fit3 D) n W (stops A opsAt (of acc) (map (of_cleared_child A of same) xs) (of_ops A of same os)) (stops pairs opsAt acc xs os)
  unfolding stops
  stops_sim D acc p os h l b wnil = record { is = refl; fit = wnil }
  stops_sim D acc p os h l b (wcons {w = w} {W = W} {x = x} {xs = xs} g hs) =
      let o₁ = and pairs opsAt x.clear (not' pairs x.child.before) os in
      let o₂ = and pairs opsAt x.clear x.child.blocked o₁.ops in
      let e = stop A of same opsAt w x os (omega arith) g in
      let f₂ : Fit (w + 3) o₂.form = e.stop_fit in
      let e₃ = sum A of same opsAt p (w + 3) acc o₂.form h f₂ (omega arith) in
      let r = stops_sim D (plus acc o₂.form) (p + (w + 3)) o₂.ops (plus_fit p (w + 3) acc o₂.form h f₂) (omega arith) b hs in
      record {
        is = (λ i. let rest = stops A opsAt (A.plus (of acc) (e.stop i).form) (map (of_cleared_child A of same) xs) (e.stop i).ops in
            record { items = record { status = of_status of x.child.status; reach = (e.reach i).form; stop = (e.stop i).form; after_stop = of acc } ∷ rest.items; ops = rest.ops })
            ∙ (λ i. let rest = stops A opsAt (e₃ i) (map (of_cleared_child A of same) xs) (of_ops A of same o₂.ops) in
            record { items = record { status = of_status of x.child.status; reach = of o₁.form; stop = of o₂.form; after_stop = of acc } ∷ rest.items; ops = rest.ops })
            ∙ (λ i. record { items = record { status = of_status of x.child.status; reach = of o₁.form; stop = of o₂.form; after_stop = of acc } ∷ (r.is i).items; ops = (r.is i).ops });
        fit = wcons (record {
          status = g.child.status;
          reach = e.reach_fit;
          stop = f₂;
          after_stop = fit_up p D acc h (omega arith);
        }) r.fit;
      }

  -- the sum of all stops
  pub record Total (p W : ℕ) (acc : Form) (xs : List ArbitratedChild) : Type 0 where
    pub is : total A (of acc) (map (of_arbitrated_child A of same) xs) ≡ of (total pairs acc xs)
    pub fit : Fit (p + W) (total pairs acc xs)

  pub total_sim : (D : ℕ) (acc : Form) (p : ℕ) {n W : ℕ} {xs : List ArbitratedChild} → Fit p acc → p + W ≤ 400000 → Weights (Fit3 D) n W xs → Total p W acc xs
  unfolding total
  total_sim D acc p h l wnil = record { is = refl; fit = fit_up p (p + 0) acc h (omega arith) }
  total_sim D acc p h l (wcons {w = w} {W = W} {x = x} {xs = xs} g hs) =
      let e = sum A of same opsAt p (w + 3) acc x.stop h g.stop (omega arith) in
      let r = total_sim D (plus acc x.stop) (p + (w + 3)) (plus_fit p (w + 3) acc x.stop h g.stop) (omega arith) hs in
      record {
        is = (λ i. total A (e i) (map (of_arbitrated_child A of same) xs)) ∙ r.is;
        fit = fit_up (p + (w + 3) + W) (p + (w + 5 + W)) (total pairs (plus acc x.stop) xs) r.fit (omega arith);
      }

  pub record Picks (o r c W : ℕ) (a : L.Picked F) (p : Picked) : Type 0 where
    pub is : a ≡ of_picked A of same p
    pub other : Fit (o + W) p.other
    pub run : Fit (r + W) p.run

  pub picks_sim : (D k : ℕ) (fo fr fc : Form) (o r c : ℕ) {n W : ℕ} {xs : List ArbitratedChild} (os : List Op) → Fit o fo → Fit r fr → Fit c fc → o + W ≤ 32768 → r + W ≤ 32768 → c + 128 * W ≤ 4194304 → k + n ≤ 128
      → Weights (Fit3 D) n W xs → Picks o r c W (picks A opsAt k (of fo) (of fr) (of fc) (map (of_arbitrated_child A of same) xs) (of_ops A of same os)) (picks pairs opsAt k fo fr fc xs os)
  unfolding picks
  picks_sim D k fo fr fc o r c os ho hr hc lo lr lc lk wnil = record { is = refl; other = fit_up o (o + 0) fo ho (omega arith); run = fit_up r (r + 0) fr hr (omega arith) }
  picks_sim D k fo fr fc o r c os ho hr hc lo lr lc lk (wcons {w = w} {W = W} {x = x} {xs = xs} g hs) =
      let d = w + 3 in
      let a = and pairs opsAt x.stop x.status.failure os in
      let b = and pairs opsAt x.stop x.status.running a.ops in
      let e = pick A of same opsAt D w k x os (omega arith) (omega arith) g in
      let fa : Fit d a.form = e.oth_fit in
      let fb : Fit d b.form = e.run_fit in
      let fs : Fit (128 * d) (scaled k b.form) = e.cur_fit in
      let po = sum A of same opsAt o d fo a.form ho fa (omega arith) in
      let pr = sum A of same opsAt r d fr b.form hr fb (omega arith) in
      let pc = sum A of same opsAt c (128 * d) fc (scaled k b.form) hc fs (omega arith) in
      let i = picks_sim D (suc k) (plus fo a.form) (plus fr b.form) (plus fc (scaled k b.form)) (o + d) (r + d) (c + 128 * d) b.ops
      (plus_fit o d fo a.form ho fa) (plus_fit r d fr b.form hr fb) (plus_fit c (128 * d) fc (scaled k b.form) hc fs) (omega arith) (omega arith) (omega arith) (omega arith) hs in
      record {
        is = (λ j. picks A opsAt (suc k) (A.plus (of fo) (e.other j).form) (A.plus (of fr) (e.run j).form) (A.plus (of fc) (A.scaled k (e.run j).form)) (map (of_arbitrated_child A of same) xs) (e.run j).ops)
            ∙ (λ j. picks A opsAt (suc k) (po j) (pr j) (A.plus (of fc) (e.cursor j)) (map (of_arbitrated_child A of same) xs) (of_ops A of same b.ops))
            ∙ (λ j. picks A opsAt (suc k) (of (plus fo a.form)) (of (plus fr b.form)) (pc j) (map (of_arbitrated_child A of same) xs) (of_ops A of same b.ops))
            ∙ i.is;
        other = fit_up (o + d + W) (o + (w + 5 + W)) _ i.other (omega arith);
        run = fit_up (r + d + W) (r + (w + 5 + W)) _ i.run (omega arith);
      }

  pub record Lowers (D : ℕ) (a : L.Ordered F) (o : Ordered) : Type 0 where
    pub is : a ≡ of_ordered A of same o
    pub kids : All (λ (x : ArbitratedChild). Fit D x.reach × Fit D x.after_stop) o.kids
    pub status : Fit (D + 1) o.status.success × Fit (D + 1) o.status.failure × Fit (D + 1) o.status.running

  kids_fit : (D : ℕ) {n W : ℕ} {xs : List ArbitratedChild} → 2 ≤ D → Weights (Fit3 D) n W xs → All (λ (x : ArbitratedChild). Fit D x.reach × Fit D x.after_stop) xs
  kids_fit D l wnil = tt
  kids_fit D l (wcons {x = x} g hs) = ((fit_up 2 D x.reach g.reach l, g.after_stop), kids_fit D l hs)

  -- the loops' results, one after the other
  pub record Loops (c : Form) (n W : ℕ) (ts : List StatusBits) (os : List Op) : Type 0 where
    pub gated : Simulates (of_many A of same (of_gated_child A of same)) Fit1 n W (gates A opsAt (of c) 0 (of_statuses A of same ts) (of_ops A of same os)) (gates pairs opsAt c 0 ts os)
    pub cleared : let a = gates pairs opsAt c 0 ts os in
        Simulates (of_many A of same (of_cleared_child A of same)) Fit2 n W (clears A opsAt (of (constant 0)) (map (of_gated_child A of same) a.items) (of_ops A of same a.ops)) (clears pairs opsAt (constant 0) a.items a.ops)
    pub stopped : let a = gates pairs opsAt c 0 ts os in let b = clears pairs opsAt (constant 0) a.items a.ops in
        Simulates (of_many A of same (of_arbitrated_child A of same)) (Fit3 (W + 2)) n W (stops A opsAt (of (constant 0)) (map (of_cleared_child A of same) b.items) (of_ops A of same b.ops)) (stops pairs opsAt (constant 0) b.items b.ops)
    pub summed : let a = gates pairs opsAt c 0 ts os in let b = clears pairs opsAt (constant 0) a.items a.ops in
        Total 0 W (constant 0) (stops pairs opsAt (constant 0) b.items b.ops).items

  pub loops : (c : Form) {n W : ℕ} {ts : List StatusBits} (os : List Op) → Fit 1 c → n ≤ 128 → W + 2 ≤ 32768 → Weights BitsFit n W ts → Loops c n W ts os
  loops c {n} {W} {ts} os h l b ws =
      let z = constant 0 in
      let fz : Fit 0 z = constant_fit 0 in
      let a = gates pairs opsAt c 0 ts os in
      let r₁ = gates_sim c 0 os h (omega arith) (omega arith) ws in
      let g = clears pairs opsAt z a.items a.ops in
      let r₂ = clears_sim z 0 a.ops fz (omega arith) r₁.fit in
      let r₃ = stops_sim (W + 2) z 0 g.ops fz (omega arith) (omega arith) r₂.fit in
      record { gated = r₁; cleared = r₂; stopped = r₃; summed = total_sim (W + 2) z 0 fz (omega arith) r₃.fit }

  seq_sim : (c : Form) {n W : ℕ} {ts : List StatusBits} (os : List Op) → Fit 1 c → n ≤ 128 → W + 2 ≤ 32768 → Weights BitsFit n W ts
      → Lowers (W + 2) (lower_seq A opsAt (of c) (of_statuses A of same ts) (of_ops A of same os)) (lower_seq pairs opsAt c ts os)
  unfolding lower_seq
  seq_sim c {W} {ts} os h l b ws =
      let D = W + 2 in
      let z = constant 0 in
      let fz : Fit 0 z = constant_fit 0 in
      let ez : A.constant 0 ≡ of z = same.constant_same 0 (omega arith) in
      let r = loops c os h l b ws in
      let a = gates pairs opsAt c 0 ts os in
      let g = clears pairs opsAt z a.items a.ops in
      let d = stops pairs opsAt z g.items g.ops in
      let e = picks pairs opsAt 0 z z z d.items d.ops in
      let r₄ = picks_sim D 0 z z z 0 0 0 d.ops fz fz fz (omega arith) (omega arith) (omega arith) (omega arith) r.stopped.fit in
      let t = total pairs z d.items in
      let nt : not' A (of t) ≡ of (not' pairs t) = not_sim A of same t (fit_up (0 + W) (most + most + 1) t r.summed.fit (omega arith)) in
      record {
        is = (λ i. gated A opsAt (ez i) (gates A opsAt (of c) 0 (of_statuses A of same ts) (of_ops A of same os)))
            ∙ (λ i. gated A opsAt (of z) (r.gated.is i))
            ∙ (λ i. cleared A opsAt (of z) (r.cleared.is i))
            ∙ (λ i. stopped A opsAt (of z) (r.stopped.is i))
            ∙ (λ i. record {
              status = record { success = (ap (λ (x : F). not' A x) r.summed.is ∙ nt) i; failure = (r₄.is i).other; running = (r₄.is i).run };
              kids = map (of_arbitrated_child A of same) d.items;
              cursor = (r₄.is i).cursor;
              ops = (r₄.is i).ops;
            });
        kids = kids_fit D (omega arith) r.stopped.fit;
        status = (
          fit_up (0 + W + 1) (D + 1) (not' pairs t) (not_fit (0 + W) t r.summed.fit) (omega arith),
          fit_up (0 + W) (D + 1) e.other r₄.other (omega arith),
          fit_up (0 + W) (D + 1) e.run r₄.run (omega arith),
        );
      }

  swapped : (f g : Form) (w : ℕ) → Fit w g → Fit w f → Fit w (plus f g) → Fit w (plus g f)
  swapped f g w k h s =
      let x = plus_fit w w g f k h in
      record { top = x.top; reads = x.reads; low = λ τ c. omega (arith, s.low τ c, plus_law τ f g, plus_law τ g f) }

  pub inverted_images : (ts : List StatusBits) → inverteds (of_statuses A of same ts) ≡ of_statuses A of same (inverteds ts)
  unfolding inverteds inverted
  inverted_images [] = refl
  inverted_images (t ∷ ts) = ap (λ (l : List (L.StatusBits F)). record { success = of t.failure; failure = of t.success; running = of t.running } ∷ l) (inverted_images ts)

  pub inverted_weights : {n W : ℕ} {ts : List StatusBits} → Weights BitsFit n W ts → Weights BitsFit n W (inverteds ts)
  unfolding inverteds inverted
  inverted_weights wnil = wnil
  inverted_weights (wcons {w = w} {x = t} h hs) = wcons (record { success = h.failure; failure = h.success; running = h.running; sf = swapped t.success t.failure w h.failure h.success h.sf }) (inverted_weights hs)

  pub lower_sim : (q : Bool) (c : Form) {n W : ℕ} {ts : List StatusBits} (os : List Op) → Fit 1 c → n ≤ 128 → W + 2 ≤ 32768 → Weights BitsFit n W ts
      → Lowers (W + 2) (lower A opsAt q (of c) (of_statuses A of same ts) (of_ops A of same os)) (lower pairs opsAt q c ts os)
  unfolding lower inverted
  lower_sim true c os h l b ws = seq_sim c os h l b ws
  lower_sim false c {ts = ts} os h l b ws =
      let r = seq_sim c os h l b (inverted_weights ws) in
      record {
        is = (λ i. let o = lower_seq A opsAt (of c) (inverted_images ts i) (of_ops A of same os) in record { status = inverted o.status; kids = o.kids; cursor = o.cursor; ops = o.ops })
            ∙ (λ i. record { status = inverted (r.is i).status; kids = (r.is i).kids; cursor = (r.is i).cursor; ops = (r.is i).ops });
        kids = r.kids;
        status = (r.status.1, r.status.0, r.status.2);
      }
