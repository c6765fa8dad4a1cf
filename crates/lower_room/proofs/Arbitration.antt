-- Arbitrating a composite takes as much room over an algebra that respects small forms as over forms with whole coefficients.
use Prim.Native.Nat.{◌*◌, ◌+◌, ◌≤◌, suc, ℕ}
use native.Mathlib.Omega.{arith}
use mathlib.Core.Bool.{Bool, false, true}
use mathlib.Core.List.{List, map}
use mathlib.Core.Path.{◌∙◌, ◌≡◌, ap, refl}
use Rattle.construct.specs.Builder.{and, at_least, not', or}
use Rattle.construct.specs.Forms.{Forms}
use Rattle.construct.specs.Lower.{clears, gates, stops, total}
use Rattle.construct.specs.Pairs.{Form, GatedChild, ClearedChild, ArbitratedChild, Op, StatusBits, constant, len, pairs, plus, scaled}
use Rattle.construct.specs.Lower as L
use Rattle.construct_instances.proofs.Fits.{Fit, constant_fit, plus_fit}
use Rattle.construct_instances.proofs.Loops.{Weights, inverted_images, inverted_weights, loops, wcons, wnil}
use Rattle.construct_instances.proofs.Turns.{Fit1, Fit2, Fit3, BitsFit, gate, of_gated_child, of_cleared_child, of_arbitrated_child, of_ops, of_statuses, pick, stop, sum}
use Rattle.construct_instances.proofs.Respects.{Respects}
use Rattle.lower_room.proofs.Uses.{clears_use, gates_use, lower_use, picks_use, seq_use, stops_use}

-- seq_use from each loop's result on
module _ {F : Type 0} (A : Forms F) (opsAt : ℕ) where
  abbrev stopped : F → ℕ → ℕ → ℕ → L.Many F (L.ArbitratedChild F) → ℕ
  stopped z g c s d = g + c + s + picks_use A opsAt 0 z z z d.items d.ops + A.terms (total A z d.items)

  abbrev cleared : F → ℕ → ℕ → L.Many F (L.ClearedChild F) → ℕ
  cleared z g c b = stopped z g c (stops_use A opsAt z b.items b.ops) (stops A opsAt z b.items b.ops)

  abbrev gated : F → ℕ → L.Many F (L.GatedChild F) → ℕ
  gated z g a = cleared z g (clears_use A opsAt z a.items) (clears A opsAt z a.items a.ops)

module _ {F : Type 0} (A : Forms F) (of : Form → F) (same : Respects A of) (opsAt : ℕ) where
  terms : (f : Form) → A.terms (of f) ≡ len f
  terms = same.terms_same

  gates_room : (c : Form) (k : ℕ) {n W : ℕ} {ts : List StatusBits} (os : List Op) → Fit 1 c → k + n ≤ 128 → W ≤ 400000 → Weights BitsFit n W ts
      → gates_use A opsAt (of c) k (of_statuses A of same ts) (of_ops A of same os) ≡ gates_use pairs opsAt c k ts os
  unfolding gates_use
  gates_room c k os h l b wnil = refl
  gates_room c k os h l b (wcons {w = w} {x = t} {xs = ts} t' hs) =
      let o₁ = at_least pairs opsAt c (suc k) os in
      let o₂ = or pairs opsAt o₁.form t.success o₁.ops in
      let g = gate A of same opsAt w c k t os h (omega arith) (omega arith) t' in
      let r = gates_room c (suc k) o₂.ops h (omega arith) (omega arith) hs in
      (λ i. 5 + (2 * (A.terms (g.later i).form + A.terms (of t.success)) + 3) + A.terms (g.pass i).form + gates_use A opsAt (of c) (suc k) (of_statuses A of same ts) (g.pass i).ops)
      ∙ (λ i. 5 + (2 * (terms o₁.form i + terms t.success i) + 3) + terms o₂.form i + r i)

  clears_room : (pre : Form) (p : ℕ) {n W : ℕ} {xs : List GatedChild} → Fit p pre → p + W ≤ 400000 → Weights Fit1 n W xs
      → clears_use A opsAt (of pre) (map (of_gated_child A of same) xs) ≡ clears_use pairs opsAt pre xs
  unfolding clears_use
  clears_room pre p h b wnil = refl
  clears_room pre p h b (wcons {w = w} {x = x} {xs = xs} g hs) =
      let e = sum A of same opsAt p (w + 3) pre x.blocked h g.blocked (omega arith) in
      let r = clears_room (plus pre x.blocked) (p + (w + 3)) (plus_fit p (w + 3) pre x.blocked h g.blocked) (omega arith) hs in
      (λ i. A.terms (of pre) + 1 + (A.terms (of pre) + A.terms (of x.blocked)) + clears_use A opsAt (e i) (map (of_gated_child A of same) xs))
      ∙ (λ i. terms pre i + 1 + (terms pre i + terms x.blocked i) + r i)

  stops_room : (acc : Form) (p : ℕ) {n W : ℕ} {xs : List ClearedChild} (os : List Op) → Fit p acc → p + W ≤ 400000 → Weights Fit2 n W xs
      → stops_use A opsAt (of acc) (map (of_cleared_child A of same) xs) (of_ops A of same os) ≡ stops_use pairs opsAt acc xs os
  unfolding stops_use
  stops_room acc p os h b wnil = refl
  stops_room acc p os h b (wcons {w = w} {x = x} {xs = xs} g hs) =
      let o₁ = and pairs opsAt x.clear (not' pairs x.child.before) os in
      let o₂ = and pairs opsAt x.clear x.child.blocked o₁.ops in
      let e = stop A of same opsAt w x os (omega arith) g in
      let f₂ : Fit (w + 3) o₂.form = e.stop_fit in
      let e₃ = sum A of same opsAt p (w + 3) acc o₂.form h f₂ (omega arith) in
      let r = stops_room (plus acc o₂.form) (p + (w + 3)) o₂.ops (plus_fit p (w + 3) acc o₂.form h f₂) (omega arith) hs in
      (λ i. A.terms (of x.child.before) + 2 + (A.terms (of acc) + A.terms (e.stop i).form) + stops_use A opsAt (A.plus (of acc) (e.stop i).form) (map (of_cleared_child A of same) xs) (e.stop i).ops)
      ∙ (λ i. terms x.child.before i + 2 + (terms acc i + terms o₂.form i) + stops_use A opsAt (e₃ i) (map (of_cleared_child A of same) xs) (of_ops A of same o₂.ops))
      ∙ (λ i. len x.child.before + 2 + (len acc + len o₂.form) + r i)

  picks_room : (D k : ℕ) (fo fr fc : Form) (o r c : ℕ) {n W : ℕ} {xs : List ArbitratedChild} (os : List Op) → Fit o fo → Fit r fr → Fit c fc → o + W ≤ 32768 → r + W ≤ 32768 → c + 128 * W ≤ 4194304 → k + n ≤ 128
      → Weights (Fit3 D) n W xs → picks_use A opsAt k (of fo) (of fr) (of fc) (map (of_arbitrated_child A of same) xs) (of_ops A of same os) ≡ picks_use pairs opsAt k fo fr fc xs os
  unfolding picks_use
  picks_room D k fo fr fc o r c os ho hr hc lo lr lc lk wnil = refl
  picks_room D k fo fr fc o r c os ho hr hc lo lr lc lk (wcons {w = w} {W = W} {x = x} {xs = xs} g hs) =
      let d = w + 3 in
      let a = and pairs opsAt x.stop x.status.failure os in
      let b = and pairs opsAt x.stop x.status.running a.ops in
      let e = pick A of same opsAt D w k x os (omega arith) (omega arith) g in
      let fa : Fit d a.form = e.oth_fit in
      let fb : Fit d b.form = e.run_fit in
      let fs : Fit (128 * d) (scaled k b.form) = e.cur_fit in
      let po = sum A of same opsAt o d fo a.form ho fa (omega arith) in
      let pr = sum A of same opsAt r d fr b.form hr fb (omega arith) in
      let pc = sum A of same opsAt c (128 * d) fc (scaled k b.form) hc fs (omega arith) in
      let q = picks_room D (suc k) (plus fo a.form) (plus fr b.form) (plus fc (scaled k b.form)) (o + d) (r + d) (c + 128 * d) b.ops
      (plus_fit o d fo a.form ho fa) (plus_fit r d fr b.form hr fb) (plus_fit c (128 * d) fc (scaled k b.form) hc fs) (omega arith) (omega arith) (omega arith) (omega arith) hs in
      (λ j. 2 + (A.terms (of fo) + A.terms (e.other j).form) + (A.terms (of fr) + A.terms (e.run j).form) + A.terms (e.run j).form + (A.terms (of fc) + A.terms (A.scaled k (e.run j).form))
      + picks_use A opsAt (suc k) (A.plus (of fo) (e.other j).form) (A.plus (of fr) (e.run j).form) (A.plus (of fc) (A.scaled k (e.run j).form)) (map (of_arbitrated_child A of same) xs) (e.run j).ops)
      ∙ (λ j. 2 + (terms fo j + terms a.form j) + (terms fr j + terms b.form j) + terms b.form j + (terms fc j + A.terms (e.cursor j))
      + picks_use A opsAt (suc k) (po j) (pr j) (A.plus (of fc) (e.cursor j)) (map (of_arbitrated_child A of same) xs) (of_ops A of same b.ops))
      ∙ (λ j. 2 + (len fo + len a.form) + (len fr + len b.form) + len b.form + (len fc + terms (scaled k b.form) j)
      + picks_use A opsAt (suc k) (of (plus fo a.form)) (of (plus fr b.form)) (pc j) (map (of_arbitrated_child A of same) xs) (of_ops A of same b.ops))
      ∙ (λ j. 2 + (len fo + len a.form) + (len fr + len b.form) + len b.form + (len fc + len (scaled k b.form)) + q j)

  seq_room : (c : Form) {n W : ℕ} {ts : List StatusBits} (os : List Op) → Fit 1 c → n ≤ 128 → W + 2 ≤ 32768 → Weights BitsFit n W ts
      → seq_use A opsAt (of c) (of_statuses A of same ts) (of_ops A of same os) ≡ seq_use pairs opsAt c ts os
  unfolding seq_use
  seq_room c {W} {ts} os h l b ws =
      let z = constant 0 in
      let fz : Fit 0 z = constant_fit 0 in
      let ez : A.constant 0 ≡ of z = same.constant_same 0 (omega arith) in
      let r = loops A of same opsAt c os h l b ws in
      let a = gates pairs opsAt c 0 ts os in
      let g = clears pairs opsAt z a.items a.ops in
      let d = stops pairs opsAt z g.items g.ops in
      let u₁ = gates_room c 0 os h (omega arith) (omega arith) ws in
      let u₂ = clears_room z 0 fz (omega arith) r.gated.fit in
      let u₃ = stops_room z 0 g.ops fz (omega arith) r.cleared.fit in
      let u₄ = picks_room (W + 2) 0 z z z 0 0 0 d.ops fz fz fz (omega arith) (omega arith) (omega arith) (omega arith) r.stopped.fit in
      let u₅ : A.terms (total A (of z) (map (of_arbitrated_child A of same) d.items)) ≡ len (total pairs z d.items) = ap (λ (x : F). A.terms x) r.summed.is ∙ terms (total pairs z d.items) in
      (λ i. gated A opsAt (ez i) (gates_use A opsAt (of c) 0 (of_statuses A of same ts) (of_ops A of same os)) (gates A opsAt (of c) 0 (of_statuses A of same ts) (of_ops A of same os)))
      ∙ (λ i. gated A opsAt (of z) (u₁ i) (r.gated.is i))
      ∙ (λ i. cleared A opsAt (of z) (gates_use pairs opsAt c 0 ts os) (u₂ i) (r.cleared.is i))
      ∙ (λ i. stopped A opsAt (of z) (gates_use pairs opsAt c 0 ts os) (clears_use pairs opsAt z a.items) (u₃ i) (r.stopped.is i))
      ∙ (λ i. gates_use pairs opsAt c 0 ts os + clears_use pairs opsAt z a.items + stops_use pairs opsAt z g.items g.ops + u₄ i + u₅ i)

  pub lower_room : (q : Bool) (c : Form) {n W : ℕ} {ts : List StatusBits} (os : List Op) → Fit 1 c → n ≤ 128 → W + 2 ≤ 32768 → Weights BitsFit n W ts
      → lower_use A opsAt q (of c) (of_statuses A of same ts) (of_ops A of same os) ≡ lower_use pairs opsAt q c ts os
  lower_room true c os h l b ws = seq_room c os h l b ws
  lower_room false c {ts = ts} os h l b ws =
      ap (λ (x : List (L.StatusBits F)). seq_use A opsAt (of c) x (of_ops A of same os)) (inverted_images A of same opsAt ts) ∙ seq_room c os h l b (inverted_weights A of same opsAt ws)
