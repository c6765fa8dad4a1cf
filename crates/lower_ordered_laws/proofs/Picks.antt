-- The last loop of lower_ordered followed: its three sums stand for the construction's, and every slot stays.
use Prim.Native.Nat.{ℕ, suc, ◌+◌, ◌-◌, ◌*◌, ◌≤◌, ◌<◌}
use native.Mathlib.Omega.{arith}
use native.Mathlib.Numerals.{add-one}
use mathlib.Core.Path.{◌≡◌}
use mathlib.Core.List.{List, [], ◌∷◌, map}
use lib.ListN.{length, length-map}
use Rattle.wire.specs.declared.Form.{Form}
use Rattle.wire.specs.Terms.{Affine}
use Rattle.construct.specs.Builder.{Op, and}
use Rattle.construct.specs.Lower.{ArbitratedChild, picks}
use Rattle.construct.specs.Lower as L
use Rattle.construct_floats.specs.Floats.{number, floats}
use Rattle.builder_table.specs.Work.{Standing, Mem, loaded}
use Rattle.builder_laws.specs.Table.{Stands}
use Rattle.lower_passes.specs.Marks.{Picked}
use Rattle.builder_table.specs.Slots.{stops_from, ops_from}
use Rattle.lower_passes.specs.Stops.{Chosen, run_in, pick_in, picks_in}
use Rattle.lower_room.proofs.Uses.{plus_use, picks_use}
use Rattle.builder_laws.proofs.Running.{Runs, Rows, Falls}
use Rattle.builder_laws.proofs.Runs.{rows_kept, falls_kept, Ready, runs_none, runs_then, runs_wide, ready_after, stands_after}
use Rattle.builder_laws.proofs.Steps.{scaled_runs, plus_runs, and_runs}
use Rattle.lower_ordered_laws.proofs.Stops.{stop_bits}

abbrev pub finisheds : List (ArbitratedChild Affine) → List Affine
finisheds xs = map (λ (x : ArbitratedChild Affine). x.status.failure) xs

abbrev pub runnings : List (ArbitratedChild Affine) → List Affine
runnings xs = map (λ (x : ArbitratedChild Affine). x.status.running) xs

-- every slot stays; the three sums and the ops are the construction's
pub record PicksRun (m : Mem) (b : Standing) (e : Chosen) (o : L.Picked Affine) (need more : ℕ) : Type 0 where
  pub runs : Runs (λ j. Unit {0}) m b e.mem e.picked.builder o.ops need more
  pub other : Stands e.mem e.picked.builder e.picked.other o.other
  pub run : Stands e.mem e.picked.builder e.picked.run o.run
  pub cursor : Stands e.mem e.picked.builder e.picked.cursor o.cursor

run_one : {n : ℕ} {m : Mem} {b : Standing} {os : List (Op Affine)} {run cur bit other : Form} {o r c x : Affine} (k : ℕ)
    → Ready n m b os → Stands m b run r → Stands m b cur c → Stands m b bit x → Stands m b other o
    → PicksRun m b (run_in m b run cur bit k other) (record { other = o; run = floats.plus r x; cursor = floats.plus c (floats.scaled k x); ops = os }) (plus_use floats r x + floats.terms x + plus_use floats c (floats.scaled k x)) 0
unfolding run_in
run_one k q hr hc hx ho =
    let run = plus_runs {K = λ j. Unit {0}} q hr hx in
    let q1 = ready_after run.runs q in
    let times = scaled_runs {K = λ j. Unit {0}} q1 (stands_after run.runs hx) (number k) in
    let q2 = ready_after times.runs q1 in
    let cur = plus_runs {K = λ j. Unit {0}} q2 (stands_after times.runs (stands_after run.runs hc)) times.form in
    let on = runs_then times.runs cur.runs in
    record {
      runs = runs_wide (runs_then run.runs on) _ _ (omega arith) (omega arith);
      other = stands_after on (stands_after run.runs ho);
      run = stands_after on run.form;
      cursor = cur.form;
    }

pick_one : {n : ℕ} {m : Mem} {p : Picked} {os : List (Op Affine)} {finished running : Form} {o r c stop x y : Affine} (k : ℕ)
    → Ready n m p.builder os → Stands m p.builder p.other o → Stands m p.builder p.run r → Stands m p.builder p.cursor c
    → Stands m p.builder (loaded m (stops_from + k)) stop → Stands m p.builder finished x → Stands m p.builder running y
    → let a = and floats n stop x os in
    let b = and floats n stop y a.ops in
    PicksRun m p.builder (pick_in m p k finished running)
    (record { other = floats.plus o a.form; run = floats.plus r b.form; cursor = floats.plus c (floats.scaled k b.form); ops = b.ops })
    (2 + plus_use floats o a.form + plus_use floats r b.form + floats.terms b.form + plus_use floats c (floats.scaled k b.form)) 2
unfolding pick_in
pick_one k q ho hr hc hs hx hy =
    let a = and_runs {K = λ j. Unit {0}} q hs hx in
    let q1 = ready_after a.runs q in
    let b = and_runs {K = λ j. Unit {0}} q1 (stands_after a.runs hs) (stands_after a.runs hy) in
    let q2 = ready_after b.runs q1 in
    let ab = runs_then a.runs b.runs in
    let sum = plus_runs {K = λ j. Unit {0}} q2 (stands_after ab ho) (stands_after b.runs a.form) in
    let q3 = ready_after sum.runs q2 in
    let abs = runs_then ab sum.runs in
    let rest = run_one k q3 (stands_after abs hr) (stands_after abs hc) (stands_after sum.runs b.form) sum.form in
    record { runs = runs_wide (runs_then abs rest.runs) _ _ (omega arith) (omega arith); other = rest.other; run = rest.run; cursor = rest.cursor }

pub picks_run : {n : ℕ} {m : Mem} {p : Picked} {os : List (Op Affine)} {o r c : Affine} (others runs k : ℕ) (xs : List (ArbitratedChild Affine))
    → Ready n m p.builder os → Stands m p.builder p.other o → Stands m p.builder p.run r → Stands m p.builder p.cursor c
    → Rows m p.builder (stops_from + k) (stop_bits xs) → Falls m p.builder (others - k) (finisheds xs) → Falls m p.builder (runs - k) (runnings xs)
    → others < ops_from → runs < ops_from → k + length xs ≤ 128
    → PicksRun m p.builder (picks_in m p others runs k (length xs)) (picks floats n k o r c xs os) (picks_use floats n k o r c xs os) (2 * length xs)
unfolding picks picks_in picks_use
picks_run others runs k [] q ho hr hc hs hx hy d e l = record { runs = runs_none q; other = ho; run = hr; cursor = hc }
picks_run {n} {m} {p} {os} {o} {r} {c} others runs k (x ∷ xs) q ho hr hc hs hx hy d e l =
    rw (← add-one k) (
    let one = pick_one k q ho hr hc hs.0 hx.0 hy.0 in
    let keep = one.runs.keeps in
    let q1 = ready_after one.runs q in
    let opsAt : length (stop_bits xs) ≡ length xs = length-map xs _ in
    let ks = rows_kept keep (suc (stops_from + k)) (stop_bits xs) (omega arith) (λ j u v. tt) hs.1 in
    let kx = falls_kept keep (others - k - 1) (finisheds xs) (omega arith) (λ j u v. tt) hx.1 in
    let ky = falls_kept keep (runs - k - 1) (runnings xs) (omega arith) (λ j u v. tt) hy.1 in
    let e0 : suc (stops_from + k) ≡ stops_from + (k + 1) = omega arith in
    let e1 : others - (k + 1) ≡ others - k - 1 = omega arith in
    let e2 : runs - (k + 1) ≡ runs - k - 1 = omega arith in
    let all = picks_run {m = (pick_in m p k (loaded m (others - k)) (loaded m (runs - k))).mem} others runs (k + 1) xs q1 one.other one.run one.cursor (rw (← e0) ks) (rw e1 kx) (rw e2 ky) d e (omega arith) in
    record { runs = runs_wide (runs_then one.runs all.runs) _ _ (omega arith) (omega arith); other = all.other; run = all.run; cursor = all.cursor })
