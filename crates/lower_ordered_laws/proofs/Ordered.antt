-- lower_ordered followed, its four loops one after the other: what it leaves and answers is `lower_seq`.
use Prim.Native.Nat.{ℕ, ◌+◌, ◌-◌, ◌<◌}
use native.Mathlib.Omega.{arith}
use mathlib.Core.Path.{◌≡◌, refl, ◌∙◌}
use mathlib.Core.List.{List, map}
use lib.ListN.{length, length-map}
use Rattle.wire.specs.Terms.{Affine}
use Rattle.construct.specs.Builder.{Op}
use Rattle.construct.specs.Lower.{StatusBits, ArbitratedChild, gates, clears, stops, lower_seq}
use Rattle.construct_floats.specs.Floats.{floats}
use Rattle.builder_laws.proofs.Builder.{stands_zero}
use Rattle.builder_table.specs.Slots.{before_from, blocked_from, reach_from, after_stop_from}
use Rattle.lower_passes.specs.Ordered.{no_pick, ordered_in}
use Rattle.lower_room.proofs.Uses.{seq_use}
use Rattle.builder_laws.proofs.Runs.{rows_kept, falls_kept, Ready, runs_then, runs_less, runs_wide, ready_after, stands_after}
use Rattle.builder_laws.proofs.Steps.{not_runs}
use Rattle.lower_ordered_laws.proofs.Orders.{Apart, fs, rs, reaches, afters, OrderedLaw}
use Rattle.lower_ordered_laws.proofs.Gates.{befores, blockeds, gates_count, gates_trips, gates_run}
use Rattle.lower_ordered_laws.proofs.Clears.{clears_count, clears_kids, clears_run}
use Rattle.lower_ordered_laws.proofs.Stops.{stops_count, stops_trips, stops_run}
use Rattle.lower_ordered_laws.proofs.Picks.{picks_run}

-- the children's statuses stay
apart_low : (row n j : ℕ) → j < before_from → Apart row n j
apart_low row n j h = ((λ u v. omega arith), (λ u v. omega arith), (λ u v. omega arith))

-- the children are those that it was given
kids_trips : (n : ℕ) (c : Affine) (ts : List (StatusBits Affine)) (os : List (Op Affine)) (part : StatusBits Affine → Affine)
    → map (λ (x : ArbitratedChild Affine). part x.status) (lower_seq floats n c ts os).kids ≡ map part ts
unfolding lower_seq
kids_trips n c ts os part =
    let z = floats.constant 0 in
    let a = gates floats n c 0 ts os in
    let d = clears floats n z a.items a.ops in
    stops_trips n part z d.items d.ops ∙ clears_kids n (λ x. part x.status) z a.items a.ops ∙ gates_trips n c part 0 ts os

pub ordered_runs : OrderedLaw
unfolding ordered_in lower_seq seq_use
ordered_runs m b cursor advance other run row c ts os w q hc hs hf hr la lo lr l =
    let n = b.cells in
    let z = floats.constant 0 in
    let k = length ts in
    let a = gates floats n c 0 ts os in
    let d = clears floats n z a.items a.ops in
    let s = stops floats n z d.items d.ops in
    let ca : length a.items ≡ length ts = gates_count n c 0 ts os in
    let cd : length d.items ≡ length ts = clears_count n z a.items a.ops ∙ ca in
    let cs : length s.items ≡ length ts = stops_count n z d.items d.ops ∙ cd in
    let r0 : Ready n m b os = record { whole = w; cells = refl; ops = q } in
    let e0 : advance - 0 ≡ advance = omega arith in
    let e1 : other - 0 ≡ other = omega arith in
    let e2 : run - 0 ≡ run = omega arith in
    let e3 : row + 0 ≡ row = omega arith in
    let g = gates_run advance 0 ts r0 hc (rw e0 hs) la (omega arith) in
    let gr = runs_less g.runs {K' = Apart row k} (λ j h. ((λ u v. h.0 (omega arith) (omega arith)), (λ u v. h.0 (omega arith) (omega arith)))) in
    let r1 = ready_after gr r0 in
    let cl = rw ca at (clears_run 0 a.items r1 stands_zero g.blocked (omega arith)) in
    let cr = runs_less cl.runs {K' = Apart row k} (λ j h u v. h.0 (omega arith) (omega arith)) in
    let r2 = ready_after cr r1 in
    let opsAt : length (befores a.items) ≡ length ts = length-map a.items _ ∙ ca in
    let n1 : length (blockeds a.items) ≡ length ts = length-map a.items _ ∙ ca in
    let before = rw (← clears_kids n (λ x. x.before) z a.items a.ops) at (rows_kept cl.runs.keeps before_from (befores a.items) (omega arith) (λ j u v x y. omega arith) g.before) in
    let blocked = rw (← clears_kids n (λ x. x.blocked) z a.items a.ops) at (rows_kept cl.runs.keeps blocked_from (blockeds a.items) (omega arith) (λ j u v x y. omega arith) g.blocked) in
    let st = rw cd at (stops_run row 0 d.items r2 stands_zero before blocked cl.clear (omega arith)) in
    let sr = runs_less st.runs {K' = Apart row k} (λ j h. ((λ u v. h.0 (omega arith) (omega arith)), (λ u v. h.1 (omega arith) (omega arith)), (λ u v. h.2 (omega arith) (omega arith)))) in
    let r3 = ready_after sr r2 in
    let on = runs_then gr (runs_then cr sr) in
    let finished = rw (← kids_trips n c ts os (λ t. t.failure)) at (falls_kept on.keeps other (fs ts) (omega arith) (λ j u v. apart_low row k j (omega arith)) hf) in
    let running = rw (← kids_trips n c ts os (λ t. t.running)) at (falls_kept on.keeps run (rs ts) (omega arith) (λ j u v. apart_low row k j (omega arith)) hr) in
    let pk = rw cs at (picks_run {p = no_pick _} other run 0 s.items r3 stands_zero stands_zero stands_zero st.stop (rw e1 finished) (rw e2 running) (omega arith) (omega arith) (omega arith)) in
    let r4 = ready_after pk.runs r3 in
    let none = not_runs {K = λ j. Unit {0}} r4 (stands_after pk.runs st.form) in
    let end = runs_then pk.runs none.runs in
    let n2 : length (reaches s.items) ≡ length ts = length-map s.items _ ∙ cs in
    let n3 : length (afters s.items) ≡ length ts = length-map s.items _ ∙ cs in
    record {
      runs = runs_wide (runs_then on (runs_less end (λ j h. tt))) _ _ (omega arith) (omega arith);
      advance = none.form;
      other = stands_after none.runs pk.other;
      run = stands_after none.runs pk.run;
      cursor = stands_after none.runs pk.cursor;
      reach = rows_kept end.keeps (reach_from + row) (reaches s.items) (omega arith) (λ j u v. tt) (rw e3 at st.reach);
      after = rows_kept end.keeps (after_stop_from + row) (afters s.items) (omega arith) (λ j u v. tt) (rw e3 at st.after);
    }
