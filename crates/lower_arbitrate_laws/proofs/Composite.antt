-- Arbitrating an ordered composite: its children's statuses are taken from the stack, they are given rows, and its own status and next cursor are written.
--
use Prim.Native.Nat.{ℕ, suc, ◌+◌, ◌-◌, ◌*◌, ◌≤◌, ◌<◌}
use native.Mathlib.Omega.{arith}
use mathlib.Core.Path.{◌≡◌, refl, subst, ◌∙◌}
use mathlib.Core.Bool.{Bool}
use mathlib.Core.List.{List, ◌∷◌, map}
use lib.ListN.{length, take, drop, length-drop, length-map}
use lib.Seq.{length-take-le}
use Rattle.wire.specs.declared.Form.{Form}
use Rattle.wire.specs.Terms.{Affine}
use Rattle.construct.specs.Builder.{Op}
use Rattle.construct.specs.Lower.{Flat, ordered, StatusBits as Bits, ArbitratedChild, Ordered, lower}
use Rattle.construct.specs.Lower as L
use Rattle.construct_floats.specs.Floats.{floats}
use Rattle.builder_table.specs.Work.{Standing, Mem, loaded, saved}
use Rattle.builder_table.specs.Whole.{Whole}
use Rattle.builder_laws.specs.Table.{Stands}
use Rattle.status.specs.declared.StatusBits.{StatusBits}
use Rattle.lower_room.proofs.Uses.{lower_use}
use Rattle.builder_laws.proofs.Running.{Runs, Rows}
use Rattle.builder_laws.proofs.Runs.{Ready, rows_kept, runs_then, runs_less, runs_wide, ready_after, stands_after, saved_runs, slot_filled}
use Rattle.lower_passes.specs.Ordered.{Ordains}
use Rattle.lower_passes.specs.Marks.{Up}
use Rattle.builder_table.specs.Slots.{reach_from, after_stop_from, stack_success_from, stack_failure_from, stack_running_from, arbitrated_from}
use Rattle.lower_passes.specs.Arbitrate.{raw_in, lowered_in, status_of, composite_in}
use Rattle.lower_ordered_laws.proofs.Orders.{Apart, reaches, afters}
use Rattle.lower_ordered_laws.proofs.Passes.{roots, Sound, rows_in, RawAt, StatusesAt, UpAt}
use Rattle.lower_arbitrate_laws.proofs.Upward.{None, Arbitrated}
use Rattle.lower_ordered_laws.proofs.Counts.{rows_most}
use Rattle.lower_ordered_laws.proofs.Kept.{raw_kept}
use Rattle.lower_arbitrate_laws.proofs.Counts.{kids_count}
use Rattle.lower_arbitrate_laws.proofs.Stack.{stack_falls, trips_rest}
use Rattle.lower_arbitrate_laws.proofs.Raw.{BitsAt, Unwritten, raw_runs, raw_at, raw_trips}
use Rattle.lower_arbitrate_laws.proofs.Infos.{Spares, infos_kept, trips_kept}
use Rattle.lower_arbitrate_laws.proofs.Plain.{ready_up}
use Rattle.lower_arbitrate_laws.proofs.Lowered.{LoweredRuns, lowered}

-- ---- the status and the next cursor written

-- none of the slots that they are written to
abbrev Unput : ℕ → ℕ → ℕ → Type 0
Unput i d k = Unwritten i d k × (k ≡ arbitrated_from + i → ⊥)

module _ {n : ℕ} {m : Mem} {b : Standing} {os : List (Op Affine)} (q : Ready n m b os) (i d : ℕ) (x : StatusBits) (cur : Form) (hi : i < 128) (hd : d < 128) where
  abbrev written : Mem
  written = saved (raw_in m i d x) (arbitrated_from + i) cur

  raws : Runs (Unwritten i d) m b (raw_in m i d x) b os 0 0
  raws = raw_runs m b i d x hi hd q

  rawed : Ready n (raw_in m i d x) b os
  rawed = ready_after raws q

  -- the cursor's save alone
  abbrev Uncur : ℕ → Type 0
  Uncur k = k ≡ arbitrated_from + i → ⊥

  curs : Runs Uncur (raw_in m i d x) b written b os 0 0
  curs = saved_runs rawed (arbitrated_from + i) cur (omega arith) (λ k. k refl)

  written_runs : Runs (Unput i d) m b written b os 0 0
  written_runs = runs_then (runs_less raws (λ k o. o.0)) (runs_less curs (λ k o. o.1))

  written_raw : {t : Bits Affine} → BitsAt m b x t → RawAt written b i t
  written_raw h = raw_kept curs.keeps i hi (λ e. omega arith) (λ e. omega arith) (λ e. omega arith) (raw_at m b i d x hi hd q.whole h)

  written_trips : {t : Bits Affine} (ts : List (Bits Affine)) → length ts ≡ d → BitsAt m b x t → StatusesAt m b ts → StatusesAt written b (t ∷ ts)
  written_trips {t} ts e h a = trips_kept curs.keeps (t ∷ ts) (omega arith) (λ k o p z. omega arith) (raw_trips m b i d x hi hd q.whole q ts e h a)

  written_cur : {y : Affine} → Stands m b cur y → Stands written b (loaded written (arbitrated_from + i)) y
  written_cur h = slot_filled rawed (arbitrated_from + i) (omega arith) (stands_after raws h)

  -- rows of children
  written_rows : (from row : ℕ) (p : ArbitratedChild Affine → Affine) (ks : List (ArbitratedChild Affine)) → reach_from ≤ from → from + (row + length ks) ≤ arbitrated_from
      → Rows m b (from + row) (map p ks) → Rows written b (from + row) (map p ks)
  written_rows from row p ks l o h =
      let c = length-map ks p in
      rows_kept written_runs.keeps (from + row) (map p ks) (omega arith) (λ k a z. omega arith) h

-- ---- the composite

module _ (i s c : ℕ) (ns : List Flat) (m : Mem) (v : Up) (u : L.Up Affine) (w : Whole m.nums m.biases) (so : Sound ns) (l : length ns + suc i ≤ 128) (h : UpAt (suc i) s c ns m v u)
    (memory on : Bool) (n : ℕ) (cursor : Form) (y : Affine) (hn : n ≤ roots ns) (hr : rows_in ns + n ≤ 128) (hc : Stands m v.builder cursor y) where
  abbrev kids : List (Bits Affine)
  kids = take n u.stack

  abbrev rest : List (Bits Affine)
  rest = drop n u.stack

  -- as the construction has it, and as memory has it
  abbrev made : Ordered Affine
  made = lower floats v.builder.cells on y kids u.ops

  abbrev done : Ordains
  done = lowered_in m v.builder cursor on (v.depth - 1) v.row n

  abbrev status : StatusBits
  status = status_of on done.ordered

  abbrev deep : ℕ
  deep = v.depth - n

  kids_many : length kids ≡ n
  kids_many = length-take-le n u.stack (omega (arith, h.stacked))

  made_many : length made.kids ≡ n
  made_many = kids_count v.builder.cells on y kids u.ops ∙ kids_many

  rest_many : length rest ≡ deep
  rest_many = omega (arith, length-drop n u.stack, h.stacked, h.depth)

  runs : LoweredRuns m v.builder v.row n (lower_use floats v.builder.cells on y kids u.ops) done status made
  runs =
      let e : (base : ℕ) → 0 < n → base + (v.depth - 1) + 1 ≡ base + length u.stack = λ base o. omega (arith, h.stacked, h.depth) in
      let k : n ≤ length u.stack = omega (arith, h.stacked) in
      lowered m v.builder cursor (v.depth - 1) v.row n y u.ops w h.ops hc (omega (arith, h.depth, rows_most ns so)) (omega (arith, h.row)) on kids kids_many
      (stack_falls m v.builder stack_success_from (λ (t : Bits Affine). t.success) u.stack n (stack_success_from + (v.depth - 1)) k (e stack_success_from) h.stack.success)
      (stack_falls m v.builder stack_failure_from (λ (t : Bits Affine). t.failure) u.stack n (stack_failure_from + (v.depth - 1)) k (e stack_failure_from) h.stack.failure)
      (stack_falls m v.builder stack_running_from (λ (t : Bits Affine). t.running) u.stack n (stack_running_from + (v.depth - 1)) k (e stack_running_from) h.stack.running)

  ready_done : Ready v.builder.cells done.mem done.ordered.builder made.ops
  ready_done = ready_after runs.runs (ready_up w h)

  hi : i < 128
  hi = omega arith

  hd : deep < 128
  hd = omega (arith, h.depth, rows_most ns so)

  abbrev left : Mem
  left = saved (raw_in done.mem i deep status) (arbitrated_from + i) done.ordered.cursor

  -- what stays from the start to the end
  abbrev Stays : ℕ → Type 0
  Stays k = Apart v.row n k × Unput i deep k

  all_runs : Runs Stays m v.builder left done.ordered.builder made.ops (lower_use floats v.builder.cells on y kids u.ops) (8 * n)
  all_runs =
      runs_wide (runs_then (runs_less runs.runs (λ k o. o.0)) (runs_less (written_runs ready_done i deep status done.ordered.cursor hi hd) (λ k o. o.1))) _ _ (omega arith) (omega arith)

  stays_spares : Spares Stays (suc i) (rows_in ns)
  stays_spares =
      let e = h.row in
      let z = hd in
      record {
        success = λ k a o. omega arith;
        failure = λ k a o. omega arith;
        running = λ k a o. omega arith;
        cursor = λ k a o. omega arith;
        reach = λ k a o. omega arith;
        after = λ k a o. omega arith;
      }

  rows_at : v.row ≡ rows_in (ordered memory on n ∷ ns) - n
  unfolding rows_in
  rows_at = omega (arith, h.row)

  pub composite_law :
      Arbitrated i s c (ordered memory on n ∷ ns) m v (composite_in m v i on cursor n)
      (record {
        stack = made.status ∷ rest;
        arbitrations = record { node = ordered memory on n; raw = made.status; kids = made.kids; cursor = made.cursor } ∷ u.arbitrations;
        ops = made.ops;
      })
      (lower_use floats v.builder.cells on y kids u.ops)
      (8 * n)
  unfolding composite_in roots rows_in
  composite_law =
      let g = runs.runs.keeps in
      let q = ready_done in
      let x = done.ordered.cursor in
      let b = done.ordered.builder in
      record {
        stands = record {
          depth = omega (arith, h.depth);
          stacked = omega (arith, rest_many, h.depth);
          row = omega (arith, h.row);
          slot = h.slot;
          cell = h.cell;
          stack = written_trips q i deep status x hi hd rest rest_many runs.status
              (trips_kept g rest (omega (arith, rest_many, hd)) (λ k o p. ((λ a z. omega arith), (λ a z. omega arith), (λ a z. omega arith))) (trips_rest m v.builder n u.stack h.stack));
          arbitrations = (
            record {
              node = refl;
              count = made_many;
              raw = written_raw q i deep status x hi hd runs.status;
              cursor = written_cur q i deep status x hi hd runs.cursor;
              reach = subst (λ (r : ℕ). Rows left b (reach_from + r) (reaches made.kids)) rows_at
                  (written_rows q i deep status x hi hd reach_from v.row (λ (z : ArbitratedChild Affine). z.reach) made.kids (omega arith) (omega (arith, made_many, h.row)) runs.reach);
              after = subst (λ (r : ℕ). Rows left b (after_stop_from + r) (afters made.kids)) rows_at
                  (written_rows q i deep status x hi hd after_stop_from v.row (λ (z : ArbitratedChild Affine). z.after_stop) made.kids (omega arith) (omega (arith, made_many, h.row)) runs.after);
            },
            infos_kept all_runs.keeps (suc i) ns u.arbitrations l (omega arith) stays_spares h.arbitrations,
          );
          ops = all_runs.ops;
        };
        runs = runs_less all_runs (λ k (o : None k). absurd o);
      }
