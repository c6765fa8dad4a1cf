-- The three first steps at a node, on memory: halted, untouched, and its next cursor where it has one.
use Prim.Native.Nat.{ℕ, ◌+◌, ◌*◌, ◌≤◌, ◌<◌}
use native.Mathlib.Omega.{arith}
use native.Mathlib.Numerals.{add-one}
use mathlib.Core.Path.{◌≡◌, refl, ap}
use mathlib.Core.Bool.{Bool, true, false}
use mathlib.Core.List.{List}
use Rattle.wire.specs.declared.Form.{Form}
use Rattle.wire.specs.Terms.{Affine}
use Rattle.construct.specs.Builder.{Op, Out, and, push, not'}
use Rattle.construct.specs.Lower.{Flat, leaf, fixed, invert, force, ordered, cell_after, Many, next_cur}
use Rattle.construct_floats.specs.Floats.{floats}
use Rattle.builder_table.specs.Work.{Standing, Mem, Ended, loaded, Stood}
use Rattle.builder_laws.specs.Table.{Stands}
use Rattle.builder_laws.proofs.Lasts.{size, push_size}
use Rattle.lower_room.proofs.Uses.{cur_use}
use Rattle.builder_laws.proofs.Running.{Not, Runs, Rows}
use Rattle.builder_laws.proofs.Runs.{slot_kept, Ready, runs_none, runs_then, runs_wide, ready_after, stands_after}
use Rattle.builder_laws.proofs.Steps.{wire_runs, not_runs, plus_runs, push_runs, and_runs}
use Rattle.builder_table.specs.Slots.{arbitrated_from, next_cursor_from, reached_from, halted_from, untouched_from}
use Rattle.lower_passes.specs.Reach.{Lowered, down, halt_in, untouched_in, keep_in, cursor_in, turn_in}
use Rattle.lower_ordered_laws.proofs.Passes.{CurAt}
use Rattle.lower_reach_laws.proofs.Store.{store_runs}

-- every slot but j
abbrev pub But : ℕ → ℕ → Type 0
But j k = Not j (j + 1) k

-- ---- halted: called AND the flag

abbrev pub halts : ℕ → ℕ → Affine → List (Op Affine) → Out Affine
halts n i called os = and floats n called (floats.wire i) os

-- every slot but the two that are written
abbrev pub Unmarked : ℕ → ℕ → Type 0
Unmarked i k = But (reached_from + i) k × But (halted_from + i) k

pub record HaltRuns (i : ℕ) (m : Mem) (b : Standing) (x : Affine) (o : Out Affine) (e : Ended) : Type 0 where
  pub runs : Runs (Unmarked i) m b e.mem e.builder o.ops 2 1
  pub reached : Stands e.mem e.builder (loaded e.mem (reached_from + i)) x
  pub halted : Stands e.mem e.builder (loaded e.mem (halted_from + i)) o.form
  pub form : Stands e.mem e.builder e.form o.form

pub halt_law : {n : ℕ} {m : Mem} {b : Standing} {os : List (Op Affine)} {f g : Form} {x y : Affine} → Ready n m b os → (i : ℕ) → i < 128 → Stands m b f x → Stands m b g y
    → HaltRuns i m b x (halts n i y os) (halt_in m b f g i)
unfolding halt_in
halt_law z i l hx hy =
    let K = Unmarked i in
    let w = wire_runs {K = K} z i in
    let zw = ready_after w.runs z in
    let h = and_runs {K = K} zw (stands_after w.runs hy) w.form in
    let zh = ready_after h.runs zw in
    let p = store_runs {K = K} zh (reached_from + i) (omega arith) (λ q. q.0 (omega arith) (omega arith)) (stands_after h.runs (stands_after w.runs hx)) in
    let zp = ready_after p.runs zh in
    let s = store_runs {K = K} zp (halted_from + i) (omega arith) (λ q. q.1 (omega arith) (omega arith)) (stands_after p.runs h.form) in
    let t = store_runs {K = But (halted_from + i)} zp (halted_from + i) (omega arith) (λ q. q (omega arith) (omega arith)) (stands_after p.runs h.form) in
    record {
      runs = runs_wide (runs_then w.runs (runs_then h.runs (runs_then p.runs s.runs))) _ _ (omega arith) (omega arith);
      reached = slot_kept t.runs.keeps (reached_from + i) (omega arith) (omega arith) p.slot;
      halted = s.slot;
      form = stands_after s.runs (stands_after p.runs h.form);
    }

-- ---- untouched: NOT reached AND NOT halted

abbrev pub rests : ℕ → Affine → Affine → List (Op Affine) → Out Affine
rests n reached halted os = and floats n (not' floats reached) (not' floats halted) os

pub record RestRuns (i need : ℕ) (m : Mem) (b : Standing) (o : Out Affine) (e : Stood) : Type 0 where
  pub runs : Runs (But (untouched_from + i)) m b e.mem e.builder o.ops need 1
  pub untouched : Stands e.mem e.builder (loaded e.mem (untouched_from + i)) o.form

pub rest_law : {n : ℕ} {m : Mem} {b : Standing} {os : List (Op Affine)} {f g : Form} {x y : Affine} → Ready n m b os → (i : ℕ) → i < 128 → Stands m b f x → Stands m b g y
    → RestRuns i (1 + size x + size y) m b (rests n x y os) (untouched_in m b f g i)
unfolding untouched_in
rest_law z i l hx hy =
    let K = But (untouched_from + i) in
    let r = not_runs {K = K} z hx in
    let zr = ready_after r.runs z in
    let h = not_runs {K = K} zr (stands_after r.runs hy) in
    let zh = ready_after h.runs zr in
    let u = and_runs {K = K} zh (stands_after h.runs r.form) h.form in
    let s = store_runs {K = K} (ready_after u.runs zh) (untouched_from + i) (omega arith) (λ q. q (omega arith) (omega arith)) u.form in
    record { runs = runs_wide (runs_then r.runs (runs_then h.runs (runs_then u.runs s.runs))) _ _ (omega arith) (omega arith); untouched = s.slot }

-- ---- the next cursor: the arbitrated one if reached, the current one if untouched

-- every slot but the cursor's, where the node has one
abbrev pub Unturned : ℕ → Flat → ℕ → Type 0
Unturned c node k = Not (next_cursor_from + c) (next_cursor_from + cell_after node c) k

pub record TurnRuns (c d row : ℕ) (node : Flat) (need : ℕ) (m : Mem) (b : Standing) (k : Many Affine Affine) (e : Lowered) : Type 0 where
  pub runs : Runs (Unturned c node) m b e.mem e.down.builder k.ops need (2 * cell_after node 0)
  pub cursor : Rows e.mem e.down.builder (next_cursor_from + c) k.items
  pub down : e.down ≡ down e.down.builder d row (cell_after node c)

module _ {n : ℕ} {m : Mem} {b : Standing} {os : List (Op Affine)} (z : Ready n m b os) (i c d row cursorsAt : ℕ) (l : i < 128) {r u : Affine} (hr : Stands m b (loaded m (reached_from + i)) r)
    (hu : Stands m b (loaded m (untouched_from + i)) u) where
  memory_law : (on : Bool) (k : ℕ) (x : Affine) → c < 128 → Stands m b (loaded m (arbitrated_from + i)) x
      → TurnRuns c d row (ordered true on k) (cur_use floats n (ordered true on k)) m b (next_cur floats n cursorsAt (ordered true on k) c r u x os) (turn_in m (down b d row c) i (ordered true on k) cursorsAt)
  unfolding cursor_in keep_in next_cur
  memory_law on k x lc hx =
      let K = Unturned c (ordered true on k) in
      let a = push_runs {K = K} z hx hr in
      let za = ready_after a.runs z in
      let w = wire_runs {K = K} za (cursorsAt + c) in
      let zw = ready_after w.runs za in
      let h = stands_after w.runs (slot_kept a.runs.keeps (untouched_from + i) (omega arith) (omega arith) hu) in
      let s = push_runs {K = K} zw w.form h in
      let zs = ready_after s.runs zw in
      let t = plus_runs {K = K} zs (stands_after s.runs (stands_after w.runs a.form)) s.form in
      let v = store_runs {K = K} (ready_after t.runs zs) (next_cursor_from + c) (omega arith) (λ q. q (omega arith) (omega arith)) t.form in
      record {
        runs = runs_wide (runs_then a.runs (runs_then w.runs (runs_then s.runs (runs_then t.runs v.runs)))) _ _
            (omega (arith, push_size n x r os, push_size n (floats.wire (cursorsAt + c)) u (push floats n x r os).ops)) (omega arith);
        cursor = (v.slot, tt);
        down = ap (λ (j : ℕ). down (cursor_in m b i c cursorsAt).builder d row j) (add-one c);
      }

  pub turn_law : (node : Flat) (x : Affine) → cell_after node c ≤ 128 → CurAt m b i node x
      → TurnRuns c d row node (cur_use floats n node) m b (next_cur floats n cursorsAt node c r u x os) (turn_in m (down b d row c) i node cursorsAt)
  unfolding next_cur
  turn_law leaf x lc h = record { runs = runs_none z; cursor = tt; down = refl }
  turn_law (fixed own) x lc h = record { runs = runs_none z; cursor = tt; down = refl }
  turn_law invert x lc h = record { runs = runs_none z; cursor = tt; down = refl }
  turn_law (force own) x lc h = record { runs = runs_none z; cursor = tt; down = refl }
  turn_law (ordered true on k) x lc h = memory_law on k x lc h
  turn_law (ordered false on k) x lc h = record { runs = runs_none z; cursor = tt; down = refl }
