-- The next running flags are the construction's `flags`.
use Prim.Native.Nat.{ℕ, suc, ◌+◌, ◌≤◌, ◌<◌}
use native.Mathlib.Omega.{arith}
use native.Mathlib.Numerals.{add-one}
use native.Mathlib.Nat.{add-suc}
use mathlib.Core.Path.{◌≡◌, refl, ap}
use mathlib.Core.List.{List, [], ◌∷◌}
use lib.ListN.{length}
use Rattle.wire.specs.Terms.{Affine}
use Rattle.construct.specs.Builder.{Op, Out, and}
use Rattle.construct.specs.Lower.{NodeReach, flags}
use Rattle.construct_floats.specs.Floats.{floats}
use Rattle.builder_table.specs.Work.{Standing, Mem, loaded, Stood}
use Rattle.builder_laws.specs.Table.{Stands}
use Rattle.builder_laws.proofs.Lasts.{size}
use Rattle.lower_room.proofs.Uses.{flags_use}
use Rattle.builder_laws.proofs.Running.{Runs}
use Rattle.builder_laws.proofs.Runs.{slot_kept, Ready, runs_none, runs_then, runs_less, runs_wide, ready_after, stands_after}
use Rattle.builder_laws.proofs.Steps.{wire_runs, and_runs, plus_runs}
use Rattle.builder_table.specs.Slots.{untouched_from, next_running_from}
use Rattle.lower_passes.specs.Reach.{flag_in, flags_in}
use Rattle.lower_ordered_laws.proofs.Passes.{OutAt, OutsAt}
use Rattle.lower_ordered_laws.proofs.Kept.{OutSlots, outs_kept}
use Rattle.lower_reach_laws.proofs.Store.{store_runs}
use Rattle.lower_reach_laws.proofs.Downward.{Flagless, FlagsRuns, FlagsLaw}

-- reached AND running; untouched AND the flag
abbrev running : ℕ → NodeReach Affine → List (Op Affine) → Out Affine
running n x os = and floats n x.reached x.raw.running os

abbrev unticked : ℕ → NodeReach Affine → List (Op Affine) → Out Affine
unticked n x os = and floats n x.untouched x.was (running n x os).ops

record Flagged (n i : ℕ) (m : Mem) (b : Standing) (x : NodeReach Affine) (os : List (Op Affine)) (e : Stood) : Type 0 where
  runs : Runs (Flagless i) m b e.mem e.builder (unticked n x os).ops (3 + (size (running n x os).form + size (unticked n x os).form)) 2
  flag : Stands e.mem e.builder (loaded e.mem (next_running_from + i)) (floats.plus (running n x os).form (unticked n x os).form)

-- one node
flag_law : {n : ℕ} {m : Mem} {b : Standing} {os : List (Op Affine)} → Ready n m b os → (i : ℕ) (x : NodeReach Affine) → OutAt m b i x → i < 128 → Flagged n i m b x os (flag_in m b i)
unfolding flag_in
flag_law r i x h l =
    let a = and_runs {K = Flagless i} r h.reached h.raw.running in
    let ra = ready_after a.runs r in
    let w = wire_runs {K = Flagless i} ra i in
    let rw' = ready_after w.runs ra in
    let u = stands_after w.runs (slot_kept a.runs.keeps (untouched_from + i) (omega arith) (omega arith) h.untouched) in
    let k = and_runs {K = Flagless i} rw' u (rw (← h.was) at w.form) in
    let rk = ready_after k.runs rw' in
    let s = plus_runs {K = Flagless i} rk (stands_after k.runs (stands_after w.runs a.form)) k.form in
    let rs = ready_after s.runs rk in
    let z = store_runs {K = Flagless i} rs (next_running_from + i) (omega arith) (λ q. q (omega arith) (omega arith)) s.form in
    record { runs = runs_wide (runs_then a.runs (runs_then w.runs (runs_then k.runs (runs_then s.runs z.runs)))) _ _ (omega arith) (omega arith); flag = z.slot }

-- the slots that reach left are not among the flags
flags_apart : (i j : ℕ) → j < 128 → OutSlots (Flagless i) j
flags_apart i j l = omega arith

flags_none : (m : Mem) (b : Standing) (i : ℕ) → flags_in m b i 0 ≡ record { mem = m; builder = b }
unfolding flags_in
flags_none m b i = refl

flags_more : (m : Mem) (b : Standing) (i rest : ℕ) → flags_in m b i (suc rest) ≡ flags_in (flag_in m b i).mem (flag_in m b i).builder (suc i) rest
unfolding flags_in
flags_more m b i rest = ap (λ (j : ℕ). flags_in (flag_in m b i).mem (flag_in m b i).builder j rest) (add-one i)

flags_from : {n : ℕ} {m : Mem} {b : Standing} {os : List (Op Affine)} → Ready n m b os → (i cursorsAt : ℕ) (outs : List (NodeReach Affine)) → OutsAt m b i outs → i + length outs ≤ 128
    → FlagsRuns i (length outs) (flags_use floats n outs os) m b (flags_in m b i (length outs)) (flags floats n cursorsAt outs os)
unfolding flags flags_use
flags_from {m = m} {b = b} r i cursorsAt [] h l = rw (flags_none m b i) (record { runs = runs_none r; rows = tt })
flags_from {n} {m} {b} {os} r i cursorsAt (x ∷ xs) h l =
    let f = flag_law r i x h.0 (omega arith) in
    let t = flags_from {m = (flag_in m b i).mem} (ready_after f.runs r) (suc i) cursorsAt xs (outs_kept f.runs.keeps (suc i) xs (omega arith) (λ j p q. flags_apart i j (omega arith)) h.1) (omega arith) in
    rw (flags_more m b i (length xs)) (record {
      runs = runs_wide (runs_then f.runs (runs_less t.runs (λ k q p s. q (omega arith) s))) _ _ (omega arith) (omega arith);
      rows = (slot_kept t.runs.keeps (next_running_from + i) (omega arith) (omega arith) f.flag, rw (add-suc next_running_from i) at t.rows);
    })

pub flags_law : FlagsLaw
flags_law m b i cursorsAt outs os w q h l = flags_from (record { whole = w; cells = refl; ops = q }) i cursorsAt outs h l
