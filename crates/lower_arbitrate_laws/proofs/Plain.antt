-- A node without ops, once its status is written: what stands afterwards.
use Prim.Native.Nat.{ℕ, suc, ◌+◌, ◌*◌, ◌≤◌, ◌<◌}
use native.Mathlib.Omega.{arith}
use mathlib.Core.Path.{◌≡◌, refl, sym, ap, ◌∙◌}
use mathlib.Core.List.{List, ◌∷◌}
use lib.ListN.{length}
use Rattle.wire.specs.Terms.{Affine}
use Rattle.construct.specs.Lower.{Flat, StatusBits as Bits, plain}
use Rattle.construct.specs.Lower as L
use Rattle.construct_floats.specs.Floats.{floats}
use Rattle.builder_table.specs.Whole.{Whole}
use Rattle.builder_table.specs.Work.{Mem}
use Rattle.status.specs.declared.StatusBits.{StatusBits}
use Rattle.lower_room.proofs.Uses.{kids_of}
use Rattle.builder_laws.proofs.Running.{Runs}
use Rattle.builder_laws.proofs.Runs.{Ready, runs_then, runs_less, runs_wide, ready_after}
use Rattle.lower_passes.specs.Marks.{Up}
use Rattle.lower_passes.specs.Arbitrate.{raw_in}
use Rattle.lower_ordered_laws.proofs.Passes.{roots, Sound, rows_in, CurAt, StatusesAt, UpAt}
use Rattle.lower_arbitrate_laws.proofs.Upward.{None, Arbitrated}
use Rattle.lower_ordered_laws.proofs.Counts.{rows_most}
use Rattle.lower_arbitrate_laws.proofs.Raw.{BitsAt, Unwritten, raw_runs, raw_at, raw_trips}
use Rattle.lower_arbitrate_laws.proofs.Infos.{Spares, infos_kept, trips_kept}

-- every slot stays
abbrev pub All : ℕ → Type 0
All k = Unit {0}

pub all_spares : {i row : ℕ} → Spares All i row
all_spares = record { success = λ k o p. tt; failure = λ k o p. tt; running = λ k o p. tt; cursor = λ k o p. tt; reach = λ k o p. tt; after = λ k o p. tt }

-- what is written for node i is none of what is kept of later nodes
pub unwritten_spares : (i d row : ℕ) → i < 128 → d < 128 → row ≤ 128 → Spares (Unwritten i d) (suc i) row
unwritten_spares i d row hi hd hr =
    record {
      success = λ k a z. omega arith;
      failure = λ k a z. omega arith;
      running = λ k a z. omega arith;
      cursor = λ k a z. omega arith;
      reach = λ k a z. omega arith;
      after = λ k a z. omega arith;
    }

-- where a step begins
pub ready_up : {i s c : ℕ} {ns : List Flat} {m : Mem} {v : Up} {u : L.Up Affine} → Whole m.nums m.biases → UpAt i s c ns m v u → Ready v.builder.cells m v.builder u.ops
ready_up w h = record { whole = w; cells = refl; ops = h.ops }

-- from m and v to m' and v' no slot changes, and x is then n's status; ts are the statuses that n leaves on the stack
module _ {i s' c' : ℕ} (s c : ℕ) {ns : List Flat} {m : Mem} {v : Up} {u : L.Up Affine} (w : Whole m.nums m.biases) (so : Sound ns) (l : length ns + suc i ≤ 128)
    (h : UpAt (suc i) s' c' ns m v u) where
  pub plain_law : (n : Flat) (t : Bits Affine) (ts : List (Bits Affine)) (m' : Mem) (v' : Up) (d : ℕ) (x : StatusBits) (need : ℕ)
      → Runs All m v.builder m' v'.builder u.ops need 0 → BitsAt m' v'.builder x t → StatusesAt m v.builder ts → length ts ≡ d → d < 128
      → kids_of n ≡ 0 → CurAt (raw_in m' i d x) v'.builder i n (floats.constant 0)
      → suc d ≡ roots (n ∷ ns) → v'.depth ≡ suc d → v'.row ≡ v.row → v'.slot ≡ s → v'.cell ≡ c
      → Arbitrated i s c (n ∷ ns) m v (record { mem = raw_in m' i d x; up = v' }) (plain floats n t ts u) need (8 * kids_of n)
  unfolding rows_in
  plain_law n t ts m' v' d x need r bt a e hd k cu er ed ew es ec =
      let q = ready_up w h in
      let q' = ready_after r q in
      let b' = v'.builder in
      let hi : i < 128 = omega arith in
      let z = raw_runs m' b' i d x hi hd q' in
      let hr : rows_in ns ≤ 128 = omega (arith, rows_most ns so) in
      let a' : StatusesAt m' b' ts = trips_kept r.keeps ts (omega arith) (λ k' o p. tt) a in
      record {
        stands = record {
          depth = ed ∙ er;
          stacked = ap suc e ∙ er;
          row = omega (arith, ew, h.row);
          slot = es;
          cell = ec;
          stack = raw_trips m' b' i d x hi hd q'.whole q' ts e bt a';
          arbitrations = (
            record { node = refl; count = sym k; raw = raw_at m' b' i d x hi hd q'.whole bt; cursor = cu; reach = tt; after = tt },
            infos_kept z.keeps (suc i) ns u.arbitrations l hr (unwritten_spares i d (rows_in ns) hi hd hr) (infos_kept r.keeps (suc i) ns u.arbitrations l hr all_spares h.arbitrations),
          );
          ops = z.ops;
        };
        runs = runs_wide (runs_then (runs_less r (λ j o. tt)) (runs_less z (λ j (o : None j). absurd o))) need (8 * kids_of n) (omega arith) (omega arith);
      }
