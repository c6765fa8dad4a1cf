-- What arbitrating has kept of nodes lasts where their slots stay.
use Prim.Native.Nat.{ℕ, ◌+◌, ◌≤◌, ◌<◌}
use native.Mathlib.Omega.{arith}
use mathlib.Core.List.{List}
use lib.ListN.{length, length-map}
use Rattle.wire.specs.Terms.{Affine}
use Rattle.construct.specs.Lower.{Flat, StatusBits, Arbitration}
use Rattle.builder_table.specs.Work.{Standing, Mem}
use Rattle.builder_laws.proofs.Running.{Keeps}
use Rattle.builder_laws.proofs.Runs.{stack_kept}
use Rattle.builder_table.specs.Slots.{reach_from, after_stop_from, raw_success_from, raw_failure_from, raw_running_from, stack_success_from, stack_failure_from, stack_running_from, arbitrated_from}
use Rattle.lower_ordered_laws.proofs.Orders.{ss, fs, rs}
use Rattle.lower_ordered_laws.proofs.Passes.{rows_in, ArbitrationsAt, StatusesAt}
use Rattle.lower_ordered_laws.proofs.Kept as Kept

-- K holds of the slots from lo up to hi
abbrev pub Over : ℕ → ℕ → (ℕ → Type 0) → Type 0
Over lo hi K = (k : ℕ) → lo ≤ k → k < hi → K k

-- K holds of the slots of nodes from the i-th on, whose children have the rows below `row`
pub record Spares (K : ℕ → Type 0) (i row : ℕ) : Type 0 where
  pub success : Over (raw_success_from + i) 128 K
  pub failure : Over (raw_failure_from + i) 256 K
  pub running : Over (raw_running_from + i) 384 K
  pub cursor : Over (arbitrated_from + i) 1664 K
  pub reach : Over reach_from (reach_from + row) K
  pub after : Over after_stop_from (after_stop_from + row) K

module _ {K : ℕ → Type 0} {m : Mem} {b : Standing} {m' : Mem} {b' : Standing} (g : Keeps K m b m' b') where
  pub infos_kept : (i : ℕ) (ns : List Flat) (xs : List (Arbitration Affine)) → length ns + i ≤ 128 → rows_in ns ≤ 128 → Spares K i (rows_in ns) → ArbitrationsAt m b i ns xs → ArbitrationsAt m' b' i ns xs
  infos_kept i ns xs l t q h =
      Kept.infos_kept g i ns xs (omega arith) t
      (λ j a z. (q.success (raw_success_from + j) (omega arith) (omega arith), q.failure (raw_failure_from + j) (omega arith) (omega arith), q.running (raw_running_from + j) (omega arith) (omega arith), q.cursor (arbitrated_from + j) (omega arith) (omega arith)))
      q.reach q.after h

  -- the stack of statuses, of which there are at most 128
  pub trips_kept : (ts : List (StatusBits Affine)) → length ts ≤ 128 → Over stack_success_from 768 K → StatusesAt m b ts → StatusesAt m' b' ts
  trips_kept ts l q h =
      let cs = length-map ts (λ (z : StatusBits Affine). z.success) in
      let cf = length-map ts (λ (z : StatusBits Affine). z.failure) in
      let cr = length-map ts (λ (z : StatusBits Affine). z.running) in
      record {
        success = stack_kept g stack_success_from (ss ts) (omega arith) (λ k a z. q k a (omega arith)) h.success;
        failure = stack_kept g stack_failure_from (fs ts) (omega arith) (λ k a z. q k (omega arith) (omega arith)) h.failure;
        running = stack_kept g stack_running_from (rs ts) (omega arith) (λ k a z. q k (omega arith) (omega arith)) h.running;
      }
