-- The second loop of lower_ordered followed: the slots of clear stand for the construction's.
use Prim.Native.Nat.{ℕ, suc, ◌+◌, ◌≤◌, ◌<◌}
use native.Mathlib.Omega.{arith}
use mathlib.Core.Path.{◌≡◌, refl, ap}
use mathlib.Core.List.{List, [], ◌∷◌, map}
use lib.ListN.{length, length-map}
use Rattle.wire.specs.declared.Form.{Form}
use Rattle.wire.specs.Terms.{Affine}
use Rattle.construct.specs.Builder.{Op, is_zero}
use Rattle.construct.specs.Lower.{GatedChild, ClearedChild, Many, clears}
use Rattle.construct_floats.specs.Floats.{floats}
use Rattle.builder_table.specs.Work.{Standing, Mem, Ended, loaded, Stood}
use Rattle.builder_laws.specs.Table.{Stands}
use Rattle.builder.specs.Bits.{is_zero_in}
use Rattle.builder_table.specs.Slots.{blocked_from, clear_from}
use Rattle.lower_passes.specs.Gates.{clear_in, clears_in}
use Rattle.lower_room.proofs.Uses.{plus_use, clears_use}
use Rattle.builder_laws.proofs.Running.{Not, Runs, Rows}
use Rattle.builder_laws.proofs.Runs.{slot_kept, rows_kept, slot_filled, Ready, runs_none, runs_then, runs_less, runs_wide, ready_after, stands_after, saved_runs}
use Rattle.builder_laws.proofs.Steps.{plus_runs, zero_runs}
use Rattle.lower_ordered_laws.proofs.Gates.{blockeds}

-- ---- the construction's lists

abbrev pub clear_bits : List (ClearedChild Affine) → List Affine
clear_bits xs = map (λ (x : ClearedChild Affine). x.clear) xs

module _ (n : ℕ) where
  pub clears_count : (pre : Affine) (xs : List (GatedChild Affine)) (os : List (Op Affine)) → length (clears floats n pre xs os).items ≡ length xs
  unfolding clears
  clears_count pre [] os = refl
  clears_count pre (x ∷ xs) os = ap suc (clears_count (floats.plus pre x.blocked) xs _)

  pub clears_kids : (part : GatedChild Affine → Affine) (pre : Affine) (xs : List (GatedChild Affine)) (os : List (Op Affine))
      → map (λ (x : ClearedChild Affine). part x.child) (clears floats n pre xs os).items ≡ map part xs
  unfolding clears
  clears_kids part pre [] os = refl
  clears_kids part pre (x ∷ xs) os = ap (part x ∷◌) (clears_kids part (floats.plus pre x.blocked) xs _)

-- ---- one child

-- one slot is written, and stands for x; the answer stands for y
pub record Summed (K : ℕ → Type 0) (m : Mem) (b : Standing) (e : Ended) (j : ℕ) (x y : Affine) (os : List (Op Affine)) (need more : ℕ) : Type 0 where
  pub runs : Runs K m b e.mem e.builder os need more
  pub slot : Stands e.mem e.builder (loaded e.mem j) x
  pub form : Stands e.mem e.builder e.form y

clear_one : {n : ℕ} {K : ℕ → Type 0} {m : Mem} {b : Standing} {os : List (Op Affine)} {earlier : Form} {pre x : Affine} (k : ℕ)
    → Ready n m b os → Stands m b earlier pre → Stands m b (loaded m (blocked_from + k)) x → k < 128 → (K (clear_from + k) → ⊥)
    → let z = is_zero floats n pre os in
    Summed K m b (clear_in m b earlier k) (clear_from + k) z.form (floats.plus pre x) z.ops (floats.terms pre + 1 + plus_use floats pre x) 1
unfolding clear_in
clear_one {K = K} {m} {b} {earlier = earlier} k r hp hx l p =
    let z = zero_runs {K = K} r hp in
    let r1 = ready_after z.runs r in
    let s = saved_runs {K = K} r1 (clear_from + k) (is_zero_in m b earlier).form (omega arith) p in
    let r2 = ready_after s r1 in
    let blocked = slot_kept (saved_runs {K = λ j. j ≡ blocked_from + k} r1 (clear_from + k) (is_zero_in m b earlier).form (omega arith) (λ e. omega arith)).keeps (blocked_from + k) (omega arith) refl
    (slot_kept (zero_runs {K = λ j. Unit {0}} r hp).runs.keeps (blocked_from + k) (omega arith) tt hx) in
    let sum = plus_runs {K = λ j. Unit {0}} r2 (stands_after s (stands_after z.runs hp)) blocked in
    record {
      runs = runs_wide (runs_then z.runs (runs_then s (runs_less sum.runs (λ j h. tt)))) _ _ (omega arith) (omega arith);
      slot = slot_kept sum.runs.keeps (clear_from + k) (omega arith) tt (slot_filled r1 (clear_from + k) (omega arith) z.form);
      form = sum.form;
    }

-- ---- all children

pub record ClearsRun (m : Mem) (b : Standing) (k count need : ℕ) (e : Stood) (o : Many Affine (ClearedChild Affine)) : Type 0 where
  pub runs : Runs (Not (clear_from + k) (clear_from + k + count)) m b e.mem e.builder o.ops need count
  pub clear : Rows e.mem e.builder (clear_from + k) (clear_bits o.items)

pub clears_run : {n : ℕ} {m : Mem} {b : Standing} {os : List (Op Affine)} {earlier : Form} {pre : Affine} (k : ℕ) (xs : List (GatedChild Affine))
    → Ready n m b os → Stands m b earlier pre → Rows m b (blocked_from + k) (blockeds xs) → k + length xs ≤ 128
    → ClearsRun m b k (length xs) (clears_use floats n pre xs) (clears_in m b earlier k (length xs)) (clears floats n pre xs os)
unfolding clears clears_in clears_use
clears_run k [] r hp hb l = record { runs = runs_none r; clear = tt }
clears_run {n} {m} {b} {os} {earlier} {pre} k (x ∷ xs) r hp hb l =
    let one = clear_one {K = Not (clear_from + k) (clear_from + k + suc (length xs))} k r hp hb.0 (omega arith) (λ h. h (omega arith) (omega arith)) in
    let r1 = ready_after one.runs r in
    let c : length (blockeds xs) ≡ length xs = length-map xs _ in
    let rows = rows_kept one.runs.keeps (suc (blocked_from + k)) (blockeds xs) (omega arith) (λ j d e u v. omega arith) hb.1 in
    let e1 : suc (blocked_from + k) ≡ blocked_from + (k + 1) = omega arith in
    let e2 : suc (clear_from + k) ≡ clear_from + (k + 1) = omega arith in
    let all = clears_run {m = (clear_in m b earlier k).mem} (k + 1) xs r1 one.form (rw (← e1) rows) (omega arith) in
    record {
      runs = runs_wide (runs_then one.runs (runs_less all.runs (λ j h u v. h (omega arith) (omega arith)))) _ _ (omega arith) (omega arith);
      clear = (slot_kept all.runs.keeps (clear_from + k) (omega arith) (λ u v. omega arith) one.slot, rw e2 all.clear);
    }
