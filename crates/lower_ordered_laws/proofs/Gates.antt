-- The first loop of lower_ordered followed: the slots of before and blocked stand for the construction's.
use Prim.Native.Nat.{ℕ, suc, ◌+◌, ◌-◌, ◌*◌, ◌≤◌, ◌<◌}
use native.Mathlib.Omega.{arith}
use native.Mathlib.Numerals.{add-one}
use mathlib.Core.Path.{◌≡◌, refl, ap}
use mathlib.Core.List.{List, [], ◌∷◌, map}
use lib.ListN.{length}
use Rattle.wire.specs.declared.Form.{Form}
use Rattle.wire.specs.Terms.{Affine}
use Rattle.construct.specs.Builder.{Op, at_least, or, not'}
use Rattle.construct.specs.Lower.{StatusBits, GatedChild, Many, gates}
use Rattle.construct_floats.specs.Floats.{number, floats}
use Rattle.builder_table.specs.Work.{Standing, Mem, loaded, Stood}
use Rattle.builder_laws.specs.Table.{Stands}
use Rattle.builder.specs.Bits.{at_least_in}
use Rattle.builder_table.specs.Slots.{before_from, blocked_from}
use Rattle.lower_passes.specs.Gates.{block_in, gate_in, gates_in}
use Rattle.lower_room.proofs.Uses.{or_use, gates_use}
use Rattle.builder_laws.proofs.Running.{Not, Runs, Rows, Falls}
use Rattle.builder_laws.proofs.Runs.{slot_kept, falls_kept, slot_filled, Ready, runs_none, runs_then, runs_less, runs_wide, ready_after, stands_after, saved_runs}
use Rattle.builder_laws.proofs.Steps.{not_runs, least_runs, or_runs}
use Rattle.lower_ordered_laws.proofs.Orders.{ss}

-- ---- the construction's lists

abbrev pub befores : List (GatedChild Affine) → List Affine
befores xs = map (λ (x : GatedChild Affine). x.before) xs

abbrev pub blockeds : List (GatedChild Affine) → List Affine
blockeds xs = map (λ (x : GatedChild Affine). x.blocked) xs

module _ (n : ℕ) (c : Affine) where
  pub gates_count : (k : ℕ) (ts : List (StatusBits Affine)) (os : List (Op Affine)) → length (gates floats n c k ts os).items ≡ length ts
  unfolding gates
  gates_count k [] os = refl
  gates_count k (t ∷ ts) os = ap suc (gates_count (suc k) ts _)

  pub gates_trips : (part : StatusBits Affine → Affine) (k : ℕ) (ts : List (StatusBits Affine)) (os : List (Op Affine))
      → map (λ (x : GatedChild Affine). part x.status) (gates floats n c k ts os).items ≡ map part ts
  unfolding gates
  gates_trips part k [] os = refl
  gates_trips part k (t ∷ ts) os = ap (part t ∷◌) (gates_trips part (suc k) ts _)

-- ---- one child

-- one slot is written, and stands for x
pub record Filled (K : ℕ → Type 0) (m : Mem) (b : Standing) (e : Stood) (j : ℕ) (x : Affine) (os : List (Op Affine)) (need more : ℕ) : Type 0 where
  pub runs : Runs K m b e.mem e.builder os need more
  pub slot : Stands e.mem e.builder (loaded e.mem j) x

block_one : {n : ℕ} {K : ℕ → Type 0} {m : Mem} {b : Standing} {os : List (Op Affine)} {f g : Form} {x y : Affine} (k : ℕ)
    → Ready n m b os → Stands m b f x → Stands m b g y → k < 128 → (K (blocked_from + k) → ⊥)
    → let pass = or floats n x y os in
    Filled K m b (block_in m b f g k) (blocked_from + k) (not' floats pass.form) pass.ops (or_use floats x y + floats.terms pass.form) 1
unfolding block_in
block_one {K = K} k r hx hy l p =
    let pass = or_runs {K = K} r hx hy in
    let r1 = ready_after pass.runs r in
    let block = not_runs {K = K} r1 pass.form in
    let r2 = ready_after block.runs r1 in
    let s = saved_runs {K = K} r2 (blocked_from + k) _ (omega arith) p in
    record {
      runs = runs_wide (runs_then pass.runs (runs_then block.runs s)) _ _ (omega arith) (omega arith);
      slot = slot_filled r2 (blocked_from + k) (omega arith) block.form;
    }

record Gated (K : ℕ → Type 0) (m : Mem) (b : Standing) (e : Stood) (k : ℕ) (x y : Affine) (os : List (Op Affine)) (need : ℕ) : Type 0 where
  runs : Runs K m b e.mem e.builder os need 3
  before : Stands e.mem e.builder (loaded e.mem (before_from + k)) x
  blocked : Stands e.mem e.builder (loaded e.mem (blocked_from + k)) y

gate_one : {n : ℕ} {K : ℕ → Type 0} {m : Mem} {b : Standing} {os : List (Op Affine)} {cursor t : Form} {c x : Affine} (k : ℕ)
    → Ready n m b os → Stands m b cursor c → Stands m b t x → k < 128 → (K (before_from + k) → ⊥) → (K (blocked_from + k) → ⊥)
    → let later = at_least floats n c (k + 1) os in
    let pass = or floats n later.form x later.ops in
    Gated K m b (gate_in m b cursor t k) k later.form (not' floats pass.form) pass.ops (5 + or_use floats later.form x + floats.terms pass.form)
unfolding gate_in
gate_one {n} {K} {m} {b} {os} {cursor} {t} {c} {x} k r hc ht l p q =
    let later = least_runs {K = K} r hc (k + 1) in
    let r1 = ready_after later.runs r in
    let s = saved_runs {K = K} r1 (before_from + k) (at_least_in m b cursor (number (k + 1))).form (omega arith) p in
    let r2 = ready_after s r1 in
    let hl = stands_after s later.form in
    let hx = stands_after s (stands_after later.runs ht) in
    let rest = block_one {K = K} k r2 hl hx l q in
    let apart = block_one {K = λ j. j ≡ before_from + k} k r2 hl hx l (λ e. omega arith) in
    record {
      runs = runs_wide (runs_then later.runs (runs_then s rest.runs)) _ _ (omega arith) (omega arith);
      before = slot_kept apart.runs.keeps (before_from + k) (omega arith) refl (slot_filled r1 (before_from + k) (omega arith) later.form);
      blocked = rest.slot;
    }

-- ---- all children

-- all slots but those of the children from the k-th on, of which there are so many
abbrev pub NotGates : ℕ → ℕ → ℕ → Type 0
NotGates k count j = Not (before_from + k) (before_from + k + count) j × Not (blocked_from + k) (blocked_from + k + count) j

pub record GatesRun (m : Mem) (b : Standing) (k count need : ℕ) (e : Stood) (o : Many Affine (GatedChild Affine)) : Type 0 where
  pub runs : Runs (NotGates k count) m b e.mem e.builder o.ops need (3 * count)
  pub before : Rows e.mem e.builder (before_from + k) (befores o.items)
  pub blocked : Rows e.mem e.builder (blocked_from + k) (blockeds o.items)

pub gates_run : {n : ℕ} {m : Mem} {b : Standing} {os : List (Op Affine)} {cursor : Form} {c : Affine} (top k : ℕ) (ts : List (StatusBits Affine))
    → Ready n m b os → Stands m b cursor c → Falls m b (top - k) (ss ts) → top < before_from → k + length ts ≤ 128
    → GatesRun m b k (length ts) (gates_use floats n c k ts os) (gates_in m b cursor top k (length ts)) (gates floats n c k ts os)
unfolding gates gates_in gates_use
gates_run top k [] r hc ht a l = record { runs = runs_none r; before = tt; blocked = tt }
gates_run {n} {m} {b} {os} {cursor} {c} top k (t ∷ ts) r hc ht a l =
    rw (← add-one k) (
    let one = gate_one {K = NotGates k (suc (length ts))} k r hc ht.0 (omega arith) (λ h. h.0 (omega arith) (omega arith)) (λ h. h.1 (omega arith) (omega arith)) in
    let r1 = ready_after one.runs r in
    let falls = falls_kept one.runs.keeps (top - k - 1) (ss ts) (omega arith) (λ j d e. ((λ u v. omega arith), (λ u v. omega arith))) ht.1 in
    let e : top - (k + 1) ≡ top - k - 1 = omega arith in
    let e0 : suc (before_from + k) ≡ before_from + (k + 1) = omega arith in
    let e1 : suc (blocked_from + k) ≡ blocked_from + (k + 1) = omega arith in
    let all = gates_run {m = (gate_in m b cursor (loaded m (top - k)) k).mem} top (k + 1) ts r1 (stands_after one.runs hc) (rw e falls) a (omega arith) in
    let keep = all.runs.keeps in
    record {
      runs = runs_wide (runs_then one.runs (runs_less all.runs (λ j h. ((λ u v. h.0 (omega arith) (omega arith)), (λ u v. h.1 (omega arith) (omega arith)))))) _ _ (omega arith) (omega arith);
      before = (slot_kept keep (before_from + k) (omega arith) ((λ u v. omega arith), (λ u v. omega arith)) one.before, rw e0 all.before);
      blocked = (slot_kept keep (blocked_from + k) (omega arith) ((λ u v. omega arith), (λ u v. omega arith)) one.blocked, rw e1 all.blocked);
    })
