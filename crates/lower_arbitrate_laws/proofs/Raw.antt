-- A node's status written and put on the stack: it stands in both places, and all other slots are as they were.
use Prim.Native.Nat.{ℕ, ◌+◌, ◌≤◌, ◌<◌}
use native.Mathlib.Omega.{arith}
use mathlib.Core.Path.{◌≡◌, refl, sym, subst, ◌∙◌}
use mathlib.Core.List.{List, ◌∷◌, map}
use lib.ListN.{length, length-map}
use Rattle.wire.specs.declared.Form.{Form}
use Rattle.wire.specs.Terms.{Affine}
use Rattle.construct.specs.Builder.{Op}
use Rattle.construct.specs.Lower.{StatusBits as Bits}
use Rattle.builder_table.specs.Work.{Standing, Mem, loaded, saved}
use Rattle.builder_table.specs.Whole.{Whole}
use Rattle.builder_laws.specs.Table.{Stands}
use Rattle.builder_laws.proofs.Table.{saved_own, saved_other}
use Rattle.builder_laws.proofs.Running.{Runs, StackAt}
use Rattle.builder_laws.proofs.Runs.{Ready, keeps_saved, whole_kept, stack_kept, saved_runs, runs_then, ready_after}
use Rattle.status.specs.declared.StatusBits.{StatusBits}
use Rattle.builder_table.specs.Slots.{raw_success_from, raw_failure_from, raw_running_from, stack_success_from, stack_failure_from, stack_running_from, ops_from}
use Rattle.lower_passes.specs.Arbitrate.{raw_in}
use Rattle.lower_ordered_laws.proofs.Passes.{RawAt, StatusesAt}
use Rattle.lower_arbitrate_laws.proofs.Upward.{None}

-- three forms stand for a status
pub record BitsAt (m : Mem) (b : Standing) (x : StatusBits) (t : Bits Affine) : Type 0 where
  pub success : Stands m b x.success.0 t.success
  pub failure : Stands m b x.failure.0 t.failure
  pub running : Stands m b x.running.0 t.running

-- none of the six slots
abbrev pub Unwritten : ℕ → ℕ → ℕ → Type 0
Unwritten i d k =
    (k ≡ raw_success_from + i → ⊥) × (k ≡ raw_failure_from + i → ⊥) × (k ≡ raw_running_from + i → ⊥) × (k ≡ stack_success_from + d → ⊥) × (k ≡ stack_failure_from + d → ⊥) × (k ≡ stack_running_from + d → ⊥)

whole_saved : (m : Mem) (b : Standing) (k : ℕ) (f : Form) → Whole m.nums m.biases → Whole (saved m k f).nums (saved m k f).biases
whole_saved m b k f w = whole_kept {b = b} {b' = b} (keeps_saved {K = None} {m = m} {b = b} k f (λ q. q)) w

-- a form that is another
pub stands_as : (m : Mem) (b : Standing) {f g : Form} {x : Affine} → f ≡ g → Stands m b g x → Stands m b f x
stands_as m b {x = x} e h = subst (λ (z : Form). Stands m b z x) (sym e) h

module _ (m : Mem) (b : Standing) (i d : ℕ) (x : StatusBits) (hi : i < 128) (hd : d < 128) where
  abbrev s : Form
  s = x.success.0

  abbrev f : Form
  f = x.failure.0

  abbrev r : Form
  r = x.running.0

  abbrev m1 : Mem
  m1 = saved m (raw_success_from + i) s

  abbrev m2 : Mem
  m2 = saved m1 (raw_failure_from + i) f

  abbrev m3 : Mem
  m3 = saved m2 (raw_running_from + i) r

  abbrev m4 : Mem
  m4 = saved m3 (stack_success_from + d) s

  abbrev m5 : Mem
  m5 = saved m4 (stack_failure_from + d) f

  abbrev m6 : Mem
  m6 = saved m5 (stack_running_from + d) r

  pub raw_runs : {n : ℕ} {os : List (Op Affine)} → Ready n m b os → Runs (Unwritten i d) m b (raw_in m i d x) b os 0 0
  unfolding raw_in
  raw_runs q0 =
      let r1 = saved_runs {K = Unwritten i d} q0 (raw_success_from + i) s (omega arith) (λ k. k.0 refl) in
      let q1 = ready_after r1 q0 in
      let r2 = saved_runs {K = Unwritten i d} q1 (raw_failure_from + i) f (omega arith) (λ k. k.1 refl) in
      let q2 = ready_after r2 q1 in
      let r3 = saved_runs {K = Unwritten i d} q2 (raw_running_from + i) r (omega arith) (λ k. k.2 refl) in
      let q3 = ready_after r3 q2 in
      let r4 = saved_runs {K = Unwritten i d} q3 (stack_success_from + d) s (omega arith) (λ k. k.3 refl) in
      let q4 = ready_after r4 q3 in
      let r5 = saved_runs {K = Unwritten i d} q4 (stack_failure_from + d) f (omega arith) (λ k. k.4 refl) in
      let q5 = ready_after r5 q4 in
      let r6 = saved_runs {K = Unwritten i d} q5 (stack_running_from + d) r (omega arith) (λ k. k.5 refl) in
      runs_then r1 (runs_then r2 (runs_then r3 (runs_then r4 (runs_then r5 r6))))

  module _ (w : Whole m.nums m.biases) where
    w1 : Whole m1.nums m1.biases
    w1 = whole_saved m b (raw_success_from + i) s w

    w2 : Whole m2.nums m2.biases
    w2 = whole_saved m1 b (raw_failure_from + i) f w1

    w3 : Whole m3.nums m3.biases
    w3 = whole_saved m2 b (raw_running_from + i) r w2

    w4 : Whole m4.nums m4.biases
    w4 = whole_saved m3 b (stack_success_from + d) s w3

    w5 : Whole m5.nums m5.biases
    w5 = whole_saved m4 b (stack_failure_from + d) f w4

    -- the last three saves leave the slots below the stack
    low : (k : ℕ) → k < 384 → loaded m6 k ≡ loaded m3 k
    low k l =
        saved_other m5 (stack_running_from + d) r k (λ q. omega arith) ∙ saved_other m4 (stack_failure_from + d) f k (λ q. omega arith) ∙ saved_other m3 (stack_success_from + d) s k (λ q. omega arith)

    pub raw_at : {t : Bits Affine} → BitsAt m b x t → RawAt (raw_in m i d x) b i t
    unfolding raw_in
    raw_at h =
        record {
          success =
              stands_as m6 b
              (low (raw_success_from + i) (omega arith) ∙ saved_other m2 (raw_running_from + i) r (raw_success_from + i) (λ q. omega arith) ∙ saved_other m1 (raw_failure_from + i) f (raw_success_from + i) (λ q. omega arith) ∙ saved_own m (raw_success_from + i) s w (omega arith))
              h.success;
          failure = stands_as m6 b (low (raw_failure_from + i) (omega arith) ∙ saved_other m2 (raw_running_from + i) r (raw_failure_from + i) (λ q. omega arith) ∙ saved_own m1 (raw_failure_from + i) f w1 (omega arith)) h.failure;
          running = stands_as m6 b (low (raw_running_from + i) (omega arith) ∙ saved_own m2 (raw_running_from + i) r w2 (omega arith)) h.running;
        }

    module _ {n : ℕ} {os : List (Op Affine)} (q : Ready n m b os) {t : Bits Affine} (ts : List (Bits Affine)) (e : length ts ≡ d) (h : BitsAt m b x t) (a : StatusesAt m b ts) where
      -- on top of the stack from `base` on
      pushed : (base : ℕ) (p : Bits Affine → Affine) → base + 128 ≤ ops_from → ((k : ℕ) → base ≤ k → k < base + d → Unwritten i d k)
          → Stands (raw_in m i d x) b (loaded (raw_in m i d x) (base + d)) (p t) → StackAt m b base (map p ts) → StackAt (raw_in m i d x) b base (p t ∷ map p ts)
      pushed base p l k z y =
          let c : length (map p ts) ≡ d = length-map ts p ∙ e in (
            subst (λ (j : ℕ). Stands (raw_in m i d x) b (loaded (raw_in m i d x) (base + j)) (p t)) (sym c) z,
            stack_kept (raw_runs q).keeps base (map p ts) (omega arith) (λ j g o. k j g (omega arith)) y,
          )

      pub raw_trips : StatusesAt (raw_in m i d x) b (t ∷ ts)
      unfolding raw_in
      raw_trips =
          record {
            success = pushed stack_success_from (λ (z : Bits Affine). z.success) (omega arith) (λ k g o. omega arith)
                (stands_as m6 b (saved_other m5 (stack_running_from + d) r (stack_success_from + d) (λ z. omega arith) ∙ saved_other m4 (stack_failure_from + d) f (stack_success_from + d) (λ z. omega arith) ∙ saved_own m3 (stack_success_from + d) s w3 (omega arith)) h.success)
                a.success;
            failure = pushed stack_failure_from (λ (z : Bits Affine). z.failure) (omega arith) (λ k g o. omega arith)
                (stands_as m6 b (saved_other m5 (stack_running_from + d) r (stack_failure_from + d) (λ z. omega arith) ∙ saved_own m4 (stack_failure_from + d) f w4 (omega arith)) h.failure) a.failure;
            running = pushed stack_running_from (λ (z : Bits Affine). z.running) (omega arith) (λ k g o. omega arith) (stands_as m6 b (saved_own m5 (stack_running_from + d) r w5 (omega arith)) h.running) a.running;
          }
