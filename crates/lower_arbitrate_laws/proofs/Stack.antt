-- A stack of statuses in slots, and its first entries and the rest.
use Prim.Native.Nat.{ℕ, zero, suc, ◌+◌, ◌-◌, ◌≤◌, ◌<◌}
use native.Mathlib.Omega.{arith}
use mathlib.Core.Path.{◌≡◌, subst}
use mathlib.Core.List.{List, [], ◌∷◌, map}
use lib.ListN.{length, take, drop, length-map}
use Rattle.wire.specs.Terms.{Affine}
use Rattle.construct.specs.Lower.{StatusBits, top}
use Rattle.builder_table.specs.Work.{Standing, Mem, loaded}
use Rattle.builder_laws.specs.Table.{Stands}
use Rattle.builder_laws.proofs.Running.{Falls, StackAt}
use Rattle.builder_table.specs.Slots.{stack_success_from, stack_failure_from, stack_running_from}
use Rattle.lower_passes.specs.Arbitrate.{status_in}
use Rattle.lower_ordered_laws.proofs.Passes.{StatusesAt}
use Rattle.lower_arbitrate_laws.proofs.Raw.{BitsAt}

module _ (m : Mem) (b : Standing) (base : ℕ) (p : StatusBits Affine → Affine) where
  -- the first n, from the top slot down
  pub stack_falls : (ts : List (StatusBits Affine)) (n top : ℕ) → n ≤ length ts → (0 < n → top + 1 ≡ base + length ts) → StackAt m b base (map p ts) → Falls m b top (map p (take n ts))
  stack_falls ts zero top l e h = tt
  stack_falls (t ∷ ts) (suc n) top l e h =
      let k : top ≡ base + length (map p ts) = omega (arith, e (omega arith), length-map ts p) in
      (rw k h.0, stack_falls ts n (top - 1) (omega arith) (λ q. omega (arith, e (omega arith))) h.1)
  stack_falls [] (suc n) top l e h = elim l [ ]

  -- the rest
  pub stack_rest : (ts : List (StatusBits Affine)) (n : ℕ) → StackAt m b base (map p ts) → StackAt m b base (map p (drop n ts))
  stack_rest ts zero h = h
  stack_rest [] (suc n) h = tt
  stack_rest (t ∷ ts) (suc n) h = stack_rest ts n h.1

module _ (m : Mem) (b : Standing) where
  pub trips_rest : (n : ℕ) (ts : List (StatusBits Affine)) → StatusesAt m b ts → StatusesAt m b (drop n ts)
  trips_rest n ts a =
      record {
        success = stack_rest m b stack_success_from (λ (t : StatusBits Affine). t.success) ts n a.success;
        failure = stack_rest m b stack_failure_from (λ (t : StatusBits Affine). t.failure) ts n a.failure;
        running = stack_rest m b stack_running_from (λ (t : StatusBits Affine). t.running) ts n a.running;
      }

  -- the status on top
  pub top_at : (t₀ : StatusBits Affine) (ts : List (StatusBits Affine)) (k : ℕ) → k + 1 ≡ length ts → StatusesAt m b ts → BitsAt m b (status_in m k) (top t₀ ts)
  top_at t₀ [] k e a = absurd (omega arith)
  top_at t₀ (t ∷ ts) k e a =
      let l : (p : StatusBits Affine → Affine) → length (map p ts) ≡ k = λ p. omega (arith, length-map ts p) in
      record {
        success = subst (λ (j : ℕ). Stands m b (loaded m (stack_success_from + j)) t.success) (l (λ (t : StatusBits Affine). t.success)) a.success.0;
        failure = subst (λ (j : ℕ). Stands m b (loaded m (stack_failure_from + j)) t.failure) (l (λ (t : StatusBits Affine). t.failure)) a.failure.0;
        running = subst (λ (j : ℕ). Stands m b (loaded m (stack_running_from + j)) t.running) (l (λ (t : StatusBits Affine). t.running)) a.running.0;
      }
