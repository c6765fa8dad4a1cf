-- lower_ordered of a composite's children, whichever status the composite advances on: one that advances on failure exchanges the two finished bits,
-- where the construction inverts each child and the result.
use Prim.Native.Nat.{ℕ, ◌+◌, ◌*◌, ◌≤◌, ◌<◌}
use native.Mathlib.Omega.{arith}
use mathlib.Core.Path.{◌≡◌, refl, sym, subst, ◌∙◌}
use mathlib.Core.Bool.{Bool, true, false}
use mathlib.Core.List.{List, [], ◌∷◌}
use lib.ListN.{length}
use Rattle.wire.specs.declared.Form.{Form}
use Rattle.wire.specs.Terms.{Affine}
use Rattle.construct.specs.Builder.{Op}
use Rattle.construct.specs.Lower.{StatusBits as Bits, Ordered, inverted, inverteds, lower_seq, lower}
use Rattle.construct_floats.specs.Floats.{floats}
use Rattle.builder_table.specs.Work.{Standing, Mem}
use Rattle.builder_table.specs.Whole.{Whole}
use Rattle.builder_laws.specs.Table.{Ops, Stands}
use Rattle.status.specs.declared.StatusBits.{StatusBits}
use Rattle.lower_room.proofs.Uses.{seq_use, lower_use}
use Rattle.builder_laws.proofs.Running.{Runs, Rows, Falls}
use Rattle.lower_passes.specs.Ordered.{Ordains, ordered_in}
use Rattle.builder_table.specs.Slots.{reach_from, after_stop_from, stack_success_from, stack_failure_from, stack_running_from}
use Rattle.lower_passes.specs.Arbitrate.{lowered_in, status_of}
use Rattle.lower_ordered_laws.proofs.Orders.{Apart, ss, fs, rs, reaches, afters, OrderedRuns}
use Rattle.lower_ordered_laws.proofs.Ordered.{ordered_runs}
use Rattle.lower_arbitrate_laws.proofs.Counts.{inverteds_count}
use Rattle.lower_arbitrate_laws.proofs.Raw.{BitsAt}

pub record LoweredRuns (m : Mem) (b : Standing) (row n need : ℕ) (e : Ordains) (x : StatusBits) (o : Ordered Affine) : Type 0 where
  pub runs : Runs (Apart row n) m b e.mem e.ordered.builder o.ops need (8 * n)
  pub status : BitsAt e.mem e.ordered.builder x o.status
  pub cursor : Stands e.mem e.ordered.builder e.ordered.cursor o.cursor
  pub reach : Rows e.mem e.ordered.builder (reach_from + row) (reaches o.kids)
  pub after : Rows e.mem e.ordered.builder (after_stop_from + row) (afters o.kids)

ss_inverteds : (ts : List (Bits Affine)) → ss (inverteds ts) ≡ fs ts
unfolding inverteds inverted
ss_inverteds [] = refl
ss_inverteds (t ∷ ts) = λ i. t.failure ∷ ss_inverteds ts i

fs_inverteds : (ts : List (Bits Affine)) → fs (inverteds ts) ≡ ss ts
unfolding inverteds inverted
fs_inverteds [] = refl
fs_inverteds (t ∷ ts) = λ i. t.success ∷ fs_inverteds ts i

rs_inverteds : (ts : List (Bits Affine)) → rs (inverteds ts) ≡ rs ts
unfolding inverteds inverted
rs_inverteds [] = refl
rs_inverteds (t ∷ ts) = λ i. t.running ∷ rs_inverteds ts i

module _ (m : Mem) (b : Standing) (cursor : Form) (top row n : ℕ) (c : Affine) (os : List (Op Affine)) (w : Whole m.nums m.biases) (q : Ops m b os) (hc : Stands m b cursor c) (lt : top < 128)
    (lr : row + n ≤ 128) where
  -- by the number of children
  counted : (advance other : ℕ) (ts : List (Bits Affine)) → length ts ≡ n → advance < 768 → other < 768 → Falls m b advance (ss ts) → Falls m b other (fs ts) → Falls m b (stack_running_from + top) (rs ts)
      → OrderedRuns m b row n (seq_use floats b.cells c ts os) (ordered_in m b cursor advance other (stack_running_from + top) row n) (lower_seq floats b.cells c ts os)
  counted advance other ts e la lo hs hf hr =
      subst (λ (k : ℕ). OrderedRuns m b row k (seq_use floats b.cells c ts os) (ordered_in m b cursor advance other (stack_running_from + top) row k) (lower_seq floats b.cells c ts os)) e
      (ordered_runs m b cursor advance other (stack_running_from + top) row c ts os w q hc hs hf hr la lo (omega arith) (omega arith))

  pub lowered : (on : Bool) (ts : List (Bits Affine)) → length ts ≡ n → Falls m b (stack_success_from + top) (ss ts) → Falls m b (stack_failure_from + top) (fs ts) → Falls m b (stack_running_from + top) (rs ts)
      → LoweredRuns m b row n (lower_use floats b.cells on c ts os) (lowered_in m b cursor on top row n) (status_of on (lowered_in m b cursor on top row n).ordered) (lower floats b.cells on c ts os)
  unfolding lower inverted
  lowered true ts e hs hf hr =
      let o = counted (stack_success_from + top) (stack_failure_from + top) ts e (omega arith) (omega arith) hs hf hr in
      record { runs = o.runs; status = record { success = o.advance; failure = o.other; running = o.run }; cursor = o.cursor; reach = o.reach; after = o.after }
  lowered false ts e hs hf hr =
      let o = counted (stack_failure_from + top) (stack_success_from + top) (inverteds ts) (inverteds_count ts ∙ e) (omega arith) (omega arith)
      (subst (λ (xs : List Affine). Falls m b (stack_failure_from + top) xs) (sym (ss_inverteds ts)) hf)
      (subst (λ (xs : List Affine). Falls m b (stack_success_from + top) xs) (sym (fs_inverteds ts)) hs)
      (subst (λ (xs : List Affine). Falls m b (stack_running_from + top) xs) (sym (rs_inverteds ts)) hr) in
      record { runs = o.runs; status = record { success = o.other; failure = o.advance; running = o.run }; cursor = o.cursor; reach = o.reach; after = o.after }
