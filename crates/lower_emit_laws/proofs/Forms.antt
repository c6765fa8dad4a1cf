-- The forms of a circuit that the table stands for, in the order in which they are counted and written.
use Prim.Native.Nat.{ℕ, suc, ◌+◌, ◌-◌, ◌*◌, ◌/◌, ◌%◌, ◌≤◌, ◌<◌}
use native.Mathlib.Numerals.{add-one}
use native.Mathlib.Omega.{arith}
use mathlib.Core.Path.{◌≡◌, sym, ◌∙◌, subst}
use mathlib.Core.List.{List, [], ◌∷◌, ◌++◌, reverse_aux, reverse}
use borrow.Author.Tests.{le-leb, lt-leb}
use lib.ListN.{length}
use Rattle.wire.specs.Terms.{Affine}
use Rattle.construct.specs.Builder.{Op}
use Rattle.construct.specs.Circuit.{Output, output_forms}
use Rattle.builder_table.specs.Work.{Mem}
use Rattle.builder_laws.specs.Table.{OpsAt}
use Rattle.builder_table.specs.Slots.{next_cursor_from, ops_from}
use Rattle.lower_emit.specs.Emit.{row_of, output_slot}
use Rattle.lower_emit_laws.specs.Emitted.{SlotIs, OutputsAt, CursorsAt}

-- ---- the slots of the output forms

slot_past : (nodes k : ℕ) → 6 * nodes ≤ k → next_cursor_from + (k - 6 * nodes) ≡ output_slot nodes k
unfolding output_slot
slot_past nodes k h = rw (le-leb (6 * nodes) k h)

slot_nodal : (nodes k : ℕ) → k < 6 * nodes → row_of (k % 6) + k / 6 ≡ output_slot nodes k
unfolding output_slot
slot_nodal nodes k h = rw (lt-leb (6 * nodes) k h)

-- ---- the forms

module _ (m : Mem) (used : ℕ) where
  -- ops in order, from the k-th on
  abbrev pub OpsFrom : ℕ → List (Op Affine) → Type 0
  OpsFrom k [] = Unit {0}
  OpsFrom k (o ∷ os) = SlotIs m used (ops_from + 2 * k) o.left × SlotIs m used (ops_from + 2 * k + 1) o.gate × OpsFrom (k + 1) os

  -- output forms in order, from the k-th on
  abbrev pub FormsFrom : ℕ → ℕ → List Affine → Type 0
  FormsFrom nodes k [] = Unit {0}
  FormsFrom nodes k (x ∷ xs) = SlotIs m used (output_slot nodes k) x × FormsFrom nodes (k + 1) xs

  -- ---- the newest first, in order

  ops_onto : (os ps : List (Op Affine)) → OpsAt m used os → OpsFrom (length os) ps → OpsFrom 0 (reverse_aux os ps)
  ops_onto [] ps h r = r
  ops_onto (o ∷ os) ps h r = ops_onto os (o ∷ ps) h.2 (h.0, h.1, subst (λ (k : ℕ). OpsFrom k ps) (sym (add-one (length os))) r)

  pub ops_from_lem : (newest : List (Op Affine)) → OpsAt m used newest → OpsFrom 0 (reverse newest)
  ops_from_lem newest h = ops_onto newest [] h tt

  -- ---- where each output form stands

  module _ (nodes : ℕ) where
    nodal : (k i field : ℕ) → i < nodes → field < 6 → k ≡ 6 * i + field → row_of field + i ≡ output_slot nodes k
    nodal k i field h l e =
        let a : field ≡ k % 6 = omega arith in
        let b : i ≡ k / 6 = omega arith in
        (λ j. row_of (a j) + b j) ∙ slot_nodal nodes k (omega arith)

    at_slot : (x : Affine) {a b : ℕ} → a ≡ b → SlotIs m used a x → SlotIs m used b x
    at_slot x e h = subst (λ (k : ℕ). SlotIs m used k x) e h

    pub cursors_from_lem : (xs : List Affine) (c k : ℕ) → k ≡ 6 * nodes + c → CursorsAt m used c xs → FormsFrom nodes k xs
    cursors_from_lem [] c k e h = tt
    cursors_from_lem (x ∷ xs) c k e h =
        let q : next_cursor_from + c ≡ next_cursor_from + (k - 6 * nodes) = omega arith in
        (at_slot x (q ∙ slot_past nodes k (omega arith)) h.0, cursors_from_lem xs (suc c) (k + 1) (omega arith) h.1)

    pub outputs_from_lem : (outs : List (Output Affine)) (curs : List Affine) (i k : ℕ) → i + length outs ≡ nodes → k ≡ 6 * i → OutputsAt m used i outs → CursorsAt m used 0 curs
        → FormsFrom nodes k (output_forms outs ++ curs)
    unfolding output_forms row_of
    outputs_from_lem [] curs i k l e h r = cursors_from_lem curs 0 k (omega arith) r
    outputs_from_lem (x ∷ outs) curs i k l e h r =
        let o = h.0 in
        let b : i < nodes = omega arith in (
          at_slot _ (nodal k i 0 b (omega arith) (omega arith)) o.success,
          (
            at_slot _ (nodal (k + 1) i 1 b (omega arith) (omega arith)) o.failure,
            (
              at_slot _ (nodal (k + 1 + 1) i 2 b (omega arith) (omega arith)) o.running,
              (
                at_slot _ (nodal (k + 1 + 1 + 1) i 3 b (omega arith) (omega arith)) o.reached,
                (
                  at_slot _ (nodal (k + 1 + 1 + 1 + 1) i 4 b (omega arith) (omega arith)) o.halted,
                  (
                    at_slot _ (nodal (k + 1 + 1 + 1 + 1 + 1) i 5 b (omega arith) (omega arith)) o.next_running,
                    outputs_from_lem outs curs (suc i) (k + 1 + 1 + 1 + 1 + 1 + 1) (omega arith) (omega arith) h.1 r,
                  ),
                ),
              ),
            ),
          ),
        )
