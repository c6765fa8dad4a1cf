-- The table stands for a circuit: the ops' slots for its ops, and each output's slot for its form.
-- Inner: the shape of the code; nobody need believe it.
use Rattle.std.specs.Prelude.{ℕ, suc, ◌+◌, ◌≡◌, List, [], ◌∷◌, reverse}
use Rattle.wire.specs.Terms.{Affine}
use Rattle.arena_laws.specs.Holds.{Is}
use Rattle.construct.specs.Builder.{Op}
use Rattle.construct.specs.Circuit.{Circuit, Output}
use Rattle.builder_table.specs.Work.{Mem, loaded}
use Rattle.builder_laws.specs.Table.{OpsAt}
use Rattle.builder_table.specs.Slots.{raw_success_from, raw_failure_from, raw_running_from, next_cursor_from, reached_from, halted_from, next_running_from}

module _ (m : Mem) (used : ℕ) where
  -- a slot stands for a form
  abbrev pub SlotIs : ℕ → Affine → Type 0
  SlotIs k x = Is m.wires m.coefs used (loaded m k) x

  -- what node i puts out
  pub record OutputAt (i : ℕ) (x : Output Affine) : Type 0 where
    pub success : SlotIs (raw_success_from + i) x.status.success
    pub failure : SlotIs (raw_failure_from + i) x.status.failure
    pub running : SlotIs (raw_running_from + i) x.status.running
    pub reached : SlotIs (reached_from + i) x.reached
    pub halted : SlotIs (halted_from + i) x.halted
    pub next_running : SlotIs (next_running_from + i) x.running

  -- the nodes from the i-th on
  abbrev pub OutputsAt : ℕ → List (Output Affine) → Type 0
  OutputsAt i [] = Unit {0}
  OutputsAt i (x ∷ xs) = OutputAt i x × OutputsAt (suc i) xs

  -- the cursors' next values from cell c on
  abbrev pub CursorsAt : ℕ → List Affine → Type 0
  CursorsAt c [] = Unit {0}
  CursorsAt c (x ∷ xs) = SlotIs (next_cursor_from + c) x × CursorsAt (suc c) xs

  -- the ops are kept newest first
  pub record CircuitAt (newest : List (Op Affine)) (c : Circuit Affine) : Type 0 where
    pub order : c.ops ≡ reverse newest
    pub ops : OpsAt m used newest
    pub outputs : OutputsAt 0 c.outputs
    pub cursors : CursorsAt 0 c.cursors
