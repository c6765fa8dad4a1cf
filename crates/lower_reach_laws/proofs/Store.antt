-- A form put into a slot, as a step.
use Prim.Native.Nat.{ℕ, ◌<◌}
use mathlib.Core.List.{List}
use Rattle.wire.specs.declared.Form.{Form}
use Rattle.wire.specs.Terms.{Affine}
use Rattle.construct.specs.Builder.{Op}
use Rattle.builder_table.specs.Work.{Standing, Mem, loaded, saved}
use Rattle.builder_table.specs.Slots.{ops_from}
use Rattle.builder_laws.specs.Table.{Stands}
use Rattle.builder_laws.proofs.Running.{Runs}
use Rattle.builder_laws.proofs.Runs.{Ready, saved_runs, slot_filled}

pub record Stored (K : ℕ → Type 0) (m : Mem) (b : Standing) (j : ℕ) (f : Form) (x : Affine) (os : List (Op Affine)) : Type 0 where
  pub runs : Runs K m b (saved m j f) b os 0 0
  pub slot : Stands (saved m j f) b (loaded (saved m j f) j) x

pub store_runs : {n : ℕ} {K : ℕ → Type 0} {m : Mem} {b : Standing} {os : List (Op Affine)} {f : Form} {x : Affine} → Ready n m b os → (j : ℕ) → j < ops_from → (K j → ⊥) → Stands m b f x
    → Stored K m b j f x os
store_runs {f = f} r j l k h = record { runs = saved_runs r j f l k; slot = slot_filled r j l h }
