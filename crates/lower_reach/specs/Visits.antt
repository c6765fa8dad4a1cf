-- What every node makes of the entry on top of the stack: the first part of reach's step. Inner: the shape of the code; nobody need believe it.
use Rattle.std.specs.Prelude.{ℕ, ◌+◌, ◌-◌, ◌≡◌}
use Rattle.wire.specs.declared.Form.{Form}
use Rattle.builder_table.specs.declared.lent.Builder.{Builder}
use Rattle.builder_table.specs.Work.{Mem, Standing, loaded}
use Rattle.builder_table.specs.Loans.{memory, standing, LentAs}
use Rattle.builder_table.specs.Slots.{entry_reached_from, entry_called_from}
use Rattle.lower_passes.specs.Marks.{Down}
use Rattle.lower_passes.specs.Reach.{Lowered, down, halt_in, untouched_in, spread_in}
use Rattle.lower_reach.specs.declared.visits.Entered.{Entered}

-- what is left, whether the node is reached and whether it is halted, and where building stands
pub record Entrance : Type 0 where
  pub mem : Mem
  pub reached : Form
  pub halted : Form
  pub builder : Standing

abbrev pub entrance : Mem → Form → Form → Standing → Entrance
entrance m reached halted b = record { mem = m; reached = reached; halted = halted; builder = b }

pub record Enters (a b : Builder) (e : Entered) (o : Entrance) : Type 0 where
  pub lent : LentAs a b
  pub made : entrance (memory b) e.reached.0 e.halted.0 (standing b) ≡ o

unfoldable pub enter_in : Mem → Down → ℕ → Entrance
enter_in m v i =
    let reached = loaded m (entry_reached_from + (v.depth - 1)) in
    let called = loaded m (entry_called_from + (v.depth - 1)) in
    let h = halt_in m v.builder reached called i in
    let u = untouched_in h.mem h.builder reached h.form i in
    entrance u.mem reached h.form u.builder

-- the entries of n children take the place of their parent's
unfoldable pub told_in : Mem → Down → Form → Form → ℕ → Lowered
told_in m v reached halted n =
    let s = spread_in m v.builder reached halted (v.row - n) (v.depth - 1) 0 n in
    record { mem = s.mem; down = down s.builder (v.depth - 1 + n) (v.row - n) v.cell }
