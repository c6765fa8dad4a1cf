-- A builder as what is lent to it and where it stands, and what an operation leaves of it. Inner: what callers learn of the slices behind it; nobody need
-- believe it.
use Rattle.std.specs.Prelude.{◌≡◌, length}
use Rattle.wire.specs.declared.Form.{Form}
use Rattle.arena.specs.Loans as arena
use Rattle.builder_table.specs.declared.lent.Builder.{Builder}
use Rattle.builder_table.specs.Work.{Mem, mem, Standing, Ended, kept, Stood, stood}

abbrev pub memory : Builder → Mem
memory b = mem b.arena.wires.now b.arena.coefs.now b.nums.now b.biases.now

abbrev pub standing : Builder → Standing
standing b = record { room = b.arena.room; ops = b.ops; cells = b.cells }

-- b is lent what a was
abbrev pub LentAs : Builder → Builder → Type 0
LentAs a b =
    arena.LentAs a.arena b.arena × (b.nums.ghost_name ≡ a.nums.ghost_name) × (b.biases.ghost_name ≡ a.biases.ghost_name)
    × (length b.nums.now ≡ length a.nums.now) × (length b.biases.now ≡ length a.biases.now)

-- an operation took a to b and made f, and left what o says
pub record Makes (a b : Builder) (f : Form) (o : Ended) : Type 0 where
  pub lent : LentAs a b
  pub made : kept (memory b) (standing b) f ≡ o

-- the same where no form is answered
pub record Leaves (a b : Builder) (o : Stood) : Type 0 where
  pub lent : LentAs a b
  pub left : stood (memory b) (standing b) ≡ o
