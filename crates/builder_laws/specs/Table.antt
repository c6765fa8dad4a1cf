-- What the lent memory stands for, and how operations are followed by whoever calls them: which ops the table holds, that what stands below stays, and
-- how much room is enough. Inner: the shape of the code; nobody need believe it.
use Rattle.std.specs.Prelude.{ℕ, ◌+◌, ◌*◌, ◌≤◌, ◌<◌, ◌≡◌, List, [], ◌∷◌, true, length}
use Rattle.wire.specs.declared.Form.{Form}
use Rattle.wire.specs.Terms.{Affine}
use Rattle.wire.specs.Storage.{term_slots}
use Rattle.arena_laws.specs.Holds.{Is, Holds, Grows}
use Rattle.construct.specs.Builder.{Op, Out}
use Rattle.builder_table.specs.Work.{Standing, Mem, Ended, loaded}
use Rattle.builder_table.specs.Slots.{ops_from}
use Rattle.builder_table.specs.Whole.{ops_most}

-- the slots of the ops hold the ops' forms; the list has the newest first, as the construction has it
abbrev pub OpsAt : Mem → ℕ → List (Op Affine) → Type 0
OpsAt m used [] = Unit {0}
OpsAt m used (o ∷ os) =
    Is m.wires m.coefs used (loaded m (ops_from + 2 * length os)) o.left
    × Is m.wires m.coefs used (loaded m (ops_from + 2 * length os + 1)) o.gate
    × OpsAt m used os

pub record OpsAre (m : Mem) (b : Standing) (os : List (Op Affine)) : Type 0 where
  pub count : b.ops ≡ length os
  pub all : OpsAt m b.room.used os

-- where all had room so far, the ops made are os
pub record Ops (m : Mem) (b : Standing) (os : List (Op Affine)) : Type 0 where
  pub holds : b.room.ok ≡ true → OpsAre m b os

-- where all had room so far, f stands for x
abbrev pub Stands : Mem → Standing → Form → Affine → Type 0
Stands m b f x = Holds m.wires m.coefs b.room f x

-- the form made, and the ops, are the construction's
pub record Gives (e : Ended) (o : Out Affine) : Type 0 where
  pub form : Stands e.mem e.builder e.form o.form
  pub ops : Ops e.mem e.builder o.ops

-- the arena grows, lengths stay, and so do the slots below the ops
pub record Grown (m : Mem) (b : Standing) (m' : Mem) (b' : Standing) : Type 0 where
  pub arena : Grows m.wires m.coefs b.room m'.wires m'.coefs b'.room
  pub nums : length m'.nums ≡ length m.nums
  pub biases : length m'.biases ≡ length m.biases
  pub slots : (k : ℕ) → k < ops_from → loaded m' k ≡ loaded m k
  pub cells : b'.cells ≡ b.cells

-- with room for `need` more terms and k more ops the flag stays up, and no more is used
pub record Lasts (m : Mem) (b b' : Standing) (need k : ℕ) : Type 0 where
  pub lasts : b.room.ok ≡ true → b.cells < 65536 → b.ops + k ≤ ops_most → b.room.used + need ≤ term_slots (length m.wires) (length m.coefs)
      → (b'.room.ok ≡ true) × (b'.room.used ≤ b.room.used + need) × (b'.ops ≤ b.ops + k)
