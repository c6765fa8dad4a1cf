-- What is seen of structs of lent slices: which slices they are, by the name under which the contents of each are tracked; what they hold; and the other
-- fields. Definitions only.
use Rattle.std.specs.Prelude.{List, ℕ, Float}
use Rattle.std.specs.Borrow.{GName}
use Rattle.arena_room.specs.declared.Room.{Room}
use Rattle.arena.specs.declared.Arena.{Arena}
use Rattle.builder_table.specs.declared.lent.Builder.{Builder}
use Rattle.builder_table.specs.Work.{Stood, stood}
use Rattle.builder_table.specs.Loans.{memory, standing}
use Rattle.wire.specs.declared.storage.Storage.{Storage}
use Rattle.compile.specs.declared.WorkRoom.{WorkRoom}
use Rattle.tick_lane.specs.declared.lent.Lane.{Lane}
use Rattle.tick_lane.specs.Lane.{Lent}
use Rattle.tick_lane.specs.Loans.{lent_in}
use Rattle.list_rows.specs.declared.state.State.{State}
use Rattle.list_rows.specs.Rows.{Kept}
use Rattle.list_rows.specs.Left.{kept_in}

-- the names of four slices
abbrev pub Names : Type 0
Names = GName × (GName × (GName × GName))

-- the two pools, and how much of them is in use
abbrev pub Pooled : Type 0
Pooled = (GName × GName) × (List ℕ × (List Float × Room))

abbrev pub pools : Arena → Pooled
pools a = ((a.wires.ghost_name, a.coefs.ghost_name), (a.wires.now, (a.coefs.now, a.room)))

-- the arena and the table, and where building stands
abbrev pub Built : Type 0
Built = Names × Stood

abbrev pub built : Builder → Built
built b = ((b.arena.wires.ghost_name, (b.arena.coefs.ghost_name, (b.nums.ghost_name, b.biases.ghost_name))), stood (memory b) (standing b))

-- four slices of numbers and floats: what they hold, and with their names
abbrev pub Four : Type 0
Four = List ℕ × (List Float × (List ℕ × List Float))

abbrev pub Held : Type 0
Held = Names × Four

-- a circuit's storage, and a work room
abbrev pub in_storage : Storage → Held
in_storage s =
    ((s.nums.ghost_name, (s.biases.ghost_name, (s.wires.ghost_name, s.coefs.ghost_name))), (s.nums.now, (s.biases.now, (s.wires.now, s.coefs.now))))

abbrev pub in_room : WorkRoom → Held
in_room w =
    ((w.nums.ghost_name, (w.biases.ghost_name, (w.wires.ghost_name, w.coefs.ghost_name))), (w.nums.now, (w.biases.now, (w.wires.now, w.coefs.now))))

-- what a tick is lent
abbrev pub Laid : Type 0
Laid = ((GName × (GName × GName)) × (GName × (GName × GName))) × Lent

abbrev pub in_lane : Lane → Laid
in_lane l = (
  ((l.flags.ghost_name, (l.cursors.ghost_name, l.values.ghost_name)), (l.statuses.ghost_name, (l.halts.ghost_name, l.edges.ghost_name))),
  lent_in l,
)

-- the listing's state
abbrev pub Stated : Type 0
Stated = (GName × (GName × GName)) × Kept

abbrev pub in_state : State → Stated
in_state s = ((s.flags.ghost_name, (s.cursors.ghost_name, s.values.ghost_name)), kept_in s)
