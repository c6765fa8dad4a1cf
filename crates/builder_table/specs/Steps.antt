-- The operations of the arena, and the making of an op, on all that is lent. Inner: the shape of the code; nobody need believe it.
use Rattle.std.specs.Prelude.{ℕ, ◌+◌, ◌*◌, false, cond, leb, Float}
use Rattle.exact.specs.Whole.{zero32}
use Rattle.wire.specs.declared.Form.{Form}
use Rattle.wire.specs.Terms.{constant_form}
use Rattle.arena_room.specs.declared.Room.{Room}
use Rattle.arena.specs.Arena as A
use Rattle.builder_table.specs.Slots.{ops_from}
use Rattle.builder_table.specs.Whole.{ops_most}
use Rattle.builder_table.specs.Work.{Mem, mem, Standing, Ended, kept, saved}

abbrev pub with_room : Standing → Room → Standing
with_room b room = record { room = room; ops = b.ops; cells = b.cells }

-- an operation of the arena leaves the table as it is
abbrev pub in_arena : Mem → Standing → A.Outcome → Ended
in_arena m b o = kept (mem o.wires o.coefs m.nums m.biases) (with_room b o.room) o.form

unfoldable pub wire_in : Mem → Standing → ℕ → Ended
wire_in m b w = in_arena m b (A.single_in m.wires m.coefs b.room w)

unfoldable pub plus_in : Mem → Standing → Form → Form → Ended
plus_in m b f g = in_arena m b (A.plus_in m.wires m.coefs b.room f g)

unfoldable pub scaled_in : Mem → Standing → Form → Float → Ended
scaled_in m b f factor = in_arena m b (A.scaled_in m.wires m.coefs b.room f factor)

unfoldable pub one_minus_in : Mem → Standing → Form → Ended
one_minus_in m b f = in_arena m b (A.one_minus_in m.wires m.coefs b.room f)

-- there is no slot for the op: nothing is written, and the flag falls
abbrev pub full_form : Form
full_form = constant_form zero32

abbrev pub full_builder : Standing → Standing
full_builder b = with_room b (record { used = b.room.used; ok = false })

abbrev pub full_in : Mem → Standing → Ended
full_in m b = kept m (full_builder b) full_form

-- `push`: an op's two forms are saved, and the answer is its wire: "Ops follow" the cells
unfoldable pub push_in : Mem → Standing → Form → Form → Ended
push_in m b left gate =
    cond (leb ops_most b.ops)
    (full_in m b)
    (cond (leb 65536 b.cells)
    (full_in m b)
    (wire_in (saved (saved m (ops_from + 2 * b.ops) left) (ops_from + 2 * b.ops + 1) gate)
    (record { room = b.room; ops = b.ops + 1; cells = b.cells }) (b.cells + b.ops)))
