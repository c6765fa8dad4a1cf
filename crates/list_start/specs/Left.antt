-- What the front of the input leaves, against what the definition says. Definitions only.
use Rattle.std.specs.Prelude.{ℕ, ◌≡◌, Bool, true, false, List, length}
use Rattle.wire.specs.declared.Counts.{Counts}
use Rattle.wire.specs.declared.storage.Storage.{Storage}
use Rattle.compile.specs.declared.WorkRoom.{WorkRoom}
use Rattle.text.specs.Text.{placed}
use Rattle.list_machine.specs.Begin.{Rooms, rooms, Began}
use Rattle.list_start.specs.declared.Due.{Due}
use Rattle.list_start.specs.declared.Due.TheVariants.{Rows, More, Nothing}
use Rattle.list_start.specs.declared.Begun.{Begun}

-- what circuit storage and a work room hold
abbrev pub rooms_in : Storage → WorkRoom → Rooms
rooms_in s w =
    rooms s.nums.now s.biases.now s.wires.now s.coefs.now w.nums.now w.biases.now w.wires.now w.coefs.now

-- what is due, of whether rows are due and whether the run has ended
abbrev pub due_of : Bool → Bool → Counts → Due
due_of true ended counts = Rows counts
due_of false true counts = Nothing
due_of false false counts = More

pub record BeginLeft (b : Began) (out : List ℕ) (r : Begun) (left : Rooms) (out' : List ℕ) : Type 0 where
  pub read_is : r.read ≡ b.read
  pub wrote_is : r.wrote ≡ length b.text
  pub due_is : r.due ≡ due_of b.goes b.ended b.counts
  pub left_is : left ≡ b.left
  pub out_is : out' ≡ placed b.text out
