-- What the functions leave, against what the definitions say. Inner: the shape of the code; nobody need believe it.
use Rattle.std.specs.Prelude.{◌≡◌, ℕ, Bool, true, false, not, take, List, length, Float}
use Rattle.text.specs.Text.{placed}
use Rattle.wire.specs.declared.Counts.{Counts}
use Rattle.tick_lane.specs.Lane.{Lent, lent}
use Rattle.list_text.specs.Line.{line_of}
use Rattle.list_rows.specs.declared.state.State.{State}
use Rattle.list_rows.specs.declared.state.Next.{Next}
use Rattle.list_rows.specs.declared.state.Next.TheVariants.{Goes, Waits, Ended}
use Rattle.list_rows.specs.declared.row.Outputs.{Outputs}
use Rattle.list_rows.specs.declared.row.Row as row
use Rattle.list_rows.specs.declared.rows.Step as step
use Rattle.list_rows.specs.declared.rows.Run as run
use Rattle.list_rows.specs.Rows.{Kept, Shown, outputs, Step, Run}

abbrev pub kept : List ℕ → List ℕ → List Float → Kept
kept flags cursors values = record { flags = flags; cursors = cursors; values = values }

-- what a state holds
abbrev pub kept_in : State → Kept
kept_in s = kept s.flags.now s.cursors.now s.values.now

abbrev pub no_outputs : Outputs
no_outputs = record { statuses = outputs; halts = outputs; edges = outputs }

-- that and room for a tick's outputs
abbrev pub with_outputs : Kept → Outputs → Lent
with_outputs k o = lent k.flags k.cursors k.values o.statuses o.halts o.edges

-- the line of as many nodes and leaves as a circuit has
abbrev pub line_within : Counts → ℕ → Lent → List ℕ
line_within n number l = line_of number (take n.nodes l.statuses) (take n.nodes l.halts) l.cursors (take n.leaves l.edges)

-- b is lent what a was
pub record LentAs (a b : State) : Type 0 where
  pub flags : b.flags.ghost_name ≡ a.flags.ghost_name
  pub cursors : b.cursors.ghost_name ≡ a.cursors.ghost_name
  pub values : b.values.ghost_name ≡ a.values.ghost_name
  pub flags_len : length b.flags.now ≡ length a.flags.now
  pub cursors_len : length b.cursors.now ≡ length a.cursors.now
  pub values_len : length b.values.now ≡ length a.values.now

-- what follows, of whether another record is due and whether the run has ended
abbrev pub next_of : Bool → Bool → Next
next_of true ended = Goes
next_of false true = Ended
next_of false false = Waits

pub record RowLeft (o : Shown) (out : List ℕ) (r : row.Row) (k : Kept) (out' : List ℕ) : Type 0 where
  pub wrote_is : r.wrote ≡ length o.text
  pub next_is : r.next ≡ next_of o.goes (not o.goes)
  pub kept_is : k ≡ o.kept
  pub out_is : out' ≡ placed o.text out

pub record StepLeft (o : Step) (out : List ℕ) (r : step.Step) (k : Kept) (out' : List ℕ) : Type 0 where
  pub read_is : r.read ≡ o.read
  pub wrote_is : r.wrote ≡ length o.text
  pub number_is : r.number ≡ o.number
  pub next_is : r.next ≡ next_of o.goes o.ended
  pub kept_is : k ≡ o.kept
  pub out_is : out' ≡ placed o.text out

pub record RunLeft (o : Run) (out : List ℕ) (r : run.Run) (k : Kept) (out' : List ℕ) : Type 0 where
  pub read_is : r.read ≡ o.read
  pub wrote_is : r.wrote ≡ length o.text
  pub number_is : r.number ≡ o.number
  pub ended_is : r.ended ≡ o.ended
  pub kept_is : k ≡ o.kept
  pub out_is : out' ≡ placed o.text out
