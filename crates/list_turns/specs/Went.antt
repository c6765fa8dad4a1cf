-- What was read and what was written so far. Inner: how far the code has come; nobody need believe it.
use Rattle.std.specs.Prelude.{ℕ, ◌≡◌, ◌≤◌, List, ◌++◌, Option, length, slice_range, []}
use Rattle.std.specs.Io.KnownBytes.{Consumes, Appends, IsAtEnd}
use Rattle.tick_check.specs.Check.{Stored}
use Rattle.list_rows.specs.declared.Run as run
use Rattle.list_rows.specs.Rows.{Kept, Run}
use Rattle.list_rows.specs.Listing.{rest_of}
use Rattle.list_machine.specs.Begin.{Rooms, Began}
use Rattle.list_start.specs.declared.Begun as begun
use Rattle.list_start.specs.Left.{due_of}
use Rattle.list_turns.specs.declared.rows.Turn.{Turn}

-- Some bytes were read and some of their text was written; this much is still to be printed.
pub record Goes (due due' : List ℕ → List ℕ) (had left held holds : Option (List ℕ)) : Type 0 where
  pub read : List ℕ
  pub text : List ℕ
  pub consumed : Consumes had left read
  pub written : Appends held holds text
  pub same : (more : List ℕ) → due (read ++ more) ≡ text ++ due' more

-- rows are due, of which these bytes are there
abbrev pub rows_due : Stored → List ℕ → ℕ → Kept → List ℕ → List ℕ
rows_due s bytes number k more = rest_of s (bytes ++ more) number k

-- the bytes that are not listed yet
abbrev pub unread_in : List ℕ → Turn → List ℕ
unread_in buffer t = slice_range buffer t.at t.end

abbrev pub Inside : List ℕ → Turn → Type 0
Inside buffer t = (t.at ≤ t.end) × (t.end ≤ length buffer)

abbrev pub turn_due : Stored → List ℕ → Turn → Kept → List ℕ → List ℕ
turn_due s buffer t k = rows_due s (unread_in buffer t) t.number k

-- nothing was read, since nothing is left
abbrev pub NoneLeft : Option (List ℕ) → Option (List ℕ) → Type 0
NoneLeft had left = Consumes had left [] × IsAtEnd left

-- some bytes were read, and stand behind those that were there
pub record Grown (had left : Option (List ℕ)) (before after : List ℕ) : Type 0 where
  pub read : List ℕ
  pub consumed : Consumes had left read
  pub grown : after ≡ before ++ read

-- what a run over the bytes that are there leaves, with its text written
pub record RowsLeft (o : Run) (r : run.Run) (k : Kept) (held holds : Option (List ℕ)) : Type 0 where
  pub read_is : r.read ≡ o.read
  pub number_is : r.number ≡ o.number
  pub ended_is : r.ended ≡ o.ended
  pub kept_is : k ≡ o.kept
  pub written : Appends held holds o.text

-- what the front of the input leaves, with its text written
pub record Begins (b : Began) (r : begun.Begun) (left : Rooms) (held holds : Option (List ℕ)) : Type 0 where
  pub read_is : r.read ≡ b.read
  pub due_is : r.due ≡ due_of b.goes b.ended b.counts
  pub left_is : left ≡ b.left
  pub written : Appends held holds b.text
