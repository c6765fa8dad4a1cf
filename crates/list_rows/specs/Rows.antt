-- What the listing program makes of leaf rows: of one, of the record that stands first, and of all that a buffer holds whole. Definitions only.
use Rattle.std.specs.Prelude.{ℕ, zero, suc, ◌+◌, ◌-◌, ◌%◌, ◌^◌, Bool, true, false, cond, not, List, [], ◌++◌, length, take, drop, replicate, ◌==◌, nat_lt, Float}
use Rattle.tick_check.specs.Check.{Stored}
use Rattle.tick_lane.specs.Lane.{Lent, Outcome, lent, accepted, number_of, place_of}
use Rattle.tick.specs.Tick.{tick_of}
use Rattle.list_text.specs.declared.outer.Outer.{Outer}
use Rattle.list_text.specs.declared.outer.Outer.TheVariants.{Whole, Cut, Bad}
use Rattle.list_text.specs.Line.{line_of, refused_line, bad_line, line_room}
use Rattle.list_text.specs.Outer.{outer_at}

-- what lasts from tick to tick
pub record Kept : Type 0 where
  pub flags : List ℕ
  pub cursors : List ℕ
  pub values : List Float

-- ---- one row: "Each tick prints .."; "A refusal prints `refused NO at PLACE` and ends the run"

pub record Shown : Type 0 where
  pub text : List ℕ
  pub goes : Bool
  pub kept : Kept

-- statuses, halts and edges are written into room of their own
abbrev pub outputs : List ℕ
outputs = replicate 128 0

unfoldable pub ticked_from : Stored → List ℕ → Kept → Outcome
ticked_from s row k = tick_of s row (lent k.flags k.cursors k.values outputs outputs outputs)

abbrev pub kept_of : Lent → Kept
kept_of l = record { flags = l.flags; cursors = l.cursors; values = l.values }

abbrev pub line_after : Stored → ℕ → Lent → List ℕ
line_after s number l =
    line_of number (take s.counts.nodes l.statuses) (take s.counts.nodes l.halts) l.cursors (take s.counts.leaves l.edges)

unfoldable pub text_after : Stored → ℕ → Outcome → List ℕ
text_after s number o = cond (accepted o.answer) (line_after s number o.left) (refused_line (number_of o.answer) (place_of o.answer))

unfoldable pub row_of : Stored → List ℕ → ℕ → Kept → Shown
row_of s row number k =
    let o = ticked_from s row k in record { text = text_after s number o; goes = accepted o.answer; kept = kept_of o.left }

-- ---- the record that stands first in some bytes

-- what is printed, how many bytes are read, the next tick number, whether another record is due, and whether the run has ended
pub record Step : Type 0 where
  pub text : List ℕ
  pub read : ℕ
  pub number : ℕ
  pub goes : Bool
  pub ended : Bool
  pub kept : Kept

-- tick numbers are of 64 bits: no input is so long that they wrap
abbrev pub next_number : ℕ → ℕ
next_number number = (number + 1) % 2 ^ 64

-- "kind 0x0100 records holding leaf rows"
abbrev pub row_kind : ℕ
row_kind = 256

-- the bytes end inside a record: more may come
abbrev pub waits : ℕ → Kept → Step
waits number k = record { text = []; read = 0; number = number; goes = false; ended = false; kept = k }

-- "with length below 2 or not of the kind due .. prints `bad record` and ends the run"
abbrev pub breaks : ℕ → Kept → Step
breaks number k = record { text = bad_line; read = 0; number = number; goes = false; ended = true; kept = k }

abbrev pub shows : ℕ → ℕ → Shown → Step
shows read number o =
    record { text = o.text; read = read; number = next_number number; goes = o.goes; ended = not o.goes; kept = o.kept }

unfoldable pub step_at : Outer → Stored → List ℕ → ℕ → Kept → Step
step_at (Whole kind start end) s bytes number k =
    cond (kind == row_kind) (shows end number (row_of s (take (end - start) (drop start bytes)) number k)) (breaks number k)
step_at Cut s bytes number k = waits number k
step_at Bad s bytes number k = breaks number k

unfoldable pub step_of : Stored → List ℕ → ℕ → Kept → Step
step_of s bytes number k = step_at (outer_at bytes 0) s bytes number k

-- ---- record after record, while there is room for a line more

-- what is printed, how far the bytes are read, the next tick number, whether the run has ended, and what lasts
pub record Run : Type 0 where
  pub text : List ℕ
  pub read : ℕ
  pub number : ℕ
  pub ended : Bool
  pub kept : Kept

abbrev pub stopped : List ℕ → ℕ → ℕ → Bool → Kept → Run
stopped text read number ended k = record { text = text; read = read; number = number; ended = ended; kept = k }

-- with so many bytes of room in all; a record has at least 4 bytes, so fuel above the number of bytes is enough
unfoldable pub rows_from : ℕ → Stored → ℕ → List ℕ → List ℕ → ℕ → ℕ → Kept → Run
rows_from zero s room bytes text read number k = stopped text read number false k
rows_from (suc fuel) s room bytes text read number k =
    let o = step_of s (drop read bytes) number k in
    elim (nat_lt (room - length text) line_room) [
      | true ↦ stopped text read number false k
      | false ↦ elim o.goes [
        | true ↦ rows_from fuel s room bytes (text ++ o.text) (read + o.read) o.number o.kept
        | false ↦ stopped (text ++ o.text) (read + o.read) o.number o.ended o.kept
      ]
    ]

unfoldable pub rows_of : Stored → ℕ → List ℕ → ℕ → ℕ → Kept → Run
rows_of s room bytes from number k = rows_from (suc (length bytes)) s room bytes [] from number k
