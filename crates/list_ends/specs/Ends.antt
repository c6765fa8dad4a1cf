-- The listing program's buffer: what is still to be read moves to the front, and what the end of the input prints. Definitions only.
use Rattle.std.specs.Prelude.{ℕ, zero, suc, cond, List, [], leb, length, slice_range}
use Rattle.list_text.specs.Line.{bad_line}

-- at the end of the input, with so many bytes left: "an outer record cut short .. prints `bad record`"
unfoldable pub last_line : ℕ → List ℕ
last_line zero = []
last_line (suc left) = bad_line

-- the bytes between two positions; none where the second lies past the end
abbrev pub unread : List ℕ → ℕ → ℕ → List ℕ
unread buffer from have = cond (leb have (length buffer)) (slice_range buffer from have) []
