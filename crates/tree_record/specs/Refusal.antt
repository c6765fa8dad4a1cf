-- Document 01's number and kind of each refusal of compiling. Definitions only.
use Rattle.std.specs.Prelude.{ℕ}
use Rattle.tree_record.specs.declared.refusal.Cause.{Cause}
use Rattle.tree_record.specs.declared.refusal.Cause.TheVariants.{Truncated, BadLength, BadKind, Unsupported, EmptyComposite, TooDeep, TooManyNodes, Trailing, NoOpRoom, NoTermRoom, ShortRoom}

abbrev pub number_of : Cause → ℕ
number_of Truncated = 1
number_of BadLength = 2
number_of BadKind = 3
number_of (Unsupported kind) = 4
number_of EmptyComposite = 5
number_of TooDeep = 6
number_of TooManyNodes = 7
number_of Trailing = 8
number_of NoOpRoom = 9
number_of NoTermRoom = 10
number_of ShortRoom = 14

-- the kind that 4 carries, and 0 beside any other number
abbrev pub kind_of : Cause → ℕ
kind_of (Unsupported kind) = kind
kind_of _ = 0
