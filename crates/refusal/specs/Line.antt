-- A refusal as a line of text: `refused 4 at 0: Sleep is never lowered`.
use Rattle.std.specs.Prelude.{ℕ, List, [], ◌++◌, codes}
use Rattle.std.specs.Option.{option_map_or}
use Rattle.tree_kinds.specs.Kinds.{Entry, row_of}
use Rattle.text.specs.Text.{decimal}
use Rattle.tree_record.specs.declared.refusal.Cause.{Cause}
use Rattle.tree_record.specs.declared.refusal.Cause.TheVariants.{Truncated, BadLength, BadKind, Unsupported, EmptyComposite, TooDeep, TooManyNodes, Trailing, NoOpRoom, NoTermRoom, ShortRoom}
use Rattle.tree_record.specs.declared.refusal.Refusal.{Refusal}
use Rattle.tree_record.specs.Refusal.{number_of, kind_of}

-- the words for each cause
abbrev pub sentence : Cause → List ℕ
sentence Truncated = codes "the bytes end inside a record"
sentence BadLength = codes "a record's length is wrong"
sentence BadKind = codes "there is no such kind"
sentence (Unsupported kind) = codes " is never lowered"
sentence EmptyComposite = codes "a composite has no children"
sentence TooDeep = codes "there are more than 16 levels"
sentence TooManyNodes = codes "there are more than 128 nodes"
sentence Trailing = codes "bytes follow the tree"
sentence NoOpRoom = codes "the op slots are too few"
sentence NoTermRoom = codes "the term slots are too few"
sentence ShortRoom = codes "the room lent is too short"

-- before them, for 4, the kind's name out of the table; any other cause has kind 0, which has no row
abbrev pub name_of : ℕ → List ℕ
name_of kind = option_map_or (λ (row : Entry). row.name) (row_of kind) []

-- `refused NO at PLACE: `
unfoldable pub heading : ℕ → ℕ → List ℕ
heading number place = codes "refused " ++ decimal number ++ codes " at " ++ decimal place ++ codes ": "

unfoldable pub line_of : Refusal → List ℕ
line_of refusal =
    heading (number_of refusal.cause) refusal.place ++ name_of (kind_of refusal.cause) ++ sentence refusal.cause
