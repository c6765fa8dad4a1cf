-- The listing program's input of a tree and its leaf rows, and the lines of the direct walk. Definitions only.
use Rattle.std.specs.Prelude.{ℕ, ◌+◌, List, [], ◌∷◌, ◌++◌, length, replicate, codes}
use Rattle.tree.specs.Forest.{Forest, size}
use Rattle.tree.specs.Bytes.{u16, bytes_of}
use Rattle.walk.specs.Walk.{cells_in, walk}
use Rattle.list_text.specs.Line.{tick_line}
use Rattle.list_rows.specs.Rows.{row_kind, next_number}
use Rattle.list_rows.specs.Listing.{tree_kind}

-- ---- input

-- "two-byte length (bytes that follow it), two-byte kind, payload; all little-endian"
abbrev pub outer_record : ℕ → List ℕ → List ℕ
outer_record kind payload = u16 (2 + length payload) ++ u16 kind ++ payload

unfoldable pub row_records : List (List ℕ) → List ℕ
row_records [] = []
row_records (row ∷ rows) = outer_record row_kind row ++ row_records rows

-- "one of kind 0x0101 holding the tree, then kind 0x0100 records holding leaf rows"
abbrev pub input_of : Forest ℕ → List (List ℕ) → List ℕ
input_of tree rows = outer_record tree_kind (bytes_of tree) ++ row_records rows

-- ---- output

-- "Each tick prints tick number from 0": a line for each row, each tick from the state that the one before it left
unfoldable pub lines_from : ℕ → Forest ℕ → List ℕ → List ℕ → List (List ℕ) → List ℕ
lines_from number tree flags cursors [] = []
lines_from number tree flags cursors (row ∷ rows) =
    let a = walk tree flags cursors row in
    tick_line number a.statuses a.halts a.cursors a.edges ++ lines_from (next_number number) tree a.flags a.cursors rows

-- "and starts with all flags and cursors 0"
abbrev pub lines_of : Forest ℕ → List (List ℕ) → List ℕ
lines_of tree rows = lines_from 0 tree (replicate (size tree) 0) (replicate (cells_in tree) 0) rows

-- ---- document 01's example

-- "Input, in hex"
abbrev pub example_input : List ℕ
example_input =
    0x10 ∷ 0x00 ∷ 0x01 ∷ 0x01 ∷ 0x04 ∷ 0x00 ∷ 0x04 ∷ 0x00 ∷ 0x02 ∷ 0x00 ∷ 0x02 ∷ 0x00 ∷ 0x01 ∷ 0x00 ∷ 0x02 ∷ 0x00 ∷ 0x01 ∷ 0x00
    ∷ 0x04 ∷ 0x00 ∷ 0x00 ∷ 0x01 ∷ 0x00 ∷ 0x02 ∷ 0x04 ∷ 0x00 ∷ 0x00 ∷ 0x01 ∷ 0x01 ∷ 0x00 ∷ []

-- "Whole output"
abbrev pub example_output : List ℕ
example_output = codes "0 RSR 1 01\n1 S-S 0 02\n"
