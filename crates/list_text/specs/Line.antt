-- The lines that the listing program prints, as bytes. Definitions only.
use Rattle.std.specs.Prelude.{ℕ, ◌+◌, ◌%◌, Bool, cond, ◌&&◌, List, [], ◌∷◌, ◌++◌, map, eqb, leb, length, codes}
use Rattle.text.specs.Text.{decimal}
use Rattle.list_text.specs.declared.TickLine.{TickLine}

-- "one character a node (S, F, R, `h` halted, `-` neither)", of its status and of whether it was halted
unfoldable pub mark : ℕ → ℕ → ℕ
mark status halt = cond (eqb status 0) 83 (cond (eqb status 1) 70 (cond (eqb status 2) 82 (cond (eqb halt 0) 45 104)))

-- a node past the end of the halts was not halted
unfoldable pub marks : List ℕ → List ℕ → List ℕ
unfolding mark
marks [] halts = []
marks (status ∷ statuses) [] = mark status 0 ∷ marks statuses []
marks (status ∷ statuses) (halt ∷ halts) = mark status halt ∷ marks statuses halts

-- a comma and a number, again and again
unfoldable pub more : List ℕ → List ℕ
more [] = []
more (cursor ∷ cursors) = codes "," ++ decimal cursor ++ more cursors

-- "cursors joined by commas, or `-` if there are none"
unfoldable pub cursor_field : List ℕ → List ℕ
cursor_field [] = codes "-"
cursor_field (cursor ∷ cursors) = decimal cursor ++ more cursors

-- an edge is 0, 1 or 2; of any other number, its last digit
abbrev pub digit : ℕ → ℕ
digit edge = 48 + edge % 10

-- "one edge digit a leaf, or `-`"
unfoldable pub edge_field : List ℕ → List ℕ
edge_field [] = codes "-"
edge_field (edge ∷ edges) = map digit (edge ∷ edges)

unfoldable pub front : ℕ → List ℕ → List ℕ → List ℕ
front number statuses halts = decimal number ++ codes " " ++ marks statuses halts ++ codes " "

-- "Each tick prints tick number from 0; .. Fields are parted by one space."
unfoldable pub tick_line : ℕ → List ℕ → List ℕ → List ℕ → List ℕ → List ℕ
tick_line number statuses halts cursors edges =
    front number statuses halts ++ cursor_field cursors ++ codes " " ++ edge_field edges ++ codes "\n"

-- a tree has at most 128 nodes, and so no more cursors or leaves; of longer lists there is no line
abbrev pub most : ℕ
most = 128

abbrev pub listable : List ℕ → List ℕ → List ℕ → Bool
listable statuses cursors edges = leb (length statuses) most && (leb (length cursors) most && leb (length edges) most)

unfoldable pub line_of : ℕ → List ℕ → List ℕ → List ℕ → List ℕ → List ℕ
line_of number statuses halts cursors edges = cond (listable statuses cursors edges) (tick_line number statuses halts cursors edges) []

-- the same of what code holds
abbrev pub shown : TickLine → List ℕ
shown t = tick_line t.number t.statuses.now t.halts.now t.cursors.now t.edges.now

abbrev pub line_in : TickLine → List ℕ
line_in t = line_of t.number t.statuses.now t.halts.now t.cursors.now t.edges.now

-- "A refusal prints `refused NO at PLACE`"
unfoldable pub refused_line : ℕ → ℕ → List ℕ
refused_line number place = codes "refused " ++ decimal number ++ codes " at " ++ decimal place ++ codes "\n"

-- "prints `bad record`"
abbrev pub bad_line : List ℕ
bad_line = codes "bad record\n"

-- Room that any line fits into: 20 digits, 128 marks, 128 cursors of at most 20 digits with a comma each, 128 edges, three spaces and the line
-- feed are 2,968 bytes.
abbrev pub line_room : ℕ
line_room = 3072
