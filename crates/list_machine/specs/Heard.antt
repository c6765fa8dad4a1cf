-- The listing program over its input as it comes, piece after piece: what it prints in all. Definitions only.
use Rattle.std.specs.Prelude.{ℕ, zero, suc, ◌+◌, true, false, List, [], ◌∷◌, ◌++◌, eqb, length, drop}
use Rattle.tick_check.specs.Check.{Stored, stored}
use Rattle.list_text.specs.Line.{bad_line}
use Rattle.list_rows.specs.Rows.{Kept, rows_of}
use Rattle.list_rows.specs.Listing.{at_first}
use Rattle.list_machine.specs.Begin.{Rooms, begin_of}

-- the pieces as one
unfoldable pub joined : List (List ℕ) → List ℕ
joined [] = []
joined (piece ∷ pieces) = piece ++ joined pieces

-- turns that are enough: one for each byte, one for each piece
unfoldable pub turns : List (List ℕ) → ℕ
turns [] = 0
turns (piece ∷ pieces) = suc (length piece + turns pieces)

-- at the end of the input: "an outer record cut short .. prints `bad record`"
unfoldable pub ended_line : List ℕ → List ℕ
ended_line [] = []
ended_line (byte ∷ bytes) = bad_line

-- rows: the bytes at hand are run over; where no record of them is whole, the next piece is read
unfoldable pub rows_heard : ℕ → Stored → ℕ → List ℕ → List (List ℕ) → ℕ → Kept → List ℕ
rows_heard zero s room bytes pieces number k = []
rows_heard (suc fuel) s room bytes pieces number k =
    let r = rows_of s room bytes 0 number k in
    r.text ++ elim r.ended [
      | true ↦ []
      | false ↦ elim (eqb r.read 0) [
        | false ↦ rows_heard fuel s room (drop r.read bytes) pieces r.number r.kept
        | true ↦ elim pieces [
          | [] ↦ ended_line bytes
          | piece ∷ rest ↦ rows_heard fuel s room (bytes ++ piece) rest r.number r.kept
        ]
      ]
    ]

-- the tree, then rows: with so much room for lines, in these rooms
unfoldable pub heard : ℕ → Rooms → ℕ → List ℕ → List (List ℕ) → List ℕ
heard zero m room bytes pieces = []
heard (suc fuel) m room bytes pieces =
    let b = begin_of m bytes in
    elim b.ended [
      | true ↦ b.text
      | false ↦ elim b.goes [
        | true ↦ rows_heard fuel (stored b.counts b.left.nums b.left.biases b.left.wires b.left.coefs) room (drop b.read bytes) pieces 0 (at_first b.counts)
        | false ↦ elim pieces [ [] ↦ bad_line | piece ∷ rest ↦ heard fuel m room (bytes ++ piece) rest ]
      ]
    ]
