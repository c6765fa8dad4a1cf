-- What the program writes of all that a reader has: where that is a tree and valid rows, the lines of the direct walk.
use Rattle.std.proofs.Common.{◌≡◌, List, ◌++◌, ℕ, Option, Some, None, sym, ap, ◌∙◌, ◌⊎◌, inl, inr, append-nil}
use Rattle.std.specs.Io.KnownBytes.{Consumes, Appends, IsAtEnd}
use Rattle.tree.specs.Forest.{Forest}
use Rattle.tree.specs.Bytes.{Within}
use Rattle.lists.specs.Every.{All}
use Rattle.demands.specs.Demands.{ValidRow}
use Rattle.list_rows.specs.Listing.{listing}
use Rattle.list_turns.specs.Lists.{Lists}
use Rattle.list_laws.specs.Lines.{input_of, lines_of}
use Rattle.list_laws.proofs.Walked.{lists_the_walk}

-- what was read is a part of what there was, and what is to be printed of it is what is to be printed of all
read_all : (due : List ℕ → List ℕ) (all read : List ℕ) (left : Option (List ℕ)) → Consumes (Some all) left read
    → ((more : List ℕ) → due (read ++ more) ≡ due read) ⊎ IsAtEnd left → due read ≡ due all
read_all due all read None c o = absurd c
read_all due all read (Some rest) c (inl same) = sym (ap due c ∙ same rest)
read_all due all read (Some rest) c (inr end) = sym (ap due (c ∙ ap (λ l. read ++ l) end ∙ append-nil read))

held_then : (held text : List ℕ) (holds : Option (List ℕ)) → Appends (Some held) holds text → holds ≡ Some (held ++ text)
held_then held text None w = absurd w
held_then held text (Some now) w = ap Some w

pub writes_all : (due : List ℕ → List ℕ) (all held : List ℕ) {left holds : Option (List ℕ)} → Lists due (Some all) left (Some held) holds
    → holds ≡ Some (held ++ due all)
writes_all due all held {left} {holds} l =
    held_then held (due l.read) holds l.written ∙ ap (λ text. Some (held ++ text)) (read_all due all l.read left l.consumed l.over)

-- THE PROGRAM WRITES THE WALK
pub writes_the_walk : (f : Forest ℕ) → Within f → (rows : List (List ℕ)) → All (ValidRow f) rows → (held : List ℕ) {left holds : Option (List ℕ)}
    → Lists listing (Some (input_of f rows)) left (Some held) holds → holds ≡ Some (held ++ lines_of f rows)
writes_the_walk f w rows valid held l =
    writes_all listing (input_of f rows) held l ∙ ap (λ text. Some (held ++ text)) (lists_the_walk f w rows valid)
