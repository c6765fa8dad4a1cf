-- However a tree and valid rows come in pieces, the program's machine prints the lines of the direct walk.
use Rattle.std.proofs.Common.{◌≡◌, List, [], ℕ, ◌+◌, ◌≤◌, ◌<◌, ◌∙◌, ap}
use Rattle.tree.specs.Forest.{Forest}
use Rattle.tree.specs.Bytes.{Within}
use Rattle.lists.specs.Every.{All}
use Rattle.demands.specs.Demands.{ValidRow}
use Rattle.list_text.specs.Line.{line_room}
use Rattle.list_rows.specs.Listing.{storage_lent, listing}
use Rattle.list_machine.specs.Begin.{Rooms, lengths_of}
use Rattle.list_machine.specs.Heard.{joined, turns, heard}
use Rattle.list_machine.proofs.Heard.{all_heard}
use Rattle.list_laws.specs.Lines.{input_of, lines_of}
use Rattle.list_laws.proofs.Walked.{lists_the_walk}

pub prints_the_walk : (m : Rooms) → lengths_of m ≡ storage_lent → (room : ℕ) → line_room ≤ room
    → (f : Forest ℕ) → Within f → (rows : List (List ℕ)) → All (ValidRow f) rows
    → (pieces : List (List ℕ)) → joined pieces ≡ input_of f rows → (fuel : ℕ) → turns pieces + 1 < fuel → heard fuel m room [] pieces ≡ lines_of f rows
prints_the_walk m lent room wide f w rows valid pieces e fuel enough =
    all_heard m lent room wide fuel pieces enough ∙ ap listing e ∙ lists_the_walk f w rows valid
