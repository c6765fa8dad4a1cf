-- Document 01's example of the listing program: a Sequence of two leaves, and two rows.
use Rattle.std.proofs.Common.{◌≡◌, List, [], ◌∷◌, ℕ, refl, ◌∙◌, ap, arith}
use Rattle.tree_kinds.specs.Kinds.{rows, row_of}
use Rattle.text.specs.Text.{decimal_in, decimal}
use Rattle.lists.specs.Every.{All}
use Rattle.walk.specs.Kind.{kind_of}
use Rattle.walk.specs.Walk.{walk}
use Rattle.walk.specs.Cards.{sequence}
use Rattle.demands.specs.Demands.{ValidRow}
use Rattle.list_text.specs.Line.{mark, marks, more, cursor_field, edge_field, front, tick_line}
use Rattle.list_rows.specs.Listing.{listing}
use Rattle.cards.proofs.Cards.{sequence_within}
use Rattle.list_laws.specs.Lines.{row_records, input_of, lines_from, lines_of, example_input, example_output}
use Rattle.list_laws.proofs.Walked.{lists_the_walk}

abbrev example_rows : List (List ℕ)
example_rows = (0 ∷ 2 ∷ []) ∷ (1 ∷ 0 ∷ []) ∷ []

valid : All (ValidRow sequence) example_rows
unfolding kind_of
valid = (
  record { long = refl; low = (omega arith, (omega arith, tt)) },
  (record { long = refl; low = (omega arith, (omega arith, tt)) }, tt),
)

input : example_input ≡ input_of sequence example_rows
unfolding row_of rows row_records
input = refl

output : lines_of sequence example_rows ≡ example_output
unfolding lines_from kind_of walk mark marks more cursor_field edge_field front tick_line decimal_in decimal
output = refl

pub example : listing example_input ≡ example_output
example = ap listing input ∙ lists_the_walk sequence sequence_within example_rows valid ∙ output
