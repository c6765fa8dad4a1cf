-- Some refusals' lines, by computation: rows of one table under one statement.
use Rattle.std.proofs.Common.{codes, ◌≡◌, refl, List, [], ◌∷◌}
use Prim.Native.String.{String}
use Rattle.tree_kinds.specs.Kinds.{rows, row_of}
use Rattle.tree_record.specs.declared.refusal.Cause.TheVariants.{Truncated, Unsupported, TooManyNodes, ShortRoom}
use Rattle.tree_record.specs.declared.refusal.Refusal.{Refusal}
use Rattle.text.specs.Text.{decimal_in, decimal}
use Rattle.refusal.specs.Line.{heading, line_of}

pub record Card : Type 0 where
  pub refusal : Refusal
  pub line : String

pub cards : List Card
cards =
    record { refusal = record { cause = Unsupported 11; place = 0 }; line = "refused 4 at 0: Sleep is never lowered" } ∷
    record { refusal = record { cause = Unsupported 18; place = 127 }; line = "refused 4 at 127: KeepRunningUntilFailure is never lowered" } ∷
    record { refusal = record { cause = Truncated; place = 3 }; line = "refused 1 at 3: the bytes end inside a record" } ∷
    record { refusal = record { cause = TooManyNodes; place = 18446744073709551615 }; line = "refused 7 at 18446744073709551615: there are more than 128 nodes" } ∷
    record { refusal = record { cause = ShortRoom; place = 0 }; line = "refused 14 at 0: the room lent is too short" } ∷
    []

abbrev pub Hold : List Card → Type 0
Hold [] = Unit {0}
Hold (card ∷ more) = (line_of card.refusal ≡ codes card.line) × Hold more

pub cards_hold : Hold cards
unfolding cards line_of heading decimal decimal_in row_of rows
cards_hold = (refl, (refl, (refl, (refl, (refl, tt)))))
