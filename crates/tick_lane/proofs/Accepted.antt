-- An answer by its number.
use Rattle.std.proofs.Common.{◌≡◌, Ok, Err, eqb, refl}
use Rattle.tick_lane.specs.declared.TickError.TheVariants as is
use Rattle.tick_lane.specs.Lane.{Ticked, number_of, accepted}

pub accepted_number : (t : Ticked) → accepted t ≡ eqb (number_of t) 0
accepted_number (Ok done) = refl
accepted_number (Err is.BadCircuit) = refl
accepted_number (Err (is.LeafCount given)) = refl
accepted_number (Err (is.StateShape given)) = refl
accepted_number (Err (is.CursorCount given)) = refl
accepted_number (Err is.ShortRoom) = refl
accepted_number (Err (is.BadStatus slot)) = refl
accepted_number (Err (is.BadFlag node)) = refl
accepted_number (Err (is.BadInvariant what)) = refl
