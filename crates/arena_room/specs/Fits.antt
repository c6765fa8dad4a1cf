-- Whether an arena has room for an operation: all that was asked so far had room, the forms lie below `used`, and there are slots for the new terms.
-- Inner: the shape of the code; nobody need believe it.
use Rattle.std.specs.Prelude.{ℕ, ◌+◌, Bool, ◌&&◌, leb, ltb}
use Rattle.wire.specs.declared.Form.{Form}
use Rattle.arena_room.specs.declared.Room.{Room}

-- the form's terms are in use
abbrev pub in_use : ℕ → Form → Bool
in_use used f = leb (f.first + f.len) used

abbrev pub single_fits : ℕ → Room → Bool
single_fits slots room = room.ok && ltb room.used slots

-- there is room for as many terms as the two forms have
abbrev pub fits_sum : ℕ → Room → Form → Form → Bool
fits_sum slots room a b =
    room.ok && (in_use room.used a && (in_use room.used b && leb (room.used + a.len + b.len) slots))

abbrev pub fits_scaled : ℕ → Room → Form → Bool
fits_scaled slots room a = room.ok && (in_use room.used a && leb (room.used + a.len) slots)
