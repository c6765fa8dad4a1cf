-- The end of the input, and bytes that move to the front.
use Rattle.std.proofs.Common.{◌≡◌, ℕ, List, [], ◌∷◌, length, refl}
use Rattle.list_machine.specs.Heard.{ended_line}
use Rattle.list_ends.specs.Ends.{last_line}

-- it is the number of bytes left that decides
pub end_line : (bytes : List ℕ) → ended_line bytes ≡ last_line (length bytes)
unfolding ended_line last_line
end_line [] = refl
end_line (byte ∷ bytes) = refl
