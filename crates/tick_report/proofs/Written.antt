-- A list that was written from a slice's start on can be read back there.
use Rattle.std.proofs.Common.{◌≡◌, ℕ, ◌≤◌, List, length, take, arith}
use Rattle.std.proofs.lemmas.List.Edits.{sets, sets-eq}
use Rattle.std.proofs.lemmas.Grind.{common_steps}

pub written_part : (out list : List ℕ) (n : ℕ) → n ≡ length list → n ≤ length out → take n (sets out 0 list) ≡ list
written_part out list n e h = grind (arith, common_steps, sets-eq list out 0 (omega arith))
