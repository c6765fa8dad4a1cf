-- Text as bytes: decimal numbers, a part appended to a line, a line put into a buffer. Definitions only.
use Rattle.std.specs.Prelude.{ℕ, zero, suc, ◌+◌, ◌/◌, ◌%◌, ◌≡◌, true, false, cond, List, [], ◌∷◌, ◌++◌, leb, ltb, length, take, drop}

-- a number's decimal digits; 20 of them hold every number below 2^64
unfoldable pub decimal_in : ℕ → ℕ → List ℕ
decimal_in zero n = []
decimal_in (suc digits) n =
    elim (ltb n 10) [ true ↦ (48 + n) ∷ [] | false ↦ decimal_in digits (n / 10) ++ (48 + n % 10) ∷ [] ]

unfoldable pub decimal : ℕ → List ℕ
decimal n = decimal_in 20 n

-- the line at the front of a buffer that has room for it; one that has not stays as it was
abbrev pub placed : List ℕ → List ℕ → List ℕ
placed line buffer = cond (leb (length line) (length buffer)) (line ++ drop (length line) buffer) buffer

-- what `append` leaves: the part after what stood before the position, and the rest of the line as it was
pub record Appended (before : List ℕ) (at : ℕ) (part after : List ℕ) (end : ℕ) : Type 0 where
  pub next : end ≡ at + length part
  pub text : take end after ≡ take at before ++ part
  pub rest : drop end after ≡ drop end before
