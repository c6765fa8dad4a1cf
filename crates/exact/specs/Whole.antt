-- Whole numbers as floats. A whole number is a difference p - q of two naturals, so that whoever reasons of it stays in ℕ.
-- Definitions only; that floats calculate with them exactly is proved in proofs/Whole.antt.
use Rattle.std.specs.Prelude.{ℕ, ◌+◌, ◌-◌, ◌^◌, ◌≤◌, ltb, Float}
use Rattle.std.specs.Float.{Format, binary32}
use Rattle.std.specs.Float.Ieee.{prec, round, neg, of_bits}

-- |p - q|
abbrev pub dist : ℕ → ℕ → ℕ
dist p q = p - q + (q - p)

-- the float of the format f nearest to p - q: +0 where p is q, and never -0
unfoldable pub diff : Format → ℕ → ℕ → Float
diff f p q = round f (ltb p q) (dist p q) 1

-- p - q is at most 2 ^ prec f in size: 2^24 for an f32. Up to there every whole number is a float.
abbrev pub Within : Format → ℕ → ℕ → Type 0
Within f p q = (p ≤ q + 2 ^ prec f) × (q ≤ p + 2 ^ prec f)

-- ---- the literals 0.0, 1.0, -1.0 and 65535.0, as the code has them

abbrev pub zero32 : Float
zero32 = of_bits binary32 0

abbrev pub one32 : Float
one32 = of_bits binary32 0x3f80_0000

abbrev pub minus_one32 : Float
minus_one32 = neg one32

-- the most that a cursor is read as
abbrev pub cursor_most32 : Float
cursor_most32 = of_bits binary32 0x477f_ff00
