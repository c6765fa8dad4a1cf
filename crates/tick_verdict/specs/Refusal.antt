-- A broken invariant in document 01's numbers: the case, its place, and the offending float. Definitions only.
use Rattle.std.specs.Prelude.{ℕ, Float}
use Rattle.tick_verdict.specs.declared.InvariantError.{InvariantError}
use Rattle.tick_verdict.specs.declared.InvariantError.TheVariants.{NotABit, NotOneHot, BadCursor}

-- 1 not a bit, 2 not one hot, 3 bad cursor
abbrev pub case_of : InvariantError → ℕ
case_of (NotABit node x) = 1
case_of (NotOneHot node x) = 2
case_of (BadCursor cell x) = 3

abbrev pub place_of : InvariantError → ℕ
place_of (NotABit node x) = node.0
place_of (NotOneHot node x) = node.0
place_of (BadCursor cell x) = cell.0

abbrev pub float_of : InvariantError → Float
float_of (NotABit node x) = x
float_of (NotOneHot node x) = x
float_of (BadCursor cell x) = x
