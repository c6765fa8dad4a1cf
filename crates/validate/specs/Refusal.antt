-- The answer of a validation in document 01's numbers. Definitions only.
use Rattle.std.specs.Prelude.{ℕ, Float, Ok, Err}
use Rattle.exact.specs.Whole.{zero32}
use Rattle.tick_verdict.specs.Refusal as broken
use Rattle.validate.specs.declared.ValidateError.TheVariants.{BadCircuit, ShortRoom, Broken}
use Rattle.validate.specs.Validate.{Validated}

-- "Bad circuit gives 17, a table shorter than the circuit gives 14"; a broken invariant is what a tick refuses by 18
abbrev pub number_of : Validated → ℕ
number_of (Ok sound) = 0
number_of (Err BadCircuit) = 17
number_of (Err ShortRoom) = 14
number_of (Err (Broken what)) = 18

-- of a broken invariant the case
abbrev pub case_of : Validated → ℕ
case_of (Ok sound) = 0
case_of (Err BadCircuit) = 0
case_of (Err ShortRoom) = 0
case_of (Err (Broken what)) = broken.case_of what

abbrev pub place_of : Validated → ℕ
place_of (Ok sound) = 0
place_of (Err BadCircuit) = 0
place_of (Err ShortRoom) = 0
place_of (Err (Broken what)) = broken.place_of what

-- the offending float, and 0 where there is none
abbrev pub float_of : Validated → Float
float_of (Ok sound) = zero32
float_of (Err BadCircuit) = zero32
float_of (Err ShortRoom) = zero32
float_of (Err (Broken what)) = broken.float_of what
