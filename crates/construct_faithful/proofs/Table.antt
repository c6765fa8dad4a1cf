-- The table of values in floats: the input cells, then each op's value appended, in order; "left times max(0, gate)", each sum and product
-- rounded once.
use mathlib.Core.List.{List, [], ◌++◌, ◌∷◌}
use lib.Ieee.{Float, binary32, mul}
use Rattle.construct.specs.Builder.{Op}
use Rattle.exact.specs.Tests.{relu}
use Rattle.wire.specs.Terms.{Affine, value_in}

unfoldable pub float_table : List Float → List (Op Affine) → List Float
float_table table [] = table
float_table table (o ∷ os) = float_table (table ++ (mul binary32 (value_in table o.left) (relu (value_in table o.gate)) ∷ [])) os
