-- The algebra's small numbers are the literals that code has.
use mathlib.Core.Path.{◌≡◌, refl}
use lib.Ieee.{sub, add, neg, round, of_bits}
use Rattle.exact.specs.Whole.{diff, zero32, one32, minus_one32}
use Rattle.construct_floats.specs.Floats.{number, difference}

pub number_zero : number 0 ≡ zero32
unfolding diff round of_bits
number_zero = refl

pub number_one : number 1 ≡ one32
unfolding diff round of_bits
number_one = refl

pub difference_one : difference 1 0 ≡ one32
unfolding diff round of_bits sub add neg
difference_one = refl

pub difference_minus_one : difference 0 1 ≡ minus_one32
unfolding diff round of_bits sub add neg
difference_minus_one = refl
