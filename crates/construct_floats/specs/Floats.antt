-- The instance of the construction's algebra that compiled code makes: "A form is a bias and weighted wires ..; its bias and coefficients are f32."
-- Each operation is wire.rs's, with each sum and product rounded once. Definitions only.
use Rattle.std.specs.Prelude.{ℕ, List, [], ◌∷◌, Bool, true, false, length, Float}
use Rattle.std.specs.Float.{binary32}
use Rattle.std.specs.Float.Ieee.{sub, eq, le}
use Rattle.exact.specs.Whole.{diff, zero32, minus_one32}
use Rattle.wire.specs.declared.Term.{Term}
use Rattle.wire.specs.Terms.{Affine}
use Rattle.arena_terms.specs.Sums.{constant, single, offset, scaled, plus}
use Rattle.construct.specs.Forms.{Known, No, Yes, Open, Forms}

-- the float of a natural number, as a cast gives it
abbrev pub number : ℕ → Float
number k = diff binary32 k 0

-- the float of p - n, as code calculates it from the two
abbrev pub difference : ℕ → ℕ → Float
difference p n = sub binary32 (number p) (number n)

unfoldable pub empty : List Term → Bool
empty [] = true
empty (t ∷ ts) = false

-- `as_constant`, by whether the form has no terms and whether its bias is 0
unfoldable pub known_at : Bool → Bool → Known
known_at true true = No
known_at true false = Yes
known_at false b = Open

unfoldable pub known : Affine → Known
unfolding empty known_at
known x = known_at (empty x.terms) (eq x.bias zero32)

abbrev pub floats : Forms Affine
floats = record {
  constant = λ k. constant (number k);
  wire = single;
  plus = plus;
  negate = scaled minus_one32;
  scaled = λ k. scaled (number k);
  offset = λ p n. offset (difference p n);
  known = known;
  reaches = λ k x. le (number k) x.bias;
  terms = λ x. length x.terms;
}
