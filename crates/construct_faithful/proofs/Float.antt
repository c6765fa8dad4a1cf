-- The form that code holds for a form with whole coefficients: each number p - n as the float of p - n. Definitions only.
use mathlib.Core.List.{List, map}
use lib.Ieee.{binary32}
use Rattle.exact.specs.Whole.{diff}
use Rattle.wire.specs.declared.Term.{Term as FloatTerm}
use Rattle.wire.specs.Terms.{Affine}
use Rattle.construct.specs.Pairs.{Term, Form}

abbrev pub float_term : Term → FloatTerm
float_term t = record { wire = record { 0 = t.wire }; coef = diff binary32 t.cp t.cn }

abbrev pub float_terms : List Term → List FloatTerm
float_terms ts = map float_term ts

unfoldable pub float : Form → Affine
float f = record { bias = diff binary32 f.bp f.bn; terms = float_terms f.terms }
