-- The operations of wire.rs on forms as values, a bias and a list of terms: "A form is a bias and weighted wires, sorted by wire, duplicates summed,
-- zero coefficients dropped; its bias and coefficients are f32." Definitions only.
use Rattle.std.specs.Prelude.{ℕ, List, [], ◌∷◌, map, cond, ltb, Float}
use Rattle.std.specs.Float.{binary32}
use Rattle.std.specs.Float.Ieee.{add, mul, eq}
use Rattle.exact.specs.Whole.{zero32, one32, minus_one32}
use Rattle.wire.specs.declared.Term.{Term}
use Rattle.wire.specs.Terms.{Affine}

-- "zero coefficients dropped"
unfoldable pub kept : List Term → List Term
kept [] = []
kept (t ∷ ts) = cond (eq t.coef zero32) (kept ts) (t ∷ kept ts)

-- `merge` past its first list's head a, whose tail is xs; rest merges xs with a list
unfoldable pub merge_into : Term → List Term → (List Term → List Term) → List Term → List Term
merge_into a xs rest [] = a ∷ xs
merge_into a xs rest (b ∷ ys) =
    cond (ltb a.wire.0 b.wire.0)
    (a ∷ rest (b ∷ ys))
    (cond (ltb b.wire.0 a.wire.0)
    (b ∷ merge_into a xs rest ys)
    (record { wire = a.wire; coef = add binary32 a.coef b.coef } ∷ rest ys))

-- two lists "sorted by wire" as one, "duplicates summed"
unfoldable pub merge : List Term → List Term → List Term
unfolding merge_into
merge [] ys = ys
merge (a ∷ xs) ys = merge_into a xs (merge xs) ys

-- the terms of a sum: where one form has none, those of the other as they are
unfoldable pub summed : List Term → List Term → List Term
unfolding kept merge
summed [] ys = ys
summed (x ∷ xs) [] = x ∷ xs
summed (x ∷ xs) (y ∷ ys) = kept (merge (x ∷ xs) (y ∷ ys))

-- a number times a factor, and never -0
abbrev pub times : Float → Float → Float
times factor x = add binary32 (mul binary32 x factor) zero32

abbrev pub times_term : Float → Term → Term
times_term factor t = record { wire = t.wire; coef = times factor t.coef }

abbrev pub scaled_terms : Float → List Term → List Term
scaled_terms factor ts = kept (map (times_term factor) ts)

-- ---- the operations

-- `constant`
unfoldable pub constant : Float → Affine
constant bias = record { bias = bias; terms = [] }

-- `wire`: "A form reading one wire with coefficient 1."
unfoldable pub single : ℕ → Affine
single w = record { bias = zero32; terms = record { wire = record { 0 = w }; coef = one32 } ∷ [] }

-- `offset`
unfoldable pub offset : Float → Affine → Affine
offset shift x = record { bias = add binary32 x.bias shift; terms = x.terms }

-- `scaled`
unfoldable pub scaled : Float → Affine → Affine
unfolding kept
scaled factor x = record { bias = times factor x.bias; terms = scaled_terms factor x.terms }

-- `not`: 1 - x
unfoldable pub one_minus : Affine → Affine
unfolding scaled offset
one_minus x = offset one32 (scaled minus_one32 x)

-- `plus`
unfoldable pub plus : Affine → Affine → Affine
unfolding summed
plus x y = record { bias = add binary32 x.bias y.bias; terms = summed x.terms y.terms }
