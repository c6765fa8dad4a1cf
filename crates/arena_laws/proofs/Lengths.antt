-- A sum has at most as many terms as its two forms, and a multiple as many as its form.
use mathlib.Core.List.{List, [], ◌∷◌, map}
use mathlib.Core.Bool.{Bool, true, false, cond}
use Prim.Native.Nat.{suc, ◌+◌, ◌≤◌}
use native.Mathlib.Omega.{arith}
use lib.Dec.{ltb}
use lib.ListN.{length, length-map}
use lib.Ieee.{Float, binary32, add, eq}
use Rattle.exact.specs.Whole.{zero32}
use Rattle.wire.specs.declared.Term.{Term}
use Rattle.arena_terms.specs.Sums.{kept, merge, merge_into, times_term, scaled_terms}

kept_length : (ts : List Term) → length (kept ts) ≤ length ts
unfolding kept
kept_length [] = omega arith
kept_length (t ∷ ts) = go (eq t.coef zero32) (kept_length ts)
  where
    go : (b : Bool) → length (kept ts) ≤ length ts → length (cond b (kept ts) (t ∷ kept ts)) ≤ suc (length ts)
    go true h = omega arith
    go false h = omega arith

into_length : (a : Term) (xs : List Term) (rest : List Term → List Term) → ((ys : List Term) → length (rest ys) ≤ length xs + length ys)
    → (ys : List Term) → length (merge_into a xs rest ys) ≤ suc (length xs) + length ys
unfolding merge_into
into_length a xs rest h [] = omega arith
into_length a xs rest h (b ∷ ys) = go (ltb a.wire.0 b.wire.0) (ltb b.wire.0 a.wire.0) (h (b ∷ ys)) (h ys) (into_length a xs rest h ys)
  where
    go : (p q : Bool) → length (rest (b ∷ ys)) ≤ length xs + suc (length ys) → length (rest ys) ≤ length xs + length ys → length (merge_into a xs rest ys) ≤ suc (length xs) + length ys
        → length (cond p (a ∷ rest (b ∷ ys)) (cond q (b ∷ merge_into a xs rest ys) (record { wire = a.wire; coef = add binary32 a.coef b.coef } ∷ rest ys))) ≤ suc (length xs) + suc (length ys)
    go true q x y z = omega arith
    go false true x y z = omega arith
    go false false x y z = omega arith

merge_length : (xs ys : List Term) → length (merge xs ys) ≤ length xs + length ys
unfolding merge
merge_length [] ys = omega arith
merge_length (x ∷ xs) ys = into_length x xs (merge xs) (merge_length xs) ys

pub merged_length : (xs ys : List Term) → length (kept (merge xs ys)) ≤ length xs + length ys
merged_length xs ys = omega (arith, kept_length (merge xs ys), merge_length xs ys)

pub scaled_length : (factor : Float) (ts : List Term) → length (scaled_terms factor ts) ≤ length ts
scaled_length factor ts = omega (arith, kept_length (map (times_term factor) ts), length-map ts (times_term factor))
