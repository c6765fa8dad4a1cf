-- The first entry above a number, as a search finds it.
use Rattle.std.specs.List.{position, position_or_len}
use Rattle.std.proofs.Common.{◌≡◌, ℕ, ◌≤◌, List, [], ◌∷◌, Some, None, cond, length, ltb, eqb, refl, arith}
use Rattle.std.proofs.lemmas.Bool.Decides.{nat_tests}
use Rattle.tick_lane.specs.Lane.{first_above}

first_is : (most : ℕ) (xs : List ℕ) → position_or_len (ltb most) xs ≡ first_above most xs
unfolding first_above
first_is most [] = refl
first_is most (x ∷ xs) = let rest = first_is most xs in grind arith

first_most : (most : ℕ) (xs : List ℕ) → first_above most xs ≤ length xs
unfolding first_above
first_most most [] = omega arith
first_most most (x ∷ xs) = let rest = first_most most xs in grind arith

pub position_is : (most : ℕ) (xs : List ℕ) → position (ltb most) xs ≡ cond (eqb (first_above most xs) (length xs)) None (Some (first_above most xs))
position_is most xs = let most_at = first_most most xs in rw (first_is most xs) (grind (arith, nat_tests))
