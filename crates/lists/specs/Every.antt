-- A fact of every element of a list, and of two lists element by element.
use Rattle.std.specs.Prelude.{List, [], ◌∷◌}

abbrev pub All : {A : Type 0} → (A → Type 0) → List A → Type 0
All R [] = Unit {0}
All R (x ∷ xs) = R x × All R xs

-- two lists, element by element
pub data All2 {A B : Type 0} (R : A → B → Type 0) : List A → List B → Type 0 where
  none : All2 R [] []
  both : {a : A} {b : B} {xs : List A} {ys : List B} → R a b → All2 R xs ys → All2 R (a ∷ xs) (b ∷ ys)
