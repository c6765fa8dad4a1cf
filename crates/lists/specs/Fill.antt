-- A list that is written at successive indices and nowhere else. Definitions only.
use Rattle.std.specs.Prelude.{List, ◌++◌, ℕ, zero, suc, ◌+◌, set, drop}
use Rattle.lists.specs.Each.{each}

-- the list with f 0, f 1, .. in the n places from base on, and all else as it was
unfoldable pub fill_at : {A : Type 0} → ℕ → (ℕ → A) → List A → ℕ → List A
fill_at base f xs zero = xs
fill_at base f xs (suc n) = set (fill_at base f xs n) (base + n) (f n)

-- "the needed prefix .. and nothing past it": f 0, f 1, .. in the first n places, and the rest as it was
unfoldable pub prefix : {A : Type 0} → (ℕ → A) → ℕ → List A → List A
unfolding each
prefix f n xs = each f 0 n ++ drop n xs
