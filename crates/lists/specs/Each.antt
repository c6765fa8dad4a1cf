-- The list of what a function gives at successive indices: how lists are read off lent slices.
use Rattle.std.specs.Prelude.{ℕ, zero, suc, List, [], ◌∷◌}

-- f i, f (i + 1), and so on, n of them
unfoldable pub each : {A : Type 0} → (ℕ → A) → ℕ → ℕ → List A
each f i zero = []
each f i (suc n) = f i ∷ each f (suc i) n
