-- A node that document 01 accepts takes all its children, as the passes ask for it.
use Rattle.std.proofs.Common.{◌≡◌, refl, sym, ℕ, zero, suc, ◌≤◌, Option, None, Some, IsSomeAnd, slice_get, arith}
use Rattle.std.proofs.lemmas.Option.{slice_get_within}
use Rattle.tree_kinds.specs.Kinds.{Entry, row_of, rows}
use Rattle.tree_kinds.proofs.Table.{Every, at}
use Rattle.tree.specs.Bytes.{Children, KindChildren}
use Rattle.walk.specs.Kind.{bit, has_cursor, kind_of}
use Rattle.construct.specs.Lower.{flat_of}
use Rattle.lower_ordered_laws.proofs.Passes.{Childed, takes}

-- what is used of a node of kind k with n children
pub record Fits (k n : ℕ) : Type 0 where
  pub takes_all : takes (flat_of (kind_of k) n) ≡ n
  pub childed : Childed (flat_of (kind_of k) n)
  pub below : bit (has_cursor (kind_of k)) ≤ n

infixr 20 ◌&◌
◌&◌ : {A B : Type 0} → A → B → A × B
a & b = (a, b)

-- of the i-th row of the table, which is that of kind i + 1
abbrev Right : ℕ → Option Entry → Type 0
Right i row = (n : ℕ) → IsSomeAnd row (λ (r : Entry). Children r.family n) → Fits (suc i) n

by_number : Every Right 0 rows
unfolding rows kind_of
by_number =
    (λ n c. record { takes_all = sym c; childed = tt; below = omega arith })
    & (λ n c. record { takes_all = sym c; childed = tt; below = omega arith })
    & (λ n c. record { takes_all = sym c; childed = tt; below = omega arith })
    & (λ n c. record { takes_all = refl; childed = c; below = omega arith })
    & (λ n c. record { takes_all = refl; childed = c; below = omega arith })
    & (λ n c. record { takes_all = refl; childed = c; below = omega arith })
    & (λ n c. record { takes_all = refl; childed = c; below = omega arith })
    & (λ n c. record { takes_all = sym c; childed = tt; below = omega arith })
    & (λ n c. record { takes_all = sym c; childed = tt; below = omega arith })
    & (λ n c. record { takes_all = sym c; childed = tt; below = omega arith })
    & (λ n c. absurd c)
    & (λ n c. absurd c)
    & (λ n c. absurd c)
    & (λ n c. absurd c)
    & (λ n c. absurd c)
    & (λ n c. absurd c)
    & (λ n c. absurd c)
    & (λ n c. absurd c)
    & tt

pub fits : (k n : ℕ) → KindChildren k n → Fits k n
unfolding row_of
fits zero n c = absurd c
fits (suc i) n c = go (slice_get rows i) refl c
  where
    go : (row : Option Entry) → slice_get rows i ≡ row → IsSomeAnd row (λ (r : Entry). Children r.family n) → Fits (suc i) n
    go None e c = absurd c
    go (Some row) e c = at Right rows by_number i (slice_get_within rows i row e) n (rw e c)
