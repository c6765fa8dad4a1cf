-- The table of kinds. "Each kind's name, length and family stand in one fixed table."
use Rattle.std.specs.Prelude.{ℕ, zero, suc, cond, List, [], ◌∷◌, ltb, Option, Some, None, slice_get, codes}
use Prim.Native.String.{String}
use Rattle.tree_kinds.specs.declared.Family.{Family}
use Rattle.tree_kinds.specs.declared.Family.TheVariants.{Leaf, Composite, Decorator, Never}
use Rattle.tree_kinds.specs.declared.Row.{Row}

-- what is seen of a row: its name's bytes, wherever they lie
pub record Entry : Type 0 where
  pub name : List ℕ
  pub size : ℕ
  pub family : Family

abbrev pub shown : Row → Entry
shown row = record { name = row.name.now; size = row.size; family = row.family }

-- a row by its name, its length and its family
abbrev pub row : String → ℕ → Family → Entry
row name size family = record { name = codes name; size = size; family = family }

-- kinds 1 to 18
unfoldable pub rows : List Entry
rows =
    row "Leaf" 2 Leaf ∷
    row "AlwaysSuccess" 2 Leaf ∷
    row "AlwaysFailure" 2 Leaf ∷
    row "Sequence" 4 Composite ∷
    row "ReactiveSequence" 4 Composite ∷
    row "Fallback" 4 Composite ∷
    row "ReactiveFallback" 4 Composite ∷
    row "Inverter" 2 Decorator ∷
    row "ForceSuccess" 2 Decorator ∷
    row "ForceFailure" 2 Decorator ∷
    row "Sleep" 0 Never ∷
    row "Parallel" 0 Never ∷
    row "IfThenElse" 0 Never ∷
    row "WhileDoElse" 0 Never ∷
    row "Timeout" 0 Never ∷
    row "Repeat" 0 Never ∷
    row "RetryUntilSuccessful" 0 Never ∷
    row "KeepRunningUntilFailure" 0 Never ∷
    []

-- the row of a kind, if the table has one; kinds are counted from 1
unfoldable pub row_of : ℕ → Option Entry
row_of zero = None
row_of (suc i) = slice_get rows i

-- The families by ranges of the kind, as document 01's table has it: 1 to 3 are leaves, 4 to 7 composites, 8 to 10 decorators, and 11 to 18
-- are never lowered. That the rows follow it is `table_rule` of proofs/Rows.
abbrev pub family_by : ℕ → Option Family
family_by kind =
    cond (ltb kind 1) None
    (cond (ltb kind 4) (Some Leaf)
    (cond (ltb kind 8) (Some Composite)
    (cond (ltb kind 11) (Some Decorator)
    (cond (ltb kind 19) (Some Never) None))))

-- the length of a family's records
abbrev pub length_by : Family → ℕ
length_by Leaf = 2
length_by Composite = 4
length_by Decorator = 2
length_by Never = 0
