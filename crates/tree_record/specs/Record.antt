-- A record: "two-byte length (bytes that follow it), two-byte kind, payload; all little-endian". What reading one at a position finds, in
-- document 01's order of refusals.
use Rattle.std.specs.Prelude.{ℕ, ◌+◌, ◌*◌, ◌-◌, cond, List, length, get_or, ltb, eqb, Option, None, Some, Result, Ok, Err}
use Rattle.tree_kinds.specs.declared.Family.{Family}
use Rattle.tree_kinds.specs.declared.Family.TheVariants.{Leaf, Composite, Decorator, Never}
use Rattle.tree_record.specs.declared.refusal.Cause.{Cause}
use Rattle.tree_record.specs.declared.refusal.Cause.TheVariants.{Truncated, BadLength, BadKind, Unsupported, EmptyComposite}
use Rattle.tree_record.specs.declared.record.Node.{Node}
use Rattle.tree_kinds.specs.Kinds.{Entry, row_of}

-- a node, or why there is none
abbrev pub Found : Type 0
Found = Result Node Cause

abbrev pub node : ℕ → ℕ → ℕ → Found
node kind count next = Ok (record { kind = kind; count = count; next = next })

-- the two-byte number at a position
abbrev pub u16_at : List ℕ → ℕ → ℕ
u16_at bytes at = get_or bytes at 0 + 256 * get_or bytes (at + 1) 0

-- 5: a composite's child count is 0
abbrev pub counted_record : ℕ → ℕ → ℕ → Found
counted_record kind count next = cond (eqb count 0) (Err EmptyComposite) (node kind count next)

-- 2: the length is not the table's
abbrev pub fitting_record : ℕ → ℕ → Found → Found
fitting_record size want found = cond (eqb size want) found (Err BadLength)

-- 4 by the kind's family, and the length before the child count: a leaf has no child, a decorator one, and a composite as many as its
-- payload says
abbrev pub family_record : Family → ℕ → List ℕ → ℕ → ℕ → ℕ → Found
family_record Never want bytes at size kind = Err (Unsupported kind)
family_record Leaf want bytes at size kind = fitting_record size want (node kind 0 (at + 2 + size))
family_record Decorator want bytes at size kind = fitting_record size want (node kind 1 (at + 2 + size))
family_record Composite want bytes at size kind =
    fitting_record size want (counted_record kind (u16_at bytes (at + 4)) (at + 2 + size))

-- a record that is all there, by the row of its kind; 3: the table has none
abbrev pub row_record : Option Entry → List ℕ → ℕ → ℕ → ℕ → Found
row_record None bytes at size kind = Err BadKind
row_record (Some row) bytes at size kind = family_record row.family row.size bytes at size kind

-- 2: the length is below 2; 1: fewer bytes are left than the length
abbrev pub sized_record : List ℕ → ℕ → ℕ → Found
sized_record bytes at size =
    cond (ltb size 2) (Err BadLength)
    (cond (ltb (length bytes - at - 2) size) (Err Truncated)
    (row_record (row_of (u16_at bytes (at + 2))) bytes at size (u16_at bytes (at + 2))))

-- 1: fewer than 2 bytes are left
unfoldable pub record_at : List ℕ → ℕ → Found
record_at bytes at = cond (ltb (length bytes - at) 2) (Err Truncated) (sized_record bytes at (u16_at bytes at))
