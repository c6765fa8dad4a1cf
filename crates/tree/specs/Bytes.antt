-- The bytes of a tree whose labels are kinds, and which trees are within the limits. That the accepted bytes are exactly these trees' bytes
-- is `accepts` and `accepted_tree` of crate tree_laws, proofs/Exact.
use Rattle.std.specs.Prelude.{◌≡◌, ℕ, ◌/◌, ◌%◌, ◌≤◌, ◌<◌, List, [], ◌∷◌, ◌++◌, Option, None, Some, IsSomeAnd}
use Rattle.tree_kinds.specs.declared.Family.{Family}
use Rattle.tree_kinds.specs.declared.Family.TheVariants.{Leaf, Composite, Decorator, Never}
use Rattle.tree_kinds.specs.Kinds.{Entry, row_of}
use Rattle.tree.specs.Forest.{Forest, none, node, width, size, levels}

-- every number of a list is a byte
abbrev pub Bytes : List ℕ → Type 0
Bytes [] = Unit {0}
Bytes (b ∷ bytes) = (b < 256) × Bytes bytes

-- two bytes, little-endian
abbrev pub u16 : ℕ → List ℕ
u16 n = n % 256 ∷ n / 256 ∷ []

-- "4: two-byte child count"
abbrev pub payload : Family → ℕ → List ℕ
payload Leaf count = []
payload Composite count = u16 count
payload Decorator count = []
payload Never count = []

-- "two-byte length (bytes that follow it), two-byte kind, payload; all little-endian". No tree has a node of a kind that the table lacks.
abbrev pub record_by : Option Entry → ℕ → ℕ → List ℕ
record_by None kind count = u16 0 ++ u16 kind ++ []
record_by (Some row) kind count = u16 row.size ++ u16 kind ++ payload row.family count

abbrev pub record_bytes : ℕ → ℕ → List ℕ
record_bytes kind count = record_by (row_of kind) kind count

-- "Nodes stand in pre-order"
abbrev pub bytes_of : Forest ℕ → List ℕ
bytes_of none = []
bytes_of (node kind kids rest) = record_bytes kind (width kids) ++ bytes_of kids ++ bytes_of rest

-- how many children a node of a family may have
abbrev pub Children : Family → ℕ → Type 0
Children Leaf count = count ≡ 0
Children Composite count = 0 < count
Children Decorator count = count ≡ 1
Children Never count = ⊥

-- how many a node of a kind may have; there is no node of a kind that the table lacks
abbrev pub KindChildren : ℕ → ℕ → Type 0
KindChildren kind count = IsSomeAnd (row_of kind) (λ (row : Entry). Children row.family count)

abbrev pub Lowered : Forest ℕ → Type 0
Lowered none = Unit {0}
Lowered (node kind kids rest) = KindChildren kind (width kids) × Lowered kids × Lowered rest

-- a tree that document 01 accepts: "At most 128 nodes; at most 16 levels"
pub record Within (tree : Forest ℕ) : Type 0 where
  pub one : width tree ≡ 1
  pub lowered : Lowered tree
  pub few : size tree ≤ 128
  pub shallow : levels tree ≤ 16
