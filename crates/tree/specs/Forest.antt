-- Trees as a reader has them in mind. "Nodes stand in pre-order and are numbered from 0 in that order."
use Rattle.std.specs.Prelude.{ℕ, suc, ◌+◌, max, ◌≡◌, List, [], ◌∷◌, ◌++◌}

-- A forest is empty, or a node with the forest of its children, and the forest of the trees after it. A tree is a forest of width 1.
pub data Forest (X : Type 0) : Type 0 where
  none : Forest X
  node : X → Forest X → Forest X → Forest X

-- how many trees stand side by side
abbrev pub width : {X : Type 0} → Forest X → ℕ
width none = 0
width (node x kids rest) = suc (width rest)

-- how many nodes there are
abbrev pub size : {X : Type 0} → Forest X → ℕ
size none = 0
size (node x kids rest) = suc (size kids + size rest)

-- how many levels there are, "the root being level 1"
abbrev pub levels : {X : Type 0} → Forest X → ℕ
levels none = 0
levels (node x kids rest) = max (suc (levels kids)) (levels rest)

-- the nodes' labels, and their child counts, in pre-order
abbrev pub preorder : {X : Type 0} → Forest X → List X
preorder none = []
preorder (node x kids rest) = x ∷ (preorder kids ++ preorder rest)

abbrev pub counts : {X : Type 0} → Forest X → List ℕ
counts none = []
counts (node x kids rest) = width kids ∷ (counts kids ++ counts rest)

-- a label that tells a child count tells the right one
abbrev pub Counted : {X : Type 0} → (X → ℕ) → Forest X → Type 0
Counted count none = Unit {0}
Counted count (node x kids rest) = (count x ≡ width kids) × Counted count kids × Counted count rest
