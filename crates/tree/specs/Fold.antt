-- The two ways through a tree, each as a recursion over the tree and as a fold of its pre-order list with a stack. That the two agree,
-- whatever is computed on the way, are the laws `fold_up` and `fold_down` of crate tree_laws, proofs/Folds.
use Rattle.std.specs.Prelude.{ℕ, ◌≡◌, List, [], ◌∷◌, ◌++◌, length, take, drop}
use Rattle.tree.specs.Forest.{Forest, none, node, width}

-- Bottom-up: a node's answer is made of its children's answers.
module _ {X A : Type 0} (answer : X → List A → A) where
  abbrev pub answers : Forest X → List A
  answers none = []
  answers (node x kids rest) = answer x (answers kids) ∷ answers rest

  -- from the right over a list: a node takes as many entries off the stack as it has children, and puts one in their place
  abbrev pub stacked : (X → ℕ) → List X → List A
  stacked count [] = []
  stacked count (x ∷ xs) = answer x (take (count x) (stacked count xs)) ∷ drop (count x) (stacked count xs)

  -- what each node leaves, in pre-order
  module _ {O : Type 0} (left : X → List A → O) where
    abbrev pub lefts : Forest X → List O
    lefts none = []
    lefts (node x kids rest) = left x (answers kids) ∷ (lefts kids ++ lefts rest)

    abbrev pub stack_lefts : (X → ℕ) → List X → List O
    stack_lefts count [] = []
    stack_lefts count (x ∷ xs) = left x (take (count x) (stacked count xs)) ∷ stack_lefts count xs

-- Top-down: a node is told something by its parent and tells each child something.
abbrev pub first : {E : Type 0} → E → List E → E
first idle [] = idle
first idle (e ∷ es) = e

-- each node tells as many as it has children
abbrev pub Tells : {X E : Type 0} → (X → E → List E) → Forest X → Type 0
Tells {X} {E} tells none = Unit {0}
Tells {X} {E} tells (node x kids rest) = ((e : E) → length (tells x e) ≡ width kids) × Tells tells kids × Tells tells rest

-- what each node leaves, in pre-order
module _ {X E O : Type 0} (tells : X → E → List E) (leaves : X → E → O) (idle : E) where
  -- the trees of a forest, with what each is told
  abbrev pub spreads : Forest X → List E → List O
  spreads none es = []
  spreads (node x kids rest) es =
      leaves x (first idle es) ∷ (spreads kids (tells x (first idle es)) ++ spreads rest (drop 1 es))

  -- from the left over a list: a node takes the first entry off the stack, and puts one for each child in its place
  abbrev pub falls : List X → List E → List O
  falls [] es = []
  falls (x ∷ xs) es = leaves x (first idle es) ∷ falls xs (tells x (first idle es) ++ drop 1 es)
