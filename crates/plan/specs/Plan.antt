-- The lists of a plan: which node each leaf slot and each cursor cell belongs to, and the order of reports. They are made from kinds and
-- child counts in pre-order, whether or not these are a tree's; what they are for a tree is said over the tree.
use Rattle.std.specs.Prelude.{ℕ, zero, suc, ◌+◌, ◌-◌, ◌≤◌, ◌<◌, Bool, true, false, ◌||◌, cond, List, [], ◌∷◌, ◌++◌, map, eqb, take}
use Rattle.tree.specs.Forest.{Forest, none, node, size}

-- "At most 128 nodes": no node past these is read
abbrev pub nodes_in : List ℕ → List ℕ
nodes_in xs = take 128 xs

-- the numbers of the nodes whose kind passes a test, counted from n
abbrev pub listed : Bool → ℕ → List ℕ → List ℕ
listed true n more = n ∷ more
listed false n more = more

abbrev pub places_from : (ℕ → Bool) → ℕ → List ℕ → List ℕ
places_from test n [] = []
places_from test n (kind ∷ kinds) = listed (test kind) n (places_from test (suc n) kinds)

abbrev pub either_kind : ℕ → ℕ → ℕ → Bool
either_kind one other kind = eqb kind one || eqb kind other

-- "leaves get slots in pre-order": a leaf is of kind 1
unfoldable pub leaves_of : List ℕ → List ℕ
leaves_of kinds = places_from (λ kind. eqb kind 1) 0 (nodes_in kinds)

-- "Each of kinds 4 and 6 owns a cursor cell, claimed in pre-order"
unfoldable pub cursors_of : List ℕ → List ℕ
cursors_of kinds = places_from (either_kind 4 6) 0 (nodes_in kinds)

-- "Report order: post-order". A tree's nodes by their numbers, and their post-order:
abbrev pub numbered : {X : Type 0} → ℕ → Forest X → Forest ℕ
numbered n none = none
numbered n (node x kids rest) = node n (numbered (suc n) kids) (numbered (suc n + size kids) rest)

abbrev pub postorder : {X : Type 0} → Forest X → List X
postorder none = []
postorder (node x kids rest) = postorder kids ++ x ∷ postorder rest

abbrev pub report_in : {X : Type 0} → Forest X → List ℕ
report_in tree = postorder (numbered 0 tree)

-- The same from child counts in pre-order, one node after the other. An open node has children that are still to come; a node is reported
-- when its last child's subtree has been, and what is open at the end is reported innermost first. That this is the post-order where the
-- counts are a tree's is `report_tree` of proofs/Laws.
pub data Open : Type 0 where
  pending : ℕ → ℕ → Open

abbrev pub number_of : Open → ℕ
number_of (pending n due) = n

-- of the open nodes, innermost first, those up to the first that has a child to come, and the others
abbrev pub closed : List Open → List ℕ
closed [] = []
closed (pending n zero ∷ outer) = n ∷ closed outer
closed (pending n (suc due) ∷ outer) = []

abbrev pub still : List Open → List Open
still [] = []
still (pending n zero ∷ outer) = still outer
still (pending n (suc due) ∷ outer) = pending n (suc due) ∷ outer

-- a child of the innermost has come
abbrev pub one_less : List Open → List Open
one_less [] = []
one_less (pending n due ∷ outer) = pending n (due - 1) ∷ outer

abbrev pub report_from : List ℕ → ℕ → List Open → List ℕ
report_from [] n outer = map number_of outer
report_from (count ∷ counts) n outer =
    let opened = pending n count ∷ one_less outer in
    closed opened ++ report_from counts (suc n) (still opened)

unfoldable pub report_of : List ℕ → List ℕ
report_of counts = report_from (nodes_in counts) 0 []

-- how often a list holds a number
abbrev pub times : ℕ → List ℕ → ℕ
times v [] = 0
times v (x ∷ xs) = cond (eqb x v) 1 0 + times v xs

-- a list strictly rises from one number on, below another
abbrev pub Rising : ℕ → ℕ → List ℕ → Type 0
Rising least limit [] = Unit {0}
Rising least limit (x ∷ xs) = (least ≤ x) × (x < limit) × Rising (suc x) limit xs
