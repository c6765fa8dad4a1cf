-- A forest is all that its pre-order and its child counts say: no other forest has them. Read from the right with a stack, they give it back.
use Rattle.std.proofs.Common.{zip, ◌≡◌, refl, sym, ◌∙◌, ap, List, [], ◌∷◌, ◌++◌, append_assoc, append-nil, ℕ, suc}
use Rattle.tree.specs.Forest.{Forest, none, node, width, preorder, counts, Counted}
use Rattle.tree.specs.Fold.{answers, stacked}
use Rattle.tree_laws.proofs.Folds.{stacked_append}

-- a node's label with its child count; a tree apart from its neighbours
abbrev Labelled : Type 0 → Type 0
Labelled X = X × ℕ

abbrev Single : Type 0 → Type 0
Single X = X × Forest X

module _ {X : Type 0} where
  abbrev label : Forest X → Forest (Labelled X)
  label none = none
  label (node x kids rest) = node (x, width kids) (label kids) (label rest)

  label_width : (f : Forest X) → width (label f) ≡ width f
  label_width none = refl
  label_width (node x kids rest) = ap suc (label_width rest)

  label_counted : (f : Forest X) → Counted (λ (l : Labelled X). l.1) (label f)
  label_counted none = tt
  label_counted (node x kids rest) = (sym (label_width kids), label_counted kids, label_counted rest)

  zipped : (f : Forest X) (xs : List X) (cs : List ℕ) → zip (preorder f ++ xs) (counts f ++ cs) ≡ preorder (label f) ++ zip xs cs
  zipped none xs cs = refl
  zipped (node x kids rest) xs cs = rw (
    append_assoc (preorder kids) (preorder rest) xs,
    append_assoc (counts kids) (counts rest) cs,
    zipped kids (preorder rest ++ xs) (counts rest ++ cs),
    zipped rest xs cs,
    append_assoc (preorder (label kids)) (preorder (label rest)) (zip xs cs),
  )

  abbrev beside : List (Single X) → Forest X
  beside [] = none
  beside (t ∷ ts) = node t.0 t.1 (beside ts)

  abbrev grow : Labelled X → List (Single X) → Single X
  grow l kids = (l.0, beside kids)

  regrown : (f : Forest X) → beside (answers grow (label f)) ≡ f
  regrown none = refl
  regrown (node x kids rest) = rw (regrown kids, regrown rest)

  -- the forest that labels and child counts in pre-order stand for
  abbrev forest_of : List X → List ℕ → Forest X
  forest_of xs cs = beside (stacked grow (λ (l : Labelled X). l.1) (zip xs cs))

  pub reads_back : (f : Forest X) → forest_of (preorder f) (counts f) ≡ f
  reads_back f =
      let z : zip (preorder f) (counts f) ≡ preorder (label f) ++ []
      = rw (append-nil (preorder f), append-nil (counts f)) at (zipped f [] []) in
      rw (z, stacked_append grow (λ (l : Labelled X). l.1) (label f) [] (label_counted f), append-nil (answers grow (label f))) (regrown f)

  pub only : (f g : Forest X) → preorder f ≡ preorder g → counts f ≡ counts g → f ≡ g
  only f g p q = sym (reads_back f) ∙ rw (p, q) (reads_back g)
