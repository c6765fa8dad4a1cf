-- A fold of a pre-order list with a stack is the recursion over the tree, once for whatever is computed: `fold_up` from the right,
-- `fold_down` from the left.
use Rattle.std.proofs.Common.{ℕ, suc, arith, ◌≡◌, refl, ap, sym, ◌∙◌, List, [], ◌∷◌, ◌++◌, append_assoc, append-nil, length, take, drop, take_at, drop_at}
use Rattle.tree.specs.Forest.{Forest, none, node, width, preorder, Counted}
use Rattle.tree.specs.Fold.{answers, lefts, stacked, stack_lefts, first, spreads, falls, Tells}

module _ {X A : Type 0} (answer : X → List A → A) where
  pub answers_width : (f : Forest X) → length (answers answer f) ≡ width f
  answers_width none = refl
  answers_width (node x kids rest) = ap suc (answers_width rest)

  module _ (count : X → ℕ) where
    -- where a forest's answers lie above those of what follows it, a node finds its children's on top and the others below
    parted : (x : X) (kids rest : Forest X) (ys : List X) → count x ≡ width kids
        → stacked answer count (preorder kids ++ (preorder rest ++ ys)) ≡ answers answer kids ++ stacked answer count (preorder rest ++ ys)
        → (take (count x) (stacked answer count ((preorder kids ++ preorder rest) ++ ys)) ≡ answers answer kids)
        × (drop (count x) (stacked answer count ((preorder kids ++ preorder rest) ++ ys)) ≡ stacked answer count (preorder rest ++ ys))
    parted x kids rest ys c e =
        let a = answers answer kids in
        let b = stacked answer count (preorder rest ++ ys) in
        let w : length a ≡ count x = answers_width kids ∙ sym c in
        rw (append_assoc (preorder kids) (preorder rest) ys, e) (take_at a b (count x) w, drop_at a b (count x) w)

    pub stacked_append : (f : Forest X) (ys : List X) → Counted count f
        → stacked answer count (preorder f ++ ys) ≡ answers answer f ++ stacked answer count ys
    stacked_append none ys c = refl
    stacked_append (node x kids rest) ys c =
        let p = parted x kids rest ys c.0 (stacked_append kids (preorder rest ++ ys) c.1) in
        rw (p.0, p.1, stacked_append rest ys c.2)

    module _ {O : Type 0} (left : X → List A → O) where
      pub lefts_append : (f : Forest X) (ys : List X) → Counted count f
          → stack_lefts answer left count (preorder f ++ ys) ≡ lefts answer left f ++ stack_lefts answer left count ys
      lefts_append none ys c = refl
      lefts_append (node x kids rest) ys c =
          let p = parted x kids rest ys c.0 (stacked_append kids (preorder rest ++ ys) c.1) in
          rw (
            p.0,
            append_assoc (preorder kids) (preorder rest) ys,
            append_assoc (lefts answer left kids) (lefts answer left rest) (stack_lefts answer left count ys),
            lefts_append kids (preorder rest ++ ys) c.1,
            lefts_append rest ys c.2,
          )

      pub fold_up : (f : Forest X) → Counted count f
          → (stacked answer count (preorder f) ≡ answers answer f) × (stack_lefts answer left count (preorder f) ≡ lefts answer left f)
      fold_up f c = (
        rw (append-nil (preorder f), append-nil (answers answer f)) at (stacked_append f [] c),
        rw (append-nil (preorder f), append-nil (lefts answer left f)) at (lefts_append f [] c),
      )

module _ {X E O : Type 0} (tells : X → E → List E) (leaves : X → E → O) (idle : E) where
  first_append : (es st : List E) (n : ℕ) → length es ≡ suc n
      → (first idle (es ++ st) ≡ first idle es) × (drop 1 (es ++ st) ≡ drop 1 es ++ st) × (length (drop 1 es) ≡ n)
  first_append [] st n h = absurd (omega arith)
  first_append (e ∷ es) st n h = (refl, refl, omega arith)

  -- what a forest is told lies above what is kept for what follows it in the list
  pub falls_append : (f : Forest X) (ys : List X) (es st : List E) → Tells tells f → length es ≡ width f
      → falls tells leaves idle (preorder f ++ ys) (es ++ st) ≡ spreads tells leaves idle f es ++ falls tells leaves idle ys st
  falls_append none ys [] st t h = refl
  falls_append none ys (e ∷ es) st t h = absurd (omega arith)
  falls_append (node x kids rest) ys es st t h =
      let c = first_append es st (width rest) h in
      let told = tells x (first idle es) in
      rw (
        c.0,
        c.1,
        append_assoc (preorder kids) (preorder rest) ys,
        append_assoc (spreads tells leaves idle kids told) (spreads tells leaves idle rest (drop 1 es)) (falls tells leaves idle ys st),
        falls_append kids (preorder rest ++ ys) told (drop 1 es ++ st) t.1 (t.0 (first idle es)),
        falls_append rest ys (drop 1 es) st t.2 c.2,
      )

  pub fold_down : (f : Forest X) (es : List E) → Tells tells f → length es ≡ width f
      → falls tells leaves idle (preorder f) es ≡ spreads tells leaves idle f es
  fold_down f es t h =
      rw (append-nil (preorder f), append-nil es, append-nil (spreads tells leaves idle f es)) at (falls_append f [] es [] t h)
