-- A tree within the limits has nodes of the kinds that are lowered: what that says of their children, and of the leaf and cursor lists.
use Rattle.std.proofs.Common.{Option, None, Some, option_map, IsSomeAnd, ◌≡◌, refl, ◌∙◌, ap, subst, Bool, true, false, cond, List, [], ◌∷◌, ◌++◌, ℕ, zero}
use Rattle.std.proofs.Common.{suc, ◌+◌, ◌≤◌, arith, le-ltb, eqb, ltb, length, take_all}
use Rattle.tree_kinds.specs.declared.Family.{Family}
use Rattle.tree_kinds.specs.declared.Family.TheVariants.{Never}
use Rattle.tree_kinds.specs.Kinds.{Entry, row_of, family_by}
use Rattle.tree_kinds.proofs.Rows.{table_rule}
use Rattle.tree.proofs.Lengths.{preorder_length, counts_length}
use Rattle.tree.specs.Forest.{Forest, none, node, width, size, preorder, counts}
use Rattle.tree.specs.Bytes.{Children, KindChildren, Lowered}
use Rattle.plan.specs.Plan.{listed, places_from, either_kind, nodes_in, leaves_of, cursors_of, report_of}
use Rattle.plan.proofs.Laws.{report_length, places_few}
use Rattle.walk.specs.Kind.{Kind, kind_of, arity, is_leaf, has_cursor, bit}
use Rattle.walk.specs.Walk.{count_in, cells_in, slots_in}
use Rattle.construct_means.specs.Means.{Shaped}

pub record KindIs (k w : ℕ) : Type 0 where
  pub children : w ≡ arity (kind_of k) w
  pub leaf : eqb k 1 ≡ is_leaf (kind_of k)
  pub cursor : either_kind 4 6 k ≡ has_cursor (kind_of k)

-- how many children a kind may have, by its family
abbrev ByFamily : Option Family → ℕ → Type 0
ByFamily family w = IsSomeAnd family (λ (f : Family). Children f w)

past : (k w : ℕ) → 11 ≤ k → ByFamily (family_by k) w → ⊥
past k w h c = go (ltb k 19) (rw (le-ltb k 1 (omega arith), le-ltb k 4 (omega arith), le-ltb k 8 (omega arith), le-ltb k 11 (omega arith)) at c)
  where
    go : (b : Bool) → ByFamily (cond b (Some Never) None) w → ⊥
    go true c = c
    go false c = c

by_kind : (k w : ℕ) → ByFamily (family_by k) w → KindIs k w
unfolding kind_of
by_kind zero w c = absurd c
by_kind (suc zero) w c = record { children = c; leaf = refl; cursor = refl }
by_kind (suc (suc zero)) w c = record { children = c; leaf = refl; cursor = refl }
by_kind (suc (suc (suc zero))) w c = record { children = c; leaf = refl; cursor = refl }
by_kind (suc (suc (suc (suc zero)))) w c = record { children = refl; leaf = refl; cursor = refl }
by_kind (suc (suc (suc (suc (suc zero))))) w c = record { children = refl; leaf = refl; cursor = refl }
by_kind (suc (suc (suc (suc (suc (suc zero)))))) w c = record { children = refl; leaf = refl; cursor = refl }
by_kind (suc (suc (suc (suc (suc (suc (suc zero))))))) w c = record { children = refl; leaf = refl; cursor = refl }
by_kind (suc (suc (suc (suc (suc (suc (suc (suc zero)))))))) w c = record { children = c; leaf = refl; cursor = refl }
by_kind (suc (suc (suc (suc (suc (suc (suc (suc (suc zero))))))))) w c = record { children = c; leaf = refl; cursor = refl }
by_kind (suc (suc (suc (suc (suc (suc (suc (suc (suc (suc zero)))))))))) w c = record { children = c; leaf = refl; cursor = refl }
by_kind (suc (suc (suc (suc (suc (suc (suc (suc (suc (suc (suc k))))))))))) w c =
    absurd (past (suc (suc (suc (suc (suc (suc (suc (suc (suc (suc (suc k))))))))))) w (omega arith) c)

pub kind_is : (k w : ℕ) → KindChildren k w → KindIs k w
kind_is k w c = by_kind k w (subst (λ (f : Option Family). ByFamily f w) (table_rule k).0 (of_row (row_of k) c))
  where
    of_row : (row : Option Entry) → IsSomeAnd row (λ (r : Entry). Children r.family w) → ByFamily (option_map (λ (r : Entry). r.family) row) w
    of_row None c = c
    of_row (Some row) c = c

pub shaped : (f : Forest ℕ) → Lowered f → Shaped kind_of f
shaped none l = tt
shaped (node k kids rest) l = ((kind_is k (width kids) l.0).children, shaped kids l.1, shaped rest l.2)

-- ---- the lists of a plan

-- a test of kinds that is one of the families', on each node of a forest
abbrev pub Tests : (ℕ → Bool) → (Kind → Bool) → Forest ℕ → Type 0
Tests test has none = Unit {0}
Tests test has (node k kids rest) = (test k ≡ has (kind_of k)) × Tests test has kids × Tests test has rest

pub leaf_tests : (f : Forest ℕ) → Lowered f → Tests (λ k. eqb k 1) is_leaf f
leaf_tests none l = tt
leaf_tests (node k kids rest) l = ((kind_is k (width kids) l.0).leaf, leaf_tests kids l.1, leaf_tests rest l.2)

pub cursor_tests : (f : Forest ℕ) → Lowered f → Tests (either_kind 4 6) has_cursor f
cursor_tests none l = tt
cursor_tests (node k kids rest) l = ((kind_is k (width kids) l.0).cursor, cursor_tests kids l.1, cursor_tests rest l.2)

listed_length : (b : Bool) (n : ℕ) (xs : List ℕ) → length (listed b n xs) ≡ bit b + length xs
listed_length true n xs = omega arith
listed_length false n xs = omega arith

module _ (test : ℕ → Bool) (has : Kind → Bool) where
  places_append : (n : ℕ) (xs ys : List ℕ)
      → length (places_from test n (xs ++ ys)) ≡ length (places_from test n xs) + length (places_from test (n + length xs) ys)
  places_append n [] ys = let e : n ≡ n + 0 = omega arith in ap (λ (k : ℕ). length (places_from test k ys)) e ∙ omega arith
  places_append n (x ∷ xs) ys =
      let e : suc n + length xs ≡ n + suc (length xs) = omega arith in
      let i = places_append (suc n) xs ys in
      omega (
        arith,
        listed_length (test x) n (places_from test (suc n) (xs ++ ys)),
        listed_length (test x) n (places_from test (suc n) xs),
        i ∙ ap (λ (k : ℕ). length (places_from test (suc n) xs) + length (places_from test k ys)) e,
      )

  pub places_count : (n : ℕ) (f : Forest ℕ) → Tests test has f → length (places_from test n (preorder f)) ≡ count_in has f
  places_count n none t = refl
  places_count n (node k kids rest) t =
      listed_length (test k) n (places_from test (suc n) (preorder kids ++ preorder rest))
      ∙ (λ i. bit (t.0 i) + length (places_from test (suc n) (preorder kids ++ preorder rest)))
      ∙ omega (
        arith,
        places_append (suc n) (preorder kids) (preorder rest),
        places_count (suc n) kids t.1,
        places_count (suc n + length (preorder kids)) rest t.2,
      )

module _ (f : Forest ℕ) (low : Lowered f) (few : size f ≤ 128) where
  all_nodes : nodes_in (preorder f) ≡ preorder f
  all_nodes = take_all 128 (preorder f) (omega (arith, preorder_length f))

  pub leaves_are : leaves_of (preorder f) ≡ places_from (λ k. eqb k 1) 0 (preorder f)
  unfolding leaves_of
  leaves_are = ap (places_from (λ k. eqb k 1) 0) all_nodes

  pub cursors_are : cursors_of (preorder f) ≡ places_from (either_kind 4 6) 0 (preorder f)
  unfolding cursors_of
  cursors_are = ap (places_from (either_kind 4 6) 0) all_nodes

  pub leaves_count : length (leaves_of (preorder f)) ≡ slots_in f
  leaves_count = ap length leaves_are ∙ places_count (λ k. eqb k 1) is_leaf 0 f (leaf_tests f low)

  pub cursors_count : length (cursors_of (preorder f)) ≡ cells_in f
  cursors_count = ap length cursors_are ∙ places_count (either_kind 4 6) has_cursor 0 f (cursor_tests f low)

  pub report_count : length (report_of (counts f)) ≡ size f
  report_count = report_length (counts f) ∙ omega (arith, counts_length f)

  pub leaves_few : length (leaves_of (preorder f)) ≤ size f
  leaves_few = rw leaves_are (omega (arith, places_few (λ k. eqb k 1) 0 (preorder f), preorder_length f))

  pub cursors_few : length (cursors_of (preorder f)) ≤ size f
  cursors_few = rw cursors_are (omega (arith, places_few (either_kind 4 6) 0 (preorder f), preorder_length f))
