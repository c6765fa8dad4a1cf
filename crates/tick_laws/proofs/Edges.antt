-- The walk's edges, leaf after leaf, are those of the nodes of the leaf list.
use mathlib.Core.Path.{◌≡◌, refl, sym, ◌∙◌, ap}
use mathlib.Core.Bool.{Bool, true, false, cond, ◌&&◌, true≢false}
use mathlib.Core.List.{List, [], ◌∷◌, ◌++◌, map}
use Prim.Native.Nat.{ℕ, suc, ◌+◌, ◌<◌}
use native.Mathlib.Omega.{arith}
use lib.Dec.{eqb}
use lib.ListN.{length, get_or}
use Rattle.tree.specs.Forest.{Forest, none, node, size, preorder}
use Rattle.plan.specs.Plan.{listed, places_from}
use Rattle.walk.specs.Kind.{kind_of, is_leaf, cells, slots}
use Rattle.walk.specs.Status.{status_of}
use Rattle.walk.specs.Walk.{Call, Fate, Own, root_call, owned, fates, fates_of, would_be, tells, each, edge, next_flag, is_running, cells_in, slots_in, as_read}
use Rattle.tree.proofs.Lengths.{preorder_length}
use Rattle.plan_laws.proofs.Nodes.{Tests}
use Rattle.tick_laws.proofs.Sound.{no_fate}

abbrev test : ℕ → Bool
test k = eqb k 1

-- the fates of the nodes of these kinds, numbered from i on, have the flags for their own
abbrev Owns : List ℕ → ℕ → List ℕ → List Fate → Type 0
Owns flags i [] [] = Unit {0}
Owns flags i [] (x ∷ xs) = ⊥
Owns flags i (k ∷ ks) [] = ⊥
Owns flags i (k ∷ ks) (x ∷ xs) = (test k ≡ is_leaf x.own.kind) × (x.own.running ≡ is_running (get_or flags i 0)) × Owns flags (suc i) ks xs

owns_append : (flags : List ℕ) (i j : ℕ) (ks js : List ℕ) (xs ys : List Fate)
    → i + length ks ≡ j → Owns flags i ks xs → Owns flags j js ys → Owns flags i (ks ++ js) (xs ++ ys)
owns_append flags i j [] js [] ys e h g = let q : j ≡ i = omega arith in rw q at g
owns_append flags i j [] js (x ∷ xs) ys e h g = absurd h
owns_append flags i j (k ∷ ks) js [] ys e h g = absurd h
owns_append flags i j (k ∷ ks) js (x ∷ xs) ys e h g = (h.0, h.1, owns_append flags (suc i) j ks js xs ys (omega arith) h.2 g)

fates_own : (flags cursors row : List ℕ) (call : ℕ → Call) (place i c s : ℕ) (f : Forest ℕ) → Tests test is_leaf f
    → Owns flags i (preorder f) (fates call place (owned flags cursors row i c s f))
unfolding fates owned
fates_own flags cursors row call place i c s none t = tt
fates_own flags cursors row call place i c s (node k kids rest) t =
    let kind = kind_of k in
    let inner = owned flags cursors row (suc i) (c + cells kind) (s + slots kind) kids in
    let after = owned flags cursors row (suc i + size kids) (c + cells kind + cells_in kids) (s + slots kind + slots_in kids) rest in
    let x : Own = record { kind = kind; running = is_running (get_or flags i 0); cursor = as_read (get_or cursors c 0); given = status_of (get_or row s 0) } in
    let told = tells x.kind x.cursor (would_be inner) (call place).ticked ((call place).called && x.running) in (
      t.0,
      refl,
      owns_append flags (suc i) (suc i + size kids) (preorder kids) (preorder rest) (fates told 0 inner) (fates call (suc place) after)
          (omega (arith, preorder_length kids))
          (fates_own flags cursors row told 0 (suc i) (c + cells kind) (s + slots kind) kids t.1)
          (fates_own flags cursors row call (suc place) (suc i + size kids) (c + cells kind + cells_in kids) (s + slots kind + slots_in kids) rest t.2),
    )

module _ (flags : List ℕ) (all : List Fate) where
  -- by the node's number
  abbrev pub edge_of : ℕ → ℕ
  edge_of n = edge (is_running (get_or flags n 0)) (next_flag (get_or all n no_fate))

  edges_from : (i : ℕ) (ks : List ℕ) (xs : List Fate) → Owns flags i ks xs → ((j : ℕ) → j < length xs → get_or all (i + j) no_fate ≡ get_or xs j no_fate)
      → each (λ x. is_leaf x.own.kind) (λ x. edge x.own.running (next_flag x)) xs ≡ map edge_of (places_from test i ks)
  unfolding each
  edges_from i [] [] h e = refl
  edges_from i [] (x ∷ xs) h e = absurd h
  edges_from i (k ∷ ks) [] h e = absurd h
  edges_from i (k ∷ ks) (x ∷ xs) h e =
      let q : i + 0 ≡ i = omega arith in
      let here : get_or all i no_fate ≡ x = rw q at (e 0 (omega arith)) in
      let one : edge x.own.running (next_flag x) ≡ edge_of i = λ j. edge (h.1 j) (next_flag (sym here j)) in
      go (test k) (is_leaf x.own.kind) h.0 one
      (edges_from (suc i) ks xs h.2 (λ j b. let r : suc i + j ≡ i + suc j = omega arith in ap (λ (m : ℕ). get_or all m no_fate) r ∙ e (suc j) (omega arith)))
    where
      go : (a b : Bool) → a ≡ b → edge x.own.running (next_flag x) ≡ edge_of i
          → each (λ x. is_leaf x.own.kind) (λ x. edge x.own.running (next_flag x)) xs ≡ map edge_of (places_from test (suc i) ks)
          → cond b (edge x.own.running (next_flag x) ∷ []) [] ++ each (λ x. is_leaf x.own.kind) (λ x. edge x.own.running (next_flag x)) xs
          ≡ map edge_of (listed a i (places_from test (suc i) ks))
      go true true q one r = λ j. one j ∷ r j
      go false false q one r = r
      go true false q one r = absurd (true≢false q)
      go false true q one r = absurd (true≢false (sym q))

-- THE LAW: the edges of a tree
pub edges_are : (f : Forest ℕ) (flags cursors row : List ℕ) → Tests test is_leaf f
    → each (λ x. is_leaf x.own.kind) (λ x. edge x.own.running (next_flag x)) (fates_of f flags cursors row)
    ≡ map (edge_of flags (fates_of f flags cursors row)) (places_from test 0 (preorder f))
unfolding fates_of
edges_are f flags cursors row t =
    edges_from flags (fates_of f flags cursors row) 0 (preorder f) (fates_of f flags cursors row) (fates_own flags cursors row root_call 0 0 0 0 f t)
    (λ j b. let e : 0 + j ≡ j = omega arith in ap (λ (m : ℕ). get_or (fates_of f flags cursors row) m no_fate) e)
