-- What the slots that flattening leaves, zeros after the nodes, hold: the plan's lists are the nodes' own, and so are the nodes read from
-- them.
use Prim.Native.Nat.{ℕ, zero, suc, ◌+◌, ◌-◌, ◌≤◌, ◌<◌}
use native.Mathlib.Omega.{arith}
use mathlib.Core.Bool.{Bool, false}
use mathlib.Core.List.{List, [], ◌∷◌, ◌++◌}
use mathlib.Core.Path.{◌≡◌, ◌∙◌, ap, refl, sym}
use lib.Dec.{eqb}
use lib.ListN.{get_or-append, get_or, length, replicate, take}
use lib.Seq.{take_all, take-append_seam}
use Rattle.construct.specs.Circuit.{flats}
use Rattle.construct.specs.Lower.{flat_of}
use Rattle.lower_ordered_laws.proofs.Passes.{NodesAt}
use Rattle.plan.specs.Plan.{cursors_of, either_kind, leaves_of, listed, places_from}
use Rattle.tree.specs.Tree.{padded}
use Rattle.walk.specs.Kind.{kind_of}

-- ---- the plan's lists

-- no test passes a slot that holds no node
module _ (test : ℕ → Bool) (blank : test 0 ≡ false) where
  no_place : (n m i : ℕ) → places_from test i (take n (replicate m 0)) ≡ []
  no_place zero m i = refl
  no_place (suc n) zero i = refl
  no_place (suc n) (suc m) i = rw blank (no_place n m (suc i))

  places_padded : (n m i : ℕ) (ks : List ℕ) → length ks ≤ n → places_from test i (take n (ks ++ replicate m 0)) ≡ places_from test i ks
  places_padded n m i [] l = no_place n m i
  places_padded zero m i (k ∷ ks) l = absurd (omega arith)
  places_padded (suc n) m i (k ∷ ks) l = ap (listed (test k) i) (places_padded n m (suc i) ks (omega arith))

  pub same_places : (n : ℕ) (ks : List ℕ) → length ks ≤ 128 → places_from test 0 (take 128 (padded n ks)) ≡ places_from test 0 (take 128 ks)
  same_places n ks l = places_padded 128 (n - length ks) 0 ks l ∙ ap (places_from test 0) (sym (take_all 128 ks l))

pub same_leaves : (n : ℕ) (ks : List ℕ) → length ks ≤ 128 → leaves_of (padded n ks) ≡ leaves_of ks
unfolding leaves_of
same_leaves n ks l = same_places (λ kind. eqb kind 1) refl n ks l

pub same_cursors : (n : ℕ) (ks : List ℕ) → length ks ≤ 128 → cursors_of (padded n ks) ≡ cursors_of ks
unfolding cursors_of
same_cursors n ks l = same_places (either_kind 4 6) refl n ks l

-- ---- the nodes read from the slots

-- the slots from i on begin with these numbers
abbrev Begin : List ℕ → ℕ → List ℕ → Type 0
Begin slots i xs = (j : ℕ) → j < length xs → get_or slots (i + j) 0 ≡ get_or xs j 0

begin_next : (slots : List ℕ) (i x : ℕ) (xs : List ℕ) → Begin slots i (x ∷ xs) → Begin slots (suc i) xs
begin_next slots i x xs h j l = let e : suc i + j ≡ i + suc j = omega arith in ap (λ (k : ℕ). get_or slots k 0) e ∙ h (suc j) (omega arith)

begin_first : (slots : List ℕ) (i x : ℕ) (xs : List ℕ) → Begin slots i (x ∷ xs) → get_or slots i 0 ≡ x
begin_first slots i x xs h = let e : i ≡ i + 0 = omega arith in ap (λ (k : ℕ). get_or slots k 0) e ∙ h 0 (omega arith)

nodes_from : (kinds counts : List ℕ) (i : ℕ) (ks cs : List ℕ) → Begin kinds i ks → Begin counts i cs → NodesAt kinds counts i (flats ks cs)
nodes_from kinds counts i [] cs h h' = tt
nodes_from kinds counts i (k ∷ ks) [] h h' = tt
nodes_from kinds counts i (k ∷ ks) (c ∷ cs) h h' =
    ((λ x. flat_of (kind_of (begin_first kinds i k ks h x)) (begin_first counts i c cs h' x)), nodes_from kinds counts (suc i) ks cs (begin_next kinds i k ks h) (begin_next counts i c cs h'))

padded_begin : (n : ℕ) (xs : List ℕ) → Begin (padded n xs) 0 xs
padded_begin n xs j l = let e : 0 + j ≡ j = omega arith in ap (λ (k : ℕ). get_or (padded n xs) k 0) e ∙ get_or-append xs (replicate (n - length xs) 0) 0 j l

pub nodes_at : (n m : ℕ) (ks cs : List ℕ) → NodesAt (padded n ks) (padded m cs) 0 (flats ks cs)
nodes_at n m ks cs = nodes_from (padded n ks) (padded m cs) 0 ks cs (padded_begin n ks) (padded_begin m cs)

pub padded_back : (n : ℕ) (xs : List ℕ) → take (length xs) (padded n xs) ≡ xs
padded_back n xs = take-append_seam xs (replicate (n - length xs) 0)
