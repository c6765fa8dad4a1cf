-- The loop that lists the nodes of two kinds: what holds at its head, and that each way through a turn keeps it.
use Rattle.std.proofs.Common.{◌⊎◌, inl, inr, eqb, ◌||◌, eq-eqb, ne_eqb, ◌≡◌, refl, ◌∙◌, ap, Bool, true, false, List, [], ◌∷◌, ℕ, suc, ◌+◌, ◌≤◌, ◌<◌, add-one}
use Rattle.std.proofs.Common.{arith, length, get_or, set, drop, drop_of_length-le, drop-cons}
use Rattle.std.proofs.Math.Seq.{sets}
use Rattle.plan.specs.Plan.{listed, places_from, either_kind}
use Rattle.plan.proofs.Said.{Said, said_none, said_more, said_as, said_all}

-- two tests that always agree list the same
same_test : (p q : ℕ → Bool) → ((k : ℕ) → p k ≡ q k) → (n : ℕ) (kinds : List ℕ) → places_from p n kinds ≡ places_from q n kinds
same_test p q e n [] = refl
same_test p q e n (k ∷ kinds) = rw (e k, same_test p q e (suc n) kinds)

-- a leaf is of kind 1, or of kind 1
pub same_leaves : (kinds : List ℕ) → places_from (either_kind 1 1) 0 kinds ≡ places_from (λ kind. eqb kind 1) 0 kinds
same_leaves kinds = same_test _ _ (λ kind. twice (eqb kind 1)) 0 kinds
  where
    twice : (b : Bool) → (b || b) ≡ b
    twice true = refl
    twice false = refl

pub either_true : (one other kind : ℕ) → (kind ≡ one) ⊎ ((kind ≡ one → ⊥) × (kind ≡ other)) → either_kind one other kind ≡ true
either_true one other kind (inl e) = rw (eq-eqb kind one e)
either_true one other kind (inr h) = rw (ne_eqb kind one h.0, eq-eqb kind other h.1)

pub either_false : (one other kind : ℕ) → (kind ≡ one → ⊥) → (kind ≡ other → ⊥) → either_kind one other kind ≡ false
either_false one other kind n m = rw (ne_eqb kind one n, ne_eqb kind other m)

-- the first of the nodes are passed, and those among them that pass the test are listed
pub record At (test : ℕ → Bool) (kinds entry now : List ℕ) (found node : ℕ) : Type 0 where
  pub fewer : found ≤ node
  pub said : Said (places_from test 0 kinds) entry now found (places_from test node (drop node kinds))

pub start : (test : ℕ → Bool) (kinds entry : List ℕ) → At test kinds entry entry 0 0
start test kinds entry = record { fewer = omega arith; said = said_none _ entry }

module _ (test : ℕ → Bool) (kinds entry now : List ℕ) (found node : ℕ) (a : At test kinds entry now found node) where
  next : node < length kinds
      → places_from test node (drop node kinds) ≡ listed (test (get_or kinds node 0)) node (places_from test (node + 1) (drop (node + 1) kinds))
  next h = rw (add-one node, drop-cons kinds node 0 h)

  pub passed : node < length kinds → test (get_or kinds node 0) ≡ true → At test kinds entry (set now found node) (found + 1) (node + 1)
  passed h t =
      let r = places_from test (node + 1) (drop (node + 1) kinds) in
      record { fewer = omega (arith, a.fewer); said = said_more node r (said_as _ (node ∷ r) (next h ∙ rw t) a.said) }

  pub failed : node < length kinds → test (get_or kinds node 0) ≡ false → At test kinds entry now found (node + 1)
  failed h t = record { fewer = omega (arith, a.fewer); said = said_as _ _ (next h ∙ rw t) a.said }

  pub ended : length kinds ≤ node → (found ≡ length (places_from test 0 kinds)) × (now ≡ sets entry 0 (places_from test 0 kinds))
  ended h = said_all (said_as _ [] (ap (places_from test node) (drop_of_length-le kinds {i = node} h)) a.said)
