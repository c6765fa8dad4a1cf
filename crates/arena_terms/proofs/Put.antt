-- What terms that are put at an index leave of the pools: what lies below stays, and the terms are read back.
use mathlib.Core.Path.{◌≡◌, refl, ◌∙◌}
use mathlib.Core.List.{List, [], ◌∷◌, ◌++◌, map, map-append}
use mathlib.Core.Bool.{Bool, true, false, cond}
use Prim.Native.Nat.{ℕ, suc, ◌+◌, ◌≤◌}
use native.Mathlib.Nat.{add-zero, add-suc, suc-add}
use native.Mathlib.Omega.{arith}
use lib.ListN.{length, get_or, set, length-append, length-map, length-set}
use lib.Seq.{sets, get_or-set_same}
use lib.Ieee.{Float, nan, eq}
use Rattle.exact.specs.Whole.{zero32}
use Rattle.wire.specs.declared.Term.{Term}
use Rattle.lists.specs.Each.{each}
use Rattle.wire.specs.Terms.{part, term_at}
use Rattle.lists.proofs.Entries.{each_same}
use Rattle.lists.proofs.Sets.{sets_before}
use Rattle.arena_terms.specs.Sums.{kept}
use Rattle.arena_terms.specs.Steps.{wires_in, coefs_in, Put}

-- ---- lists

module _ {A : Type 0} where
  sets_append : (vs us l : List A) (k : ℕ) → sets (sets l k vs) (k + length vs) us ≡ sets l k (vs ++ us)
  sets_append [] us l k = rw add-zero
  sets_append (v ∷ vs) us l k = rw (add-suc, ← suc-add) (sets_append vs us (set l k v) (suc k))

  -- the same of the images of a list's elements, as a pool holds one field of each term
  then_of : {B : Type 0} (f : B → A) (ts us : List B) (l : List A) (k : ℕ)
      → sets (sets l k (map f ts)) (k + length ts) (map f us) ≡ sets l k (map f (ts ++ us))
  then_of f ts us l k = rw (map-append, ← length-map ts f) (sets_append (map f ts) (map f us) l k)

-- ---- parts of the pools

part_sets : (ws : List ℕ) (cs : List Float) (k : ℕ) (ts : List Term) (i n : ℕ) → i + n ≤ k
    → part (sets ws k (wires_in ts)) (sets cs k (coefs_in ts)) i n ≡ part ws cs i n
unfolding part
part_sets ws cs k ts i n h =
    each_same (term_at (sets ws k (wires_in ts)) (sets cs k (coefs_in ts))) (term_at ws cs) i n
    (λ m a b j. record {
      wire = record { 0 = sets_before (wires_in ts) ws k m 0 (omega arith) j };
      coef = sets_before (coefs_in ts) cs k m nan (omega arith) j;
    })

part_own : (ts : List Term) (ws : List ℕ) (cs : List Float) (k : ℕ) → k + length ts ≤ length ws → k + length ts ≤ length cs
    → part (sets ws k (wires_in ts)) (sets cs k (coefs_in ts)) k (length ts) ≡ ts
unfolding part each
part_own [] ws cs k hw hc = refl
part_own (t ∷ ts) ws cs k hw hc =
    let ws' = set ws k t.wire.0 in
    let cs' = set cs k t.coef in
    let w : get_or (sets ws' (suc k) (wires_in ts)) k 0 ≡ t.wire.0 =
    sets_before (wires_in ts) ws' (suc k) k 0 (omega arith) ∙ get_or-set_same ws k t.wire.0 0 (omega arith) in
    let c : get_or (sets cs' (suc k) (coefs_in ts)) k nan ≡ t.coef =
    sets_before (coefs_in ts) cs' (suc k) k nan (omega arith) ∙ get_or-set_same cs k t.coef nan (omega arith) in
    let rest = part_own ts ws' cs' (suc k) (omega (arith, length-set ws k t.wire.0)) (omega (arith, length-set cs k t.coef)) in
    λ j. record { wire = record { 0 = w j }; coef = c j } ∷ rest j

-- ---- terms put at an index

pub put_nil : (ws : List ℕ) (cs : List Float) (k : ℕ) → Put ws cs k [] ws cs k
put_nil ws cs k = record { wires = refl; coefs = refl; used = omega arith }

module _ {ws : List ℕ} {cs : List Float} {k : ℕ} {ts : List Term} {ws' : List ℕ} {cs' : List Float} {k' : ℕ} (p : Put ws cs k ts ws' cs' k') where
  -- the frame law: a part below the index is as it was
  pub put_keeps : (i n : ℕ) → i + n ≤ k → part ws' cs' i n ≡ part ws cs i n
  put_keeps i n h = rw (p.wires, p.coefs) (part_sets ws cs k ts i n h)

  -- the part that was put
  pub put_own : k + length ts ≤ length ws → k + length ts ≤ length cs → part ws' cs' k (length ts) ≡ ts
  put_own hw hc = rw (p.wires, p.coefs) (part_own ts ws cs k hw hc)

  pub put_then : {us : List Term} {ws'' : List ℕ} {cs'' : List Float} {k'' : ℕ} → Put ws' cs' k' us ws'' cs'' k'' → Put ws cs k (ts ++ us) ws'' cs'' k''
  put_then {us} q =
      record {
        wires = rw (← then_of (λ (t : Term). t.wire.0) ts us ws k, ← p.wires, ← p.used) q.wires;
        coefs = rw (← then_of (λ (t : Term). t.coef) ts us cs k, ← p.coefs, ← p.used) q.coefs;
        used = omega (arith, length-append ts us, p.used, q.used);
      }

-- ---- a loop that puts terms one by one

-- putting what is left, from here on, leaves of the pools what putting all of it left from the start
pub record Going (ws : List ℕ) (cs : List Float) (at : ℕ) (left : List Term) (ws₀ : List ℕ) (cs₀ : List Float) (at₀ : ℕ) (all : List Term) : Type 0 where
  pub wires : sets ws at (wires_in left) ≡ sets ws₀ at₀ (wires_in all)
  pub coefs : sets cs at (coefs_in left) ≡ sets cs₀ at₀ (coefs_in all)
  pub used : at + length left ≡ at₀ + length all

module _ {ws₀ : List ℕ} {cs₀ : List Float} {at₀ : ℕ} {all : List Term} where
  pub going_end : {ws : List ℕ} {cs : List Float} {at : ℕ} → Going ws cs at [] ws₀ cs₀ at₀ all → Put ws₀ cs₀ at₀ all ws cs at
  going_end g = record { wires = g.wires; coefs = g.coefs; used = omega (arith, g.used) }

  -- the first term put, unless its coefficient is 0
  module _ (t : Term) (ts : List Term) {ws : List ℕ} {cs : List Float} {at : ℕ} {ws' : List ℕ} {cs' : List Float} {at' : ℕ} where
    by_test : (b : Bool) → Going ws cs at (cond b (kept ts) (t ∷ kept ts)) ws₀ cs₀ at₀ all → Put ws cs at (cond b [] (t ∷ [])) ws' cs' at'
        → Going ws' cs' at' (kept ts) ws₀ cs₀ at₀ all
    by_test true g p =
        let q : at' ≡ at = omega (arith, p.used) in
        record { wires = rw (p.wires, q) g.wires; coefs = rw (p.coefs, q) g.coefs; used = omega (arith, g.used) }
    by_test false g p =
        let q : at' ≡ suc at = omega (arith, p.used) in
        record { wires = rw (p.wires, q) g.wires; coefs = rw (p.coefs, q) g.coefs; used = omega (arith, g.used) }

    pub going_on : Going ws cs at (kept (t ∷ ts)) ws₀ cs₀ at₀ all → Put ws cs at (kept (t ∷ [])) ws' cs' at' → Going ws' cs' at' (kept ts) ws₀ cs₀ at₀ all
    unfolding kept
    going_on = by_test (eq t.coef zero32)
