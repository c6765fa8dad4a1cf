-- The loops that merge and scale: a turn, and the end.
use Rattle.std.proofs.Common.{◌≡◌, ℕ, ◌+◌, ◌-◌, ◌≤◌, ◌<◌, Bool, true, false, cond, List, [], ◌∷◌, length, arith}
use lib.Ieee.{Float, eq}
use Rattle.exact.specs.Whole.{zero32}
use Rattle.wire.specs.declared.Form.{Form}
use Rattle.wire.specs.declared.Term.{Term}
use Rattle.wire.specs.Terms.{part, term_at, terms_of}
use Rattle.wire.proofs.Parts.{part_step, part_end}
use Rattle.arena_terms.specs.declared.terms.Next.{Next}
use Rattle.arena_terms.specs.Sums.{kept, merge, times_term, scaled_terms}
use Rattle.arena_terms.specs.Steps.{Put, Stepped}
use Rattle.arena_terms.proofs.First.{part_none}
use Rattle.arena_terms.proofs.Put.{Going, put_keeps, going_on, going_end}

-- one term at most was put
pub put_short : {ws : List ℕ} {cs : List Float} {at : ℕ} (t : Term) {ws' : List ℕ} {cs' : List Float} {at' : ℕ}
    → Put ws cs at (kept (t ∷ [])) ws' cs' at' → at' ≤ at + 1
unfolding kept
put_short t p = omega (arith, p.used, short (eq t.coef zero32))
  where
    short : (b : Bool) → length (cond b [] (t ∷ [])) ≤ 1
    short true = omega arith
    short false = omega arith

module _ {ws₀ : List ℕ} {cs₀ : List Float} {at₀ : ℕ} {all : List Term} {ws : List ℕ} {cs : List Float} {at : ℕ} where
  pub merged_on : {a b : Form} {r : Next} {ws' : List ℕ} {cs' : List Float} {at' : ℕ}
      → Going ws cs at (kept (merge (terms_of ws cs a) (terms_of ws cs b))) ws₀ cs₀ at₀ all → Stepped ws cs a b r
      → Put ws cs at (kept (r.term ∷ [])) ws' cs' at'
      → a.first + a.len ≤ at → b.first + b.len ≤ at
      → Going ws' cs' at' (kept (merge (terms_of ws' cs' r.a) (terms_of ws' cs' r.b))) ws₀ cs₀ at₀ all
  merged_on {r = r} g s p ha hb =
      let a_end = s.a_end in
      let b_end = s.b_end in
      rw (put_keeps p r.a.first r.a.len (omega arith), put_keeps p r.b.first r.b.len (omega arith)) (going_on r.term _ (rw s.merged at g) p)

  pub merged_end : (i n j m : ℕ) → Going ws cs at (kept (merge (part ws cs i n) (part ws cs j m))) ws₀ cs₀ at₀ all
      → n + m ≡ 0 → Put ws₀ cs₀ at₀ all ws cs at
  unfolding kept merge
  merged_end i n j m g e = going_end (rw (part_none ws cs i n (omega arith), part_none ws cs j m (omega arith)) at g)

  pub scaled_on : (factor : Float) (i end : ℕ) {t : Term} {ws' : List ℕ} {cs' : List Float} {at' : ℕ}
      → Going ws cs at (scaled_terms factor (part ws cs i (end - i))) ws₀ cs₀ at₀ all → t ≡ term_at ws cs i
      → Put ws cs at (kept (times_term factor t ∷ [])) ws' cs' at' → i < end → end ≤ at
      → Going ws' cs' at' (scaled_terms factor (part ws' cs' (i + 1) (end - (i + 1)))) ws₀ cs₀ at₀ all
  scaled_on factor i end {t} g e p h h' =
      rw (put_keeps p (i + 1) (end - (i + 1)) (omega arith)) (going_on (times_term factor (term_at ws cs i)) _ (rw (part_step ws cs i end h) at g) (rw e at p))

  pub scaled_end : (factor : Float) (i end : ℕ) → Going ws cs at (scaled_terms factor (part ws cs i (end - i))) ws₀ cs₀ at₀ all
      → end ≤ i → Put ws₀ cs₀ at₀ all ws cs at
  unfolding kept
  scaled_end factor i end g h = going_end (rw (part_end ws cs i end h) at g)
