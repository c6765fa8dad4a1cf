-- A form cut after some terms: what holds of the form's terms holds of those that are left.
use mathlib.Core.Path.{◌≡◌, refl, ap}
use mathlib.Core.Bool.{Bool, true, false}
use mathlib.Core.List.{List, [], ◌∷◌}
use Prim.Native.Nat.{ℕ, zero, suc, ◌+◌, ◌≤◌}
use native.Mathlib.Omega.{arith}
use borrow.Author.Tests.{leb-true, leb-false}
use lib.Dec.{leb}
use lib.ListN.{take, length-take}
use lib.Seq.{take-take, take_all}
use Rattle.wire.specs.declared.Term.{Term as FloatTerm}
use Rattle.construct.specs.Pairs.{Form, Term}
use Rattle.construct.specs.Scope.{Within, Reads}
use Rattle.construct.specs.Value.{sum_p, sum_n}
use Rattle.construct_sizes.specs.Exact.{Sums, Products, Coefs, Small}
use Rattle.construct_faithful.proofs.Float.{float_term, float_terms}

abbrev pub cut : ℕ → Form → Form
cut i g = record { bp = g.bp; bn = g.bn; terms = take i g.terms }

within_cut : (i b n : ℕ) (ts : List Term) → Within b n ts → Within b n (take i ts)
within_cut zero b n ts w = tt
within_cut (suc i) b n [] w = tt
within_cut (suc i) b n (t ∷ ts) w = (w.0, w.1, w.2, within_cut i (suc t.wire) n ts w.3)

pub reads_cut : (i n : ℕ) (g : Form) → Reads n g → Reads n (cut i g)
reads_cut i n g r = within_cut i 0 n g.terms r

coefs_cut : (i C : ℕ) (ts : List Term) → Coefs C ts → Coefs C (take i ts)
coefs_cut zero C ts w = tt
coefs_cut (suc i) C [] w = tt
coefs_cut (suc i) C (t ∷ ts) w = (w.0, coefs_cut i C ts w.1)

pub small_cut : (i C : ℕ) (g : Form) → Small C g → Small C (cut i g)
small_cut i C g s = (s.0, s.1, coefs_cut i C g.terms s.2)

pub products_cut : (ρ : ℕ → ℕ) (i C : ℕ) (ts : List Term) → Products ρ C ts → Products ρ C (take i ts)
products_cut ρ zero C ts w = tt
products_cut ρ (suc i) C [] w = tt
products_cut ρ (suc i) C (t ∷ ts) w = (w.0, products_cut ρ i C ts w.1)

abbrev Sum : (ℕ → ℕ) → Form → List Term → Type 0
Sum ρ g ts = (g.bp + sum_p ρ ts ≤ g.bn + sum_n ρ ts + 16777215) × (g.bn + sum_n ρ ts ≤ g.bp + sum_p ρ ts + 16777215)

pub sums_cut : (ρ : ℕ → ℕ) (i : ℕ) (g : Form) → Sums ρ g → Sums ρ (cut i g)
sums_cut ρ i g s j = go (leb j i) refl
  where
    go : (b : Bool) → leb j i ≡ b → Sum ρ g (take j (take i g.terms))
    go true e = rw (take-take j i g.terms (leb-true j i e)) (s j)
    go false e = let h = leb-false j i e in rw (take_all j (take i g.terms) (omega (arith, length-take i g.terms))) (s i)

pub cut_terms : (i : ℕ) (ts : List Term) → take i (float_terms ts) ≡ float_terms (take i ts)
cut_terms zero ts = refl
cut_terms (suc i) [] = refl
cut_terms (suc i) (t ∷ ts) = ap (λ (l : List FloatTerm). float_term t ∷ l) (cut_terms i ts)
