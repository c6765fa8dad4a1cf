-- A running sum of a form, bias first and then the terms in order, is the form's value in a table cut off at some wire.
use Prim.Native.Nat.{◌<◌, ◌≤◌, suc, zero, ℕ}
use native.Mathlib.Omega.{arith}
use mathlib.Core.Bool.{Bool, cond, false, true}
use mathlib.Core.List.{List, [], ◌∷◌}
use mathlib.Core.Path.{◌≡◌, refl}
use lib.Dec.{ltb, ltb→lt, lt→ltb}
use lib.ListN.{take}
use Rattle.construct.proofs.Bits.{is_false, is_true}
use Rattle.construct.specs.Pairs.{Form, Term}
use Rattle.construct.specs.Scope.{Reads, Within}
use Rattle.construct.specs.Value.{N, P, sum_n, sum_p}
use Rattle.construct_sizes.proofs.Bounds.{Below, Low}
use Rattle.construct_sizes.specs.Exact.{Sums}

trunc : ℕ → (ℕ → ℕ) → ℕ → ℕ
trunc j ρ w = cond (ltb w j) (ρ w) 0

trunc_le : (j : ℕ) (ρ : ℕ → ℕ) (w : ℕ) → trunc j ρ w ≤ ρ w
unfolding trunc
trunc_le j ρ w = go (ltb w j)
  where
    go : (b : Bool) → cond b (ρ w) 0 ≤ ρ w
    go true = omega arith
    go false = omega arith

trunc_in : (j : ℕ) (ρ : ℕ → ℕ) (w : ℕ) → w < j → trunc j ρ w ≡ ρ w
unfolding trunc
trunc_in j ρ w h = rw (is_true (ltb w j) (lt→ltb w j h))

trunc_out : (j : ℕ) (ρ : ℕ → ℕ) (w : ℕ) → j ≤ w → trunc j ρ w ≡ 0
unfolding trunc
trunc_out j ρ w h = rw (is_false (ltb w j) λ t. let k : w < j = ltb→lt w j t in omega arith)

cut_all : (ρ : ℕ → ℕ) (j b n : ℕ) (ts : List Term) → j ≤ b → Within b n ts → (sum_p (trunc j ρ) ts ≡ 0) × (sum_n (trunc j ρ) ts ≡ 0)
unfolding sum_p sum_n
cut_all ρ j b n [] l w = (refl, refl)
cut_all ρ j b n (t ∷ ts) l w =
    let r = cut_all ρ j (suc t.wire) n ts (omega arith) w.3 in
    (rw (trunc_out j ρ t.wire (omega arith)) (omega (arith, r.0)), rw (trunc_out j ρ t.wire (omega arith)) (omega (arith, r.1)))

record Cut (ρ : ℕ → ℕ) (b i : ℕ) (ts : List Term) : Type 0 where
  at' : ℕ
  from : b ≤ at'
  p : sum_p (trunc at' ρ) ts ≡ sum_p ρ (take i ts)
  n : sum_n (trunc at' ρ) ts ≡ sum_n ρ (take i ts)

cut : (ρ : ℕ → ℕ) (b n : ℕ) (ts : List Term) (i : ℕ) → Within b n ts → Cut ρ b i ts
unfolding sum_p sum_n
cut ρ b n ts zero w = let r = cut_all ρ b b n ts (omega arith) w in record { at' = b; from = omega arith; p = r.0; n = r.1 }
cut ρ b n [] (suc i) w = record { at' = b; from = omega arith; p = refl; n = refl }
cut ρ b n (t ∷ ts) (suc i) w =
    let r = cut ρ (suc t.wire) n ts i w.3 in
    let f : suc t.wire ≤ r.at' = r.from in
    record { at' = r.at'; from = omega arith; p = rw (trunc_in r.at' ρ t.wire (omega arith), r.p); n = rw (trunc_in r.at' ρ t.wire (omega arith), r.n) }

-- a bound at every table below ρ bounds every running sum
pub sums : (ρ : ℕ → ℕ) (B n : ℕ) (f : Form) → B ≤ 16777215 → Reads n f → Low (Below ρ) B f → Sums ρ f
unfolding P N
sums ρ B n f b w h i =
    let c = cut ρ 0 n f.terms i w in
    let l = h (trunc c.at' ρ) (trunc_le c.at' ρ) in
    (omega (arith, l.0, c.p, c.n), omega (arith, l.1, c.p, c.n))
