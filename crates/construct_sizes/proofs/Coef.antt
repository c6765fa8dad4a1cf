-- A bias is the form's value at the table of zeros; the product of a coefficient and a wire's value is the difference that this one value
-- makes, and the coefficient itself is its product with 1.
use Prim.Native.Nat.{◌+◌, ◌<◌, ◌≤◌, suc, ℕ}
use native.Mathlib.Omega.{arith}
use mathlib.Core.Bool.{Bool, cond, false, true}
use mathlib.Core.List.{List, [], ◌∷◌}
use mathlib.Core.Logic.{◌≢◌}
use mathlib.Core.Path.{◌≡◌, refl}
use lib.Dec.{T, eqb, eqb_refl, eqb→eq}
use Rattle.construct.proofs.Bits.{is_false, is_true}
use Rattle.construct.specs.Pairs.{Form, Term}
use Rattle.construct.specs.Scope.{Reads, Within}
use Rattle.construct.specs.Value.{N, P, sum_n, sum_p}
use Rattle.construct_sizes.proofs.Bounds.{Below, Bits, Low}
use Rattle.construct_sizes.specs.Exact.{Coefs, Products, Small}

-- a table with one value
module _ (ρ : ℕ → ℕ) where
  only : ℕ → ℕ → ℕ
  only w x = cond (eqb x w) (ρ w) 0

  only_le : (w x : ℕ) → only w x ≤ ρ x
  unfolding only
  only_le w x = go (eqb x w) (eqb→eq x w)
    where
      go : (b : Bool) → (T b → x ≡ w) → cond b (ρ w) 0 ≤ ρ x
      go true h = rw (h tt) (omega arith)
      go false h = omega arith

  only_at : (w : ℕ) → only w w ≡ ρ w
  unfolding only
  only_at w = rw (is_true (eqb w w) (eqb_refl w))

  only_other : (w x : ℕ) → x ≢ w → only w x ≡ 0
  unfolding only
  only_other w x h = rw (is_false (eqb x w) λ t. h (eqb→eq x w t))

  past : (w b n : ℕ) (ts : List Term) → w < b → Within b n ts → (sum_p (only w) ts ≡ 0) × (sum_n (only w) ts ≡ 0)
  unfolding sum_p sum_n
  past w b n [] l h = (refl, refl)
  past w b n (t ∷ ts) l h =
      let r = past w (suc t.wire) n ts (omega arith) h.3 in
      let e : only w t.wire ≡ 0 = only_other w t.wire (λ i. omega arith) in
      (rw e (omega (arith, r.0)), rw e (omega (arith, r.1)))

  -- what a single value makes of a form is its product and the bias
  alone : (C D p q b n : ℕ) (all ts : List Term) → ((w : ℕ) → b ≤ w → (sum_p (only w) all ≡ sum_p (only w) ts) × (sum_n (only w) all ≡ sum_n (only w) ts))
      → ((w : ℕ) → (p + sum_p (only w) all ≤ q + sum_n (only w) all + C) × (q + sum_n (only w) all ≤ p + sum_p (only w) all + C)) → p ≤ q + D → q ≤ p + D → Within b n ts → Products ρ (C + D) ts
  unfolding sum_p sum_n
  alone C D p q b n all [] same h pq qp w = tt
  alone C D p q b n all (t ∷ ts) same h pq qp w =
      let e = same t.wire w.0 in
      let r = past t.wire (suc t.wire) n ts (omega arith) w.3 in
      let g = h t.wire in
      let o : only t.wire t.wire ≡ ρ t.wire = only_at t.wire in
      let e₀ = rw o at e.0 in
      let e₁ = rw o at e.1 in (
        (omega (arith, g.0, e₀, e₁, r.0, r.1), omega (arith, g.1, e₀, e₁, r.0, r.1)),
        alone C D p q (suc t.wire) n all ts (λ x l. let z = same x (omega arith) in let f : only x t.wire ≡ 0 = only_other x t.wire (λ i. omega arith) in
            (omega (arith, rw f at z.0), omega (arith, rw f at z.1))) h pq qp w.3,
      )

zeros : (ts : List Term) → (sum_p (λ w. 0) ts ≡ 0) × (sum_n (λ w. 0) ts ≡ 0)
unfolding sum_p sum_n
zeros [] = (refl, refl)
zeros (t ∷ ts) = let r = zeros ts in (omega (arith, r.0), omega (arith, r.1))

-- every product, from the form's size at tables below ρ and its bias
pub products : (ρ : ℕ → ℕ) (C D n : ℕ) (f : Form) → Reads n f → Low (Below ρ) C f → f.bp ≤ f.bn + D → f.bn ≤ f.bp + D → Products ρ (C + D) f.terms
unfolding P N
products ρ C D n f w h a b = alone ρ C D f.bp f.bn 0 n f.terms f.terms (λ x l. (refl, refl)) (λ x. h (only ρ x) (only_le ρ x)) a b w

-- coefficients and bias, from its size at tables of zeros and ones
coefs : (C : ℕ) (ts : List Term) → Products (λ w. 1) C ts → Coefs C ts
coefs C [] h = tt
coefs C (t ∷ ts) h = ((omega (arith, h.0.0), omega (arith, h.0.1)), coefs C ts h.1)

pub small : (C n : ℕ) (f : Form) → Reads n f → Low Bits C f → Small (C + C) f
unfolding P N
small C n f w h =
    let z = h (λ x. 0) (λ x. omega arith) in
    let s = zeros f.terms in
    let a : f.bp ≤ f.bn + C = omega (arith, z.0, s.0, s.1) in
    let b : f.bn ≤ f.bp + C = omega (arith, z.1, s.0, s.1) in
    (omega arith, omega arith, coefs (C + C) f.terms (products (λ w. 1) C C n f w h a b))
