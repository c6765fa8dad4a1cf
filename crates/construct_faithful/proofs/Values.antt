-- Evaluating f32 forms and ops in a table of floats is evaluating whole ones in the table of naturals, value for value.
use Prim.Native.Nat.{◌*◌, ◌+◌, ◌-◌, ◌<◌, ◌≤◌, suc, zero, ℕ}
use native.Mathlib.Omega.{arith}
use mathlib.Core.List.{List, [], ◌++◌, ◌∷◌}
use mathlib.Core.Path.{◌∙◌, ◌≡◌, ap, refl, sym}
use lib.Ieee.{Float, add, binary32, low, mul, nan}
use lib.ListN.{get_or-append, get_or, length, length-append, take}
use Rattle.construct_faithful.proofs.Table.{float_table}
use Rattle.construct.proofs.Scope.{agree_op}
use Rattle.construct.specs.Circuit.{op_forms}
use Rattle.construct.specs.Pairs.{Form, Op, Term}
use Rattle.construct.specs.Scope.{InOrder, Reads, Within}
use Rattle.construct.specs.Value.{N, P, cell, op_val, sum_n, sum_p, table_of}
use Rattle.exact.proofs.Tests.{relu_diff}
use Rattle.exact.proofs.Whole.{add_mul_diff, diff_same, mul_diff}
use Rattle.exact.specs.Tests.{relu}
use Rattle.exact.specs.Whole.{diff}
use Rattle.construct_faithful.proofs.Float.{float, float_terms}
use Rattle.construct_floats.specs.Floats.{number}
use Rattle.construct_instances.proofs.Respects.{of_op}
use Rattle.construct_sizes.specs.Exact.{Coefs, OpExact, Products, Small, Sums}
use Rattle.lists.proofs.Every.{all_append}
use Rattle.lists.specs.Every.{All}
use Rattle.wire.specs.Terms.{added, value_in}
use mathlib.Core.List.{map}
use Rattle.exact.specs.Whole as E

take_all : {X : Type 0} (xs : List X) → take (length xs) xs ≡ xs
take_all [] = refl
take_all {X} (x ∷ xs) = ap (λ (l : List X). x ∷ l) (take_all xs)

-- a table of naturals as one of floats
abbrev pub numbers : List ℕ → List Float
numbers table = map (λ (v : ℕ). number v) table

number_at : (table : List ℕ) (w : ℕ) → w < length table → get_or (numbers table) w nan ≡ number (cell table w)
number_at [] w l = absurd (omega arith)
number_at (v ∷ vs) zero l = refl
number_at (v ∷ vs) (suc w) l = number_at vs w (omega arith)

-- a whole number and a value of at most 2^24 in size
within : (p q : ℕ) → p ≤ q + 16777216 → q ≤ p + 16777216 → E.Within binary32 p q
within p q a b = (omega (arith, a), omega (arith, b))

-- a table that is part of a larger one, ρ
module _ (table : List ℕ) (ρ : ℕ → ℕ) (part : (w : ℕ) → w < length table → ρ w ≡ cell table w) (low : (w : ℕ) → w < length table → ρ w ≤ 16777216) where
  -- from p - q on, term by term
  added_is : (p q b : ℕ) (ts : List Term) → Within b (length table) ts → Coefs 65536 ts → Products ρ 16777216 ts
      → ((i : ℕ) → (p + sum_p ρ (take i ts) ≤ q + sum_n ρ (take i ts) + 16777215) × (q + sum_n ρ (take i ts) ≤ p + sum_p ρ (take i ts) + 16777215))
      → added (numbers table) (float_terms ts) (diff binary32 p q) ≡ diff binary32 (p + sum_p ρ ts) (q + sum_n ρ ts)
  unfolding added sum_p sum_n
  added_is p q b [] w c m r = diff_same binary32 p q (p + 0) (q + 0) (omega arith)
  added_is p q b (t ∷ ts) w c m r =
      let v = ρ t.wire in
      let r0 = r 0 in
      let e : get_or (numbers table) t.wire nan ≡ number v = number_at table t.wire w.1 ∙ ap (λ (n : ℕ). number n) (sym (part t.wire w.1)) in
      let one : add binary32 (diff binary32 p q) (mul binary32 (diff binary32 t.cp t.cn) (get_or (numbers table) t.wire nan)) ≡ diff binary32 (p + t.cp * v) (q + t.cn * v)
      = ap (λ (x : Float). add binary32 (diff binary32 p q) (mul binary32 (diff binary32 t.cp t.cn) x)) e
      ∙ add_mul_diff binary32 p q t.cp t.cn v 0 (within p q (omega (arith, r0.0)) (omega (arith, r0.1)))
      (within t.cp t.cn (omega (arith, c.0.0)) (omega (arith, c.0.1))) (within v 0 (omega (arith, low t.wire w.1)) (omega arith))
      (within (t.cp * v + t.cn * 0) (t.cp * 0 + t.cn * v) (omega (arith, m.0.0)) (omega (arith, m.0.1)))
      ∙ diff_same binary32 _ _ (p + t.cp * v) (q + t.cn * v) (omega arith) in
      ap (λ (x : Float). added (numbers table) (float_terms ts) x) one
      ∙ added_is (p + t.cp * v) (q + t.cn * v) (suc t.wire) ts w.3 c.1 m.1 (λ i. let n = r (suc i) in (omega (arith, n.0), omega (arith, n.1)))
      ∙ diff_same binary32 _ _ (p + (t.cp * v + sum_p ρ ts)) (q + (t.cn * v + sum_n ρ ts)) (omega arith)

  -- THE LAW: a form's value in floats is its value in whole numbers
  pub form_value : (f : Form) → Reads (length table) f → Small 65536 f → Sums ρ f → Products ρ 16777216 f.terms
      → value_in (numbers table) (float f) ≡ diff binary32 (P ρ f) (N ρ f)
  unfolding float P N
  form_value f w s r m = added_is f.bp f.bn 0 f.terms w s.2 m r

  -- the whole sum is the last running sum
  whole : (f : Form) → Sums ρ f → (P ρ f ≤ N ρ f + 16777215) × (N ρ f ≤ P ρ f + 16777215)
  unfolding P N
  whole f r = let h = r (length f.terms) in rw (take_all f.terms) at h

  -- and so is an op's: left times max(0, gate)
  pub op_value_lem : (o : Op) → Reads (length table) o.left → Reads (length table) o.gate → Small 65536 o.left → Small 65536 o.gate → Sums ρ o.left → Sums ρ o.gate
      → Products ρ 16777216 o.left.terms → Products ρ 16777216 o.gate.terms → OpExact ρ o
      → mul binary32 (value_in (numbers table) (float o.left)) (relu (value_in (numbers table) (float o.gate))) ≡ number (op_val ρ o)
  unfolding op_val
  op_value_lem o wl wg sl sg rl rg ml mg x =
      let l = P ρ o.left - N ρ o.left in
      let g = P ρ o.gate - N ρ o.gate in
      let el : value_in (numbers table) (float o.left) ≡ diff binary32 l 0 = form_value o.left wl sl rl ml ∙ diff_same binary32 (P ρ o.left) (N ρ o.left) l 0 (omega (arith, x.left)) in
      let bl = whole o.left rl in
      let bg = whole o.gate rg in
      let eg : relu (value_in (numbers table) (float o.gate)) ≡ diff binary32 g 0 = ap relu (form_value o.gate wg sg rg mg) ∙ relu_diff (P ρ o.gate) (N ρ o.gate) (within (P ρ o.gate) (N ρ o.gate) (omega (arith, bg.0)) (omega (arith, bg.1))) in
      (λ i. mul binary32 (el i) (eg i))
      ∙ mul_diff binary32 l 0 g 0 (omega arith) (omega arith) (within l 0 (omega (arith, bl.0)) (omega arith)) (within g 0 (omega (arith, bg.0)) (omega arith))
      ∙ diff_same binary32 (l * g + 0 * 0) (l * 0 + 0 * g) (l * g) 0 (omega arith)

-- ---- the whole table

pub stays : (ins : List ℕ) (os : List Op) (w : ℕ) → w < length ins → cell (table_of ins os) w ≡ cell ins w
unfolding table_of
stays ins [] w l = refl
stays ins (o ∷ os) w l =
    let v = op_val (cell ins) o in
    stays (ins ++ (v ∷ [])) os w (simp length-append (omega arith)) ∙ get_or-append ins (v ∷ []) 0 w l

each_low : (xs : List ℕ) → All (λ (v : ℕ). v ≤ 16777216) xs → (w : ℕ) → cell xs w ≤ 16777216
each_low [] h w = omega arith
each_low (x ∷ xs) h zero = h.0
each_low (x ∷ xs) h (suc w) = each_low xs h.1 w

numbers_append : (xs : List ℕ) (v : ℕ) → numbers (xs ++ (v ∷ [])) ≡ numbers xs ++ (number v ∷ [])
numbers_append [] v = refl
numbers_append (x ∷ xs) v = ap (λ (l : List Float). number x ∷ l) (numbers_append xs v)

next : (n m : ℕ) (os : List Op) → n ≡ m → InOrder n os → InOrder m os
next n m os e h = rw (← e) h

-- THE LAW: the table that f32 ops make of the cells' floats is the table of naturals, value for value
pub same_table : (ins : List ℕ) (os : List Op) → InOrder (length ins) os → All (λ (v : ℕ). v ≤ 16777216) ins → All (Small 65536) (op_forms os)
    → All (Sums (cell (table_of ins os))) (op_forms os) → All (λ (f : Form). Products (cell (table_of ins os)) 16777216 f.terms) (op_forms os) → All (OpExact (cell (table_of ins os))) os
    → float_table (numbers ins) (map (of_op float) os) ≡ numbers (table_of ins os)
unfolding table_of float_table op_forms
same_table ins [] w low s r m x = refl
same_table ins (o ∷ os) w low s r m x =
    let ρ = cell (table_of ins (o ∷ os)) in
    let n = length ins in
    let v = op_val (cell ins) o in
    let part : (k : ℕ) → k < n → ρ k ≡ cell ins k = stays ins (o ∷ os) in
    let same : op_val ρ o ≡ v = agree_op n (cell ins) ρ part o w.0 w.1 in
    let e : mul binary32 (value_in (numbers ins) (float o.left)) (relu (value_in (numbers ins) (float o.gate))) ≡ number v
    = op_value_lem ins ρ part (λ k l. rw (part k l) (each_low ins low k)) o w.0 w.1 s.0 s.1.0 r.0 r.1.0 m.0 m.1.0 x.0 ∙ ap (λ (k : ℕ). number k) same in
    ap (λ (y : Float). float_table (numbers ins ++ (y ∷ [])) (map (of_op float) os)) e
    ∙ ap (λ (l : List Float). float_table l (map (of_op float) os)) (sym (numbers_append ins v))
    ∙ same_table (ins ++ (v ∷ [])) os (next (suc n) (length (ins ++ (v ∷ []))) os (simp length-append (omega arith)) w.2)
    (all_append (λ (k : ℕ). k ≤ 16777216) ins (v ∷ []) low (omega (arith, x.0.value, same), tt)) s.1.1 r.1.1 m.1.1 x.1
