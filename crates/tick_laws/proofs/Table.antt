-- The value table that a tick computes begins with the floats of the tree's value table.
use mathlib.Core.Path.{◌≡◌, refl, sym, ◌∙◌, ap}
use mathlib.Core.List.{List, [], ◌∷◌, ◌++◌, map, map-append}
use Prim.Native.Nat.{ℕ, zero, suc, ◌+◌, ◌≤◌, ◌<◌}
use native.Mathlib.Omega.{arith}
use lib.ListN.{length, get_or, set, take, length-append}
use lib.Seq.{take-suc-set, take-suc, take-length, get_or-take, get_or_at}
use lib.Ieee.{Float, nan, binary32, add, mul}
use Rattle.exact.specs.Tests.{relu}
use Rattle.exact.specs.Whole.{diff}
use Rattle.wire.specs.Terms.{Affine, added, value_in}
use Rattle.wire.specs.Storage as W
use Rattle.wire_pool.specs.Values.{op_value, table_after}
use Rattle.wire_pool.proofs.Sums.{after_length}
use Rattle.lists.specs.Every.{All}
use Rattle.lists.proofs.Every.{all_append}
use Rattle.construct.specs.Builder as B
use Rattle.construct.specs.Pairs.{Form, Op, Term}
use Rattle.construct.specs.Scope.{Within, Reads, InOrder}
use Rattle.construct.specs.Value.{cell, op_val, table_of}
use Rattle.construct.proofs.Scope.{agree_op}
use Rattle.construct_sizes.specs.Exact.{OpExact}
use Rattle.construct_instances.proofs.Respects.{of_op}
use Rattle.construct_faithful.proofs.Float.{float, float_terms}
use Rattle.construct_faithful.proofs.Table.{float_table}
use Rattle.construct_faithful.proofs.Values.{stays}
use Rattle.compile_laws.proofs.Encoded.{op_in}
use Rattle.compile_laws.proofs.Cells.{Low}
use Rattle.compile_laws.proofs.Images.{in_order_at}
use Rattle.compile_laws.proofs.Passes.{z_op}

-- ---- a form reads no further than its scope

added_take : (m : ℕ) (table : List Float) (b : ℕ) (ts : List Term) (x : Float) → Within b m ts
    → added table (float_terms ts) x ≡ added (take m table) (float_terms ts) x
unfolding added
added_take m table b [] x w = refl
added_take m table b (t ∷ ts) x w =
    let c = diff binary32 t.cp t.cn in
    added_take m table (suc t.wire) ts (add binary32 x (mul binary32 c (get_or table t.wire nan))) w.3
    ∙ ap (λ (v : Float). added (take m table) (float_terms ts) (add binary32 x (mul binary32 c v))) (sym (get_or-take m table t.wire nan w.1))

pub value_take : (m : ℕ) (table : List Float) (g : Form) → Reads m g → value_in table (float g) ≡ value_in (take m table) (float g)
unfolding float
value_take m table g r = added_take m table 0 g.terms _ r

-- ---- ops, the last one apart

abbrev worth : List Float → B.Op Affine → Float
worth table o = mul binary32 (value_in table o.left) (relu (value_in table o.gate))

float_snoc : (table : List Float) (os : List (B.Op Affine)) (o : B.Op Affine)
    → float_table table (os ++ (o ∷ [])) ≡ float_table table os ++ (worth (float_table table os) o ∷ [])
unfolding float_table
float_snoc table [] o = refl
float_snoc table (x ∷ os) o = float_snoc (table ++ (worth table x ∷ [])) os o

module _ (op : ℕ → W.Op) (cells : ℕ) (values : List Float) (os : List Op) (is : (k : ℕ) → k < length os → op k ≡ op_in (of_op float (get_or os k z_op)))
    (order : InOrder cells os) (room : cells + length os ≤ length values) where
  after_take : (n : ℕ) → n ≤ length os → take (cells + n) (table_after op cells values n) ≡ float_table (take cells values) (map (of_op float) (take n os))
  unfolding table_after float_table op_value
  after_take zero h = let e : cells + 0 ≡ cells = omega arith in ap (λ (k : ℕ). take k values) e
  after_take (suc n) h =
      let e : cells + suc n ≡ suc (cells + n) = omega arith in
      let now = table_after op cells values n in
      let o = get_or os n z_op in
      let r = in_order_at cells os n z_op order (omega arith) in
      let ih = after_take n (omega arith) in
      let v : op_value now (op n) ≡ worth (take (cells + n) now) (of_op float o)
      = ap (op_value now) (is n (omega arith))
      ∙ (λ i. mul binary32 (value_take (cells + n) now o.left r.0 i) (relu (value_take (cells + n) now o.gate r.1 i))) in
      ap (λ (k : ℕ). take k (set now (cells + n) (op_value now (op n)))) e
      ∙ take-suc-set now (cells + n) (op_value now (op n)) (omega (arith, after_length op cells values n))
      ∙ ap (λ (x : Float). take (cells + n) now ++ (x ∷ [])) v
      ∙ ap (λ (t : List Float). t ++ (worth t (of_op float o) ∷ [])) ih
      ∙ sym (float_snoc (take cells values) (map (of_op float) (take n os)) (of_op float o))
      ∙ ap (float_table (take cells values)) (sym (map-append (of_op float) (take n os) (o ∷ []))
      ∙ sym (ap (map (of_op float)) (take-suc os n z_op (omega arith))))

  pub table_floats : (n : ℕ) → n ≡ length os → take (cells + n) (table_after op cells values n) ≡ float_table (take cells values) (map (of_op float) os)
  table_floats n e =
      ap (λ (k : ℕ). take (cells + k) (table_after op cells values k)) e ∙ after_take (length os) (omega arith)
      ∙ ap (λ (l : List Op). float_table (take cells values) (map (of_op float) l)) (take-length os)

-- ---- the tree's value table: how long it is, and that its numbers are at most 2^24

pub table_length : (ins : List ℕ) (os : List Op) → length (table_of ins os) ≡ length ins + length os
unfolding table_of
table_length ins [] = omega arith
table_length ins (o ∷ os) = table_length (ins ++ (op_val (cell ins) o ∷ [])) os ∙ simp length-append (omega arith)

pub table_low : (ins : List ℕ) (os : List Op) → InOrder (length ins) os → Low ins → All (OpExact (cell (table_of ins os))) os → Low (table_of ins os)
unfolding table_of
table_low ins [] w low x = low
table_low ins (o ∷ os) w low x =
    let v = op_val (cell ins) o in
    let same = agree_op (length ins) (cell ins) (cell (table_of ins (o ∷ os))) (stays ins (o ∷ os)) o w.0 w.1 in
    let e : suc (length ins) ≡ length (ins ++ (v ∷ [])) = simp length-append (omega arith) in
    table_low (ins ++ (v ∷ [])) os (rw e at w.2) (all_append (λ (k : ℕ). k ≤ 16777216) ins (v ∷ []) low (omega (arith, x.0.value, same), tt)) x.1

-- an op's value stands past the cells, at the op's own place, and is its value in the whole table
pub op_cell : (ins : List ℕ) (os : List Op) → InOrder (length ins) os → (k : ℕ) → k < length os
    → cell (table_of ins os) (length ins + k) ≡ op_val (cell (table_of ins os)) (get_or os k z_op)
unfolding table_of
op_cell ins [] w k h = absurd (omega arith)
op_cell ins (o ∷ os) w zero h =
    let v = op_val (cell ins) o in
    let e : length ins + 0 ≡ length ins = omega arith in
    ap (λ (i : ℕ). cell (table_of ins (o ∷ os)) i) e
    ∙ stays (ins ++ (v ∷ [])) os (length ins) (simp length-append (omega arith))
    ∙ get_or_at ins v [] 0 (length ins) refl
    ∙ sym (agree_op (length ins) (cell ins) (cell (table_of ins (o ∷ os))) (stays ins (o ∷ os)) o w.0 w.1)
op_cell ins (o ∷ os) w (suc k) h =
    let next = ins ++ (op_val (cell ins) o ∷ []) in
    let long : length next ≡ suc (length ins) = simp length-append (omega arith) in
    let e : length ins + suc k ≡ length next + k = omega arith in
    ap (λ (i : ℕ). cell (table_of next os) i) e ∙ op_cell next os (rw long w.2) k (omega arith)
