-- How much room each operation of builder.rs needs: so many terms of the arena, and so many ops.
use Prim.Native.Nat.{ℕ, ◌+◌, ◌*◌, ◌≤◌}
use native.Mathlib.Omega.{arith}
use mathlib.Core.Path.{◌≡◌, refl}
use mathlib.Core.List.{List, [], ◌∷◌}
use mathlib.Core.Bool.{Bool, true, false, cond, ◌||◌}
use lib.Dec.{eqb}
use lib.ListN.{length}
use lib.Ieee.{Float, binary32, sub, eq, le}
use Rattle.exact.specs.Whole.{zero32, one32, minus_one32}
use Rattle.wire.specs.declared.Form.{Form}
use Rattle.wire.specs.declared.Term.{Term}
use Rattle.wire.specs.Terms.{Affine, constant_form}
use Rattle.arena_terms.specs.Sums as S
use Rattle.arena.specs.Arena.{offset_form}
use Rattle.arena_laws.proofs.Holds.{holds_offset}
use Rattle.arena_laws.proofs.Lengths.{merged_length, scaled_length}
use Rattle.construct.specs.Builder as B
use Rattle.construct.specs.Builder.{Op}
use Rattle.construct_floats.specs.Floats.{floats}
use Rattle.builder_table.specs.Work.{Standing, Mem, kept}
use Rattle.builder_table.specs.Whole.{Whole}
use Rattle.builder_table.specs.Steps.{one_minus_in, push_in}
use Rattle.builder_laws.specs.Table.{Ops, Stands, Lasts}
use Rattle.builder_laws.proofs.Table.{stands_still, whole_still, lasts_kept, lasts_then, lasts_wide, plus_grown, plus_gives, plus_lasts, scaled_grown, scaled_gives, scaled_lasts, one_minus_grown, one_minus_lasts, push_grown, push_gives, push_lasts}
use Rattle.builder.specs.Bits.{bit_form, is_true_form, is_false_form, minus_in, relu_in, is_zero_in, step_within, at_least_in, and_in, either_in, or_in}
use Rattle.builder_laws.proofs.Builder.{relu_grown, relu_gives}

-- ---- how many terms a sum and a multiple have

abbrev pub size : Affine → ℕ
size x = length x.terms

pub plus_size : (x y : Affine) → size (S.plus x y) ≤ size x + size y
unfolding S.plus S.summed
plus_size x y = go x.terms y.terms
  where
    go : (xs ys : List Term) → length (S.summed xs ys) ≤ length xs + length ys
    go [] ys = omega arith
    go (a ∷ xs) [] = omega arith
    go (a ∷ xs) (c ∷ ys) = merged_length (a ∷ xs) (c ∷ ys)

pub scaled_size : (factor : Float) (x : Affine) → size (S.scaled factor x) ≤ size x
unfolding S.scaled
scaled_size factor x = scaled_length factor x.terms

-- an op's wire is one term
pub push_size : (n : ℕ) (x y : Affine) (os : List (Op Affine)) → size (B.push floats n x y os).form ≡ 1
unfolding B.push S.single
push_size n x y os = refl

-- ---- the operations

module _ (m : Mem) (b : Standing) (f g : Form) {x y : Affine} {os : List (Op Affine)} (q : Ops m b os) (hx : Stands m b f x) (hy : Stands m b g y) where
  pub minus_lasts : Lasts m b (minus_in m b f g).builder (size x + 2 * size y) 0
  unfolding minus_in
  minus_lasts =
      let r = scaled_grown m b g minus_one32 in
      let n = scaled_gives m b g minus_one32 q hy in
      lasts_wide (size x + 2 * size y) 0 (omega (arith, scaled_size minus_one32 y)) (omega arith)
      (lasts_then r (scaled_lasts m b g minus_one32 hy) (plus_lasts _ _ f _ (stands_still r hx) n.form))

module _ (m : Mem) (b : Standing) (f g : Form) where
  pub and_lasts : Lasts m b (and_in m b f g).builder 1 1
  unfolding and_in
  and_lasts = go (is_true_form f) (is_true_form g) (is_false_form f || is_false_form g)
    where
      go : (s t u : Bool) → Lasts m b (cond s (kept m b g) (cond t (kept m b f) (cond u (kept m b (constant_form zero32)) (push_in m b f g)))).builder 1 1
      go true t u = lasts_kept 1 1
      go false true u = lasts_kept 1 1
      go false false true = lasts_kept 1 1
      go false false false = push_lasts m b f g

module _ (m : Mem) (b : Standing) (f g : Form) {x y : Affine} {os : List (Op Affine)} (w : Whole m.nums m.biases) (q : Ops m b os) (hx : Stands m b f x) (hy : Stands m b g y) where
  pub either_lasts : Lasts m b (either_in m b f g).builder (2 * (size x + size y) + 3) 1
  unfolding either_in
  either_lasts =
      let r = push_grown m b f g in
      let both = push_gives m b f g w q hx hy in
      let u = push_in m b f g in
      let s = plus_grown u.mem u.builder f g in
      let ux = stands_still r hx in
      let uy = stands_still r hy in
      let sum = plus_gives u.mem u.builder f g both.ops ux uy in
      lasts_wide (2 * (size x + size y) + 3) 1 (omega (arith, plus_size x y, push_size b.cells x y os)) (omega arith)
      (lasts_then r (push_lasts m b f g) (lasts_then s (plus_lasts u.mem u.builder f g ux uy) (minus_lasts _ _ _ _ sum.ops sum.form (stands_still s both.form))))

  pub or_lasts : Lasts m b (or_in m b f g).builder (2 * (size x + size y) + 3) 1
  unfolding or_in
  or_lasts = go (is_true_form f || is_true_form g) (is_false_form f) (is_false_form g)
    where
      go : (s t u : Bool) → Lasts m b (cond s (kept m b (constant_form one32)) (cond t (kept m b g) (cond u (kept m b f) (either_in m b f g)))).builder (2 * (size x + size y) + 3) 1
      go true t u = lasts_kept _ 1
      go false true u = lasts_kept _ 1
      go false false true = lasts_kept _ 1
      go false false false = either_lasts

module _ (m : Mem) (b : Standing) (f : Form) where
  pub relu_lasts : Lasts m b (relu_in m b f).builder 1 1
  unfolding relu_in
  relu_lasts = push_lasts m b (constant_form one32) f

module _ (m : Mem) (b : Standing) (f : Form) {x : Affine} (h : Stands m b f x) where
  pub zero_lasts : Lasts m b (is_zero_in m b f).builder (size x + 1) 1
  unfolding is_zero_in
  zero_lasts = go (eqb f.len 0)
    where
      go : (t : Bool) → Lasts m b (cond t (kept m b (bit_form (eq f.bias zero32))) (relu_in (one_minus_in m b f).mem (one_minus_in m b f).builder (one_minus_in m b f).form)).builder (size x + 1) 1
      go true = lasts_kept _ 1
      go false = lasts_then (one_minus_grown m b f) (one_minus_lasts m b f h) (relu_lasts _ _ _)

module _ (m : Mem) (b : Standing) (f : Form) {x : Affine} {os : List (Op Affine)} (w : Whole m.nums m.biases) (q : Ops m b os) (h : Stands m b f x) where
  pub step_lasts : Lasts m b (step_within m b f).builder 5 2
  unfolding step_within B.relu
  step_lasts =
      let r = relu_grown m b f in
      let high = relu_gives m b f w q h in
      let u = relu_in m b f in
      let s = relu_grown u.mem u.builder (offset_form minus_one32 f) in
      let low = relu_gives u.mem u.builder (offset_form minus_one32 f) (whole_still r w) high.ops (holds_offset minus_one32 (stands_still r h)) in
      lasts_wide 5 2 (omega (arith, relu_size b.cells x os, relu_size u.builder.cells (S.offset minus_one32 x) (B.relu floats b.cells x os).ops)) (omega arith)
      (lasts_then r (relu_lasts m b f) (lasts_then s (relu_lasts _ _ _) (minus_lasts _ _ _ _ low.ops (stands_still s high.form) low.form)))
    where
      relu_size : (n : ℕ) (x : Affine) (os : List (Op Affine)) → size (B.relu floats n x os).form ≡ 1
      relu_size n x os = push_size n _ x os

module _ (m : Mem) (b : Standing) (f : Form) (threshold : Float) {x : Affine} {os : List (Op Affine)} (w : Whole m.nums m.biases) (q : Ops m b os) (h : Stands m b f x) where
  pub least_lasts : Lasts m b (at_least_in m b f threshold).builder 5 2
  unfolding at_least_in
  least_lasts = go (eqb f.len 0)
    where
      go : (t : Bool) → Lasts m b (cond t (kept m b (bit_form (le threshold f.bias))) (step_within m b (offset_form (sub binary32 one32 threshold) f))).builder 5 2
      go true = lasts_kept 5 2
      go false = step_lasts m b _ w q (holds_offset (sub binary32 one32 threshold) h)
