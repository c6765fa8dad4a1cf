-- A layer is at most the number of ops so far, so with fewer than 2^32 ops no layer is cut to fit.
use mathlib.Core.Path.{◌≡◌}
use mathlib.Core.List.{List, [], ◌∷◌}
use Prim.Native.Nat.{ℕ, zero, suc, ◌+◌, ◌≤◌, ◌<◌}
use native.Mathlib.Omega.{arith}
use lib.ListN.{get_or, set, replicate}
use Rattle.std.proofs.Common.{Option, Some, None}
use Rattle.std.proofs.lemmas.Grind.{common_steps}
use Rattle.wire.specs.declared.Form.{Form}
use Rattle.wire.specs.declared.Op.{Op}
use Rattle.wire.specs.declared.Op.TheVariants.{Affine, Reglu}
use Rattle.wire.specs.Terms.{look_up}
use Rattle.wire_layers.specs.Layers.{largest, layer_of, form_depth, op_depth, one_past, layers_after}

largest_low : (f : ℕ → ℕ) (n : ℕ) → ((k : ℕ) → f k ≤ n) → (xs : List ℕ) → largest f xs ≤ n
unfolding largest
largest_low f n h [] = omega arith
largest_low f n h (x ∷ xs) = omega (arith, h x, largest_low f n h xs)

module _ (ws layers : List ℕ) (n : ℕ) (h : (k : ℕ) → layer_of layers k ≤ n) where
  form_low : (f : Form) → form_depth ws layers f ≤ n
  unfolding form_depth
  form_low f = largest_low (layer_of layers) n h (look_up f ws)

  op_low : (op : Option Op) → op_depth ws layers op ≤ n
  unfolding op_depth
  op_low (Some (Affine f)) = form_low f
  op_low (Some (Reglu l g)) = omega (arith, form_low l, form_low g)
  op_low None = omega arith

zeros_low : (values k : ℕ) → get_or (replicate values 0) k 0 ≤ 0
zeros_low values k = grind (arith, common_steps)

set_low : (xs : List ℕ) (i v k n : ℕ) → v ≤ n → get_or xs k 0 ≤ n → get_or (set xs i v) k 0 ≤ n
set_low xs i v k n a b = grind (arith, common_steps)

module _ (op : ℕ → Option Op) (ws : List ℕ) (cells values : ℕ) where
  pub layers_low : (n k : ℕ) → layer_of (layers_after op ws cells values n) k ≤ n
  unfolding layers_after layer_of
  layers_low zero k = zeros_low values k
  layers_low (suc n) k =
      let before = layers_after op ws cells values n in
      let d = op_low ws before n (layers_low n) (op n) in
      let b = layers_low n k in
      set_low before (cells + n) (one_past (op_depth ws before (op n))) k (suc n) (omega arith) (omega arith)

  pub never_cut : (n : ℕ) → n < 4294967295
      → one_past (op_depth ws (layers_after op ws cells values n) (op n)) ≡ op_depth ws (layers_after op ws cells values n) (op n) + 1
  never_cut n h = omega (arith, op_low ws (layers_after op ws cells values n) n (layers_low n) (op n))
