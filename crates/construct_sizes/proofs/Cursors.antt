-- The next cursors' forms are sums of two wires.
use Prim.Native.Nat.{◌+◌, suc, ℕ}
use native.Mathlib.Omega.{arith}
use mathlib.Core.Bool.{false, true}
use mathlib.Core.List.{List, [], ◌++◌, ◌∷◌}
use mathlib.Core.Path.{◌≡◌, refl}
use lib.ListN.{drop, length}
use Rattle.construct.proofs.Values.{plus_law, wire_val}
use Rattle.construct.specs.Builder.{and, not', push}
use Rattle.construct.specs.Circuit.{build, cells_n, cells_nc, inputs, root}
use Rattle.construct.specs.Lower.{Flat, cell_after, children, down, fixed, force, invert, leaf, lost, next_cur, ordered, top, up}
use Rattle.construct.specs.Pairs.{Entry, Form, Arbitration, Op, pairs, plus, wire'}
use Rattle.construct.specs.Value.{Val}
use Rattle.construct_sizes.proofs.Bounds.{Below, Bits, Low}
use Rattle.lists.proofs.Every.{all_append}
use Rattle.lists.specs.Every.{All}

-- a next cursor is the sum of two wires
pub record TwoWires (f : Form) : Type 0 where
  pub a : ℕ
  pub b : ℕ
  pub is : f ≡ plus (wire' a) (wire' b)

module _ (opsAt cursorsAt : ℕ) where
  next_two : (n : Flat) (c : ℕ) (r u x : Form) (os : List Op) → All TwoWires (next_cur pairs opsAt cursorsAt n c r u x os).items
  unfolding next_cur push
  next_two leaf c r u x os = tt
  next_two (fixed b) c r u x os = tt
  next_two invert c r u x os = tt
  next_two (force b) c r u x os = tt
  next_two (ordered true q n) c r u x os = (record { a = opsAt + length os; b = opsAt + suc (length os); is = refl }, tt)
  next_two (ordered false q n) c r u x os = tt

  down_two : (i c : ℕ) (xs : List Arbitration) (st : List Entry) (os : List Op) → All TwoWires (down pairs opsAt cursorsAt i c xs st os).cursors
  unfolding down
  down_two i c [] st os = tt
  down_two i c (x ∷ xs) st os =
      let e = top (lost pairs opsAt cursorsAt) st in
      let h = and pairs opsAt e.called (wire' i) os in
      let u = and pairs opsAt (not' pairs e.reached) (not' pairs h.form) h.ops in
      let k = next_cur pairs opsAt cursorsAt x.node c e.reached u.form x.cursor u.ops in
      let s = children pairs opsAt cursorsAt x.node e.reached h.form x.kids k.ops in
      all_append TwoWires k.items _ (next_two x.node c e.reached u.form x.cursor u.ops) (down_two (suc i) (cell_after x.node c) xs (s.items ++ drop 1 st) s.ops)

pub cursors_two : (ns : List Flat) → All TwoWires (build pairs ns).pass.cursors
unfolding build
cursors_two ns = down_two (inputs ns) (cells_n ns) 0 0 (up pairs (inputs ns) (cells_n ns) (cells_nc ns) 0 0 ns).arbitrations (root pairs ∷ []) (up pairs (inputs ns) (cells_n ns) (cells_nc ns) 0 0 ns).ops

-- so it is no larger below a table than its value in it, and at most 2 at a table of zeros and ones
pub two_below : (ρ : ℕ → ℕ) (f : Form) (v : ℕ) → TwoWires f → Val ρ f v → Low (Below ρ) v f
two_below ρ f v t h =
    let g = rw t.is at h in
    let a = t.a in
    let b = t.b in
    rw t.is (λ τ c. omega (arith, g, plus_law ρ (wire' a) (wire' b), plus_law τ (wire' a) (wire' b), wire_val ρ a, wire_val ρ b, wire_val τ a, wire_val τ b, c a, c b))

pub two_small : (f : Form) → TwoWires f → Low Bits 2 f
two_small f t =
    let a = t.a in
    let b = t.b in
    rw t.is (λ τ c. omega (arith, plus_law τ (wire' a) (wire' b), wire_val τ a, wire_val τ b, c a, c b))
