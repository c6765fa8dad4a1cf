-- How much room building a circuit takes at most, in an arena that gives nothing back: terms, by the lengths of the forms that are made on the way; and
-- ops. A sum asks for the terms of both, a multiple or a NOT for those of the form, and a wire or an op for one term. Written once over the algebra of
-- forms, like the construction. Definitions only.
use Prim.Native.Nat.{ℕ, suc, ◌+◌, ◌*◌}
use mathlib.Core.Bool.{Bool, true, false}
use mathlib.Core.List.{List, [], ◌∷◌, ◌++◌}
use lib.ListN.{length, take, drop}
use Rattle.construct.specs.Forms.{Forms}
use Rattle.construct.specs.Builder.{Op, at_least, or, and, not'}
use Rattle.construct.specs.Lower.{Flat, leaf, fixed, invert, force, ordered, slot_after, cell_after, StatusBits, GatedChild, ClearedChild, ArbitratedChild, Up, Arbitration, Entry, NodeReach, top, inverteds, fixed_t, gates, clears, stops, total, cursor_f, up, children, next_cur, lost, down}
use Rattle.construct.specs.Circuit.{cells_n, cells_nc, inputs, root}

-- ---- terms

module _ {F : Type 0} (A : Forms F) where
  -- a + b - a × b
  abbrev pub or_use : F → F → ℕ
  or_use f g = 2 * (A.terms f + A.terms g) + 3

  -- a sum
  abbrev pub plus_use : F → F → ℕ
  plus_use f g = A.terms f + A.terms g

  module _ (opsAt : ℕ) where
    unfoldable pub gates_use : F → ℕ → List (StatusBits F) → List (Op F) → ℕ
    gates_use c k [] os = 0
    gates_use c k (t ∷ ts) os =
        let later = at_least A opsAt c (suc k) os in
        let pass = or A opsAt later.form t.success later.ops in
        5 + or_use later.form t.success + A.terms pass.form + gates_use c (suc k) ts pass.ops

    unfoldable pub clears_use : F → List (GatedChild F) → ℕ
    clears_use pre [] = 0
    clears_use pre (x ∷ xs) = A.terms pre + 1 + plus_use pre x.blocked + clears_use (A.plus pre x.blocked) xs

    unfoldable pub stops_use : F → List (ClearedChild F) → List (Op F) → ℕ
    stops_use acc [] os = 0
    stops_use acc (x ∷ xs) os =
        let r = and A opsAt x.clear (not' A x.child.before) os in
        let s = and A opsAt x.clear x.child.blocked r.ops in
        A.terms x.child.before + 2 + plus_use acc s.form + stops_use (A.plus acc s.form) xs s.ops

    unfoldable pub picks_use : ℕ → F → F → F → List (ArbitratedChild F) → List (Op F) → ℕ
    picks_use k o r c [] os = 0
    picks_use k o r c (x ∷ xs) os =
        let a = and A opsAt x.stop x.status.failure os in
        let b = and A opsAt x.stop x.status.running a.ops in
        2 + plus_use o a.form + plus_use r b.form + A.terms b.form + plus_use c (A.scaled k b.form)
        + picks_use (suc k) (A.plus o a.form) (A.plus r b.form) (A.plus c (A.scaled k b.form)) xs b.ops

    unfoldable pub seq_use : F → List (StatusBits F) → List (Op F) → ℕ
    seq_use c ts os =
        let z = A.constant 0 in
        let a = gates A opsAt c 0 ts os in
        let b = clears A opsAt z a.items a.ops in
        let d = stops A opsAt z b.items b.ops in
        gates_use c 0 ts os + clears_use z a.items + stops_use z b.items b.ops + picks_use 0 z z z d.items d.ops + A.terms (total A z d.items)

    abbrev pub lower_use : Bool → F → List (StatusBits F) → List (Op F) → ℕ
    lower_use true c ts os = seq_use c ts os
    lower_use false c ts os = seq_use c (inverteds ts) os

    module _ (cursorsAt leaves_at : ℕ) where
      unfoldable pub step_use : Flat → ℕ → ℕ → Up F → ℕ
      step_use leaf s c u = 3
      step_use (fixed b) s c u = 0
      step_use invert s c u = 0
      step_use (force b) s c u = plus_use (top (fixed_t A true) u.stack).success (top (fixed_t A true) u.stack).failure
      step_use (ordered m q n) s c u = A.terms (cursor_f A opsAt cursorsAt leaves_at m c) + lower_use q (cursor_f A opsAt cursorsAt leaves_at m c) (take n u.stack) u.ops

      unfoldable pub up_use : ℕ → ℕ → List Flat → ℕ
      up_use s c [] = 0
      up_use s c (n ∷ ns) = step_use n s c (up A opsAt cursorsAt leaves_at (slot_after n s) (cell_after n c) ns) + up_use (slot_after n s) (cell_after n c) ns

    unfoldable pub spread_use : F → F → List (ArbitratedChild F) → List (Op F) → ℕ
    spread_use r h [] os = 0
    spread_use r h (x ∷ xs) os =
        let a = and A opsAt r x.reach os in
        let b = and A opsAt r x.after_stop a.ops in
        let d = or A opsAt h b.form b.ops in
        2 + or_use h b.form + spread_use r h xs d.ops

    unfoldable pub children_use : Flat → F → F → List (ArbitratedChild F) → List (Op F) → ℕ
    children_use leaf r h ks os = 0
    children_use (fixed b) r h ks os = 0
    children_use invert r h ks os = 0
    children_use (force b) r h ks os = 0
    children_use (ordered m q n) r h ks os = spread_use r h ks os

    -- the cursor's wire, the two ops' wires, their sum
    abbrev pub cur_use : Flat → ℕ
    cur_use n = 5 * cell_after n 0

    module _ (cursorsAt : ℕ) where
      unfoldable pub down_use : ℕ → ℕ → List (Arbitration F) → List (Entry F) → List (Op F) → ℕ
      down_use i c [] st os = 0
      down_use i c (x ∷ xs) st os =
          let e = top (lost A opsAt cursorsAt) st in
          let h = and A opsAt e.called (A.wire i) os in
          let u = and A opsAt (not' A e.reached) (not' A h.form) h.ops in
          let k = next_cur A opsAt cursorsAt x.node c e.reached u.form x.cursor u.ops in
          let s = children A opsAt cursorsAt x.node e.reached h.form x.kids k.ops in
          3 + A.terms e.reached + A.terms h.form + cur_use x.node + children_use x.node e.reached h.form x.kids k.ops
          + down_use (suc i) (cell_after x.node c) xs (s.items ++ drop 1 st) s.ops

    unfoldable pub flags_use : List (NodeReach F) → List (Op F) → ℕ
    flags_use [] os = 0
    flags_use (x ∷ xs) os =
        let a = and A opsAt x.reached x.raw.running os in
        let b = and A opsAt x.untouched x.was a.ops in
        3 + plus_use a.form b.form + flags_use xs b.ops

  unfoldable pub arena_use : List Flat → ℕ
  arena_use ns =
      let opsAt = inputs ns in
      let u = up A opsAt (cells_n ns) (cells_nc ns) 0 0 ns in
      let d = down A opsAt (cells_n ns) 0 0 u.arbitrations (root A ∷ []) u.ops in
      up_use opsAt (cells_n ns) (cells_nc ns) 0 0 ns + down_use opsAt (cells_n ns) 0 0 u.arbitrations (root A ∷ []) u.ops + flags_use opsAt d.outs d.ops

-- ---- ops: at most so many

abbrev pub kids_of : Flat → ℕ
kids_of leaf = 0
kids_of (fixed b) = 0
kids_of invert = 0
kids_of (force b) = 0
kids_of (ordered m q n) = n

-- arbitrating: of a composite eight a child
unfoldable pub up_more : List Flat → ℕ
up_more [] = 0
up_more (n ∷ ns) = 8 * kids_of n + up_more ns

-- reaching: two a node, two a cursor, three a composite's child
unfoldable pub down_more : List Flat → ℕ
down_more [] = 0
down_more (n ∷ ns) = 2 + 2 * cell_after n 0 + 3 * kids_of n + down_more ns

-- next running: two a node
abbrev pub ops_use : List Flat → ℕ
ops_use ns = up_more ns + down_more ns + 2 * length ns
