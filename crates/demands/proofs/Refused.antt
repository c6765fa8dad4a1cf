-- What the definitions leave of what is lent where they refuse.
use mathlib.Core.Path.{◌≡◌, refl, sym, ap}
use mathlib.Core.Bool.{Bool, true, false, cond, true≢false}
use mathlib.Core.List.{List}
use Prim.Native.Nat.{ℕ}
use native.Mathlib.Omega.{arith}
use lib.Dec.{eqb, ltb}
use lib.ListN.{length, replicate}
use lib.Ieee.{Float}
use Rattle.exact.specs.Whole.{zero32}
use Rattle.tree.specs.Tree.{Parsed, accepted, refused, tree_of}
use Rattle.tree_record.specs.declared.refusal.Cause.{Cause}
use Rattle.tree_record.specs.declared.refusal.Cause.TheVariants.{NoOpRoom, NoTermRoom, ShortRoom}
use Rattle.tree_record.specs.declared.refusal.Refusal.{Refusal}
use Rattle.tick_verdict.specs.Verdict.{Verdict, tick_verdict, node_of}
use Rattle.wire.specs.declared.Counts.{Counts}
use Rattle.wire.specs.Storage.{op_slots, term_slots}
use Rattle.construct_floats.specs.Floats.{floats}
use Rattle.construct.specs.Circuit.{op_count, term_count}
use Rattle.tick_check.specs.Check.{Stored, circuit_ok}
use Rattle.tick_lane.specs.declared.TickError.{TickError}
use Rattle.tick_lane.specs.declared.TickError.TheVariants as is
use Rattle.tick_lane.specs.Evaluate.{table_of, outs_of}
use Rattle.tick_lane.specs.Lane as lane
use Rattle.tick.specs.Tick.{room_for, shapes_of, gate_of, tick_of}
use Rattle.std.specs.Prelude.{Ok, Err}
use Rattle.compile.specs.Compile.{Lent, Outcome, roomy, refusal, circuit_of, counts_of, stored, compile_tree, compile_of}
use Rattle.demands.specs.Demands.{unwritten}

-- ---- compile: zero, all of it

abbrev Zeros : Lent → Outcome → Type 0
Zeros l o =
    (o.nums ≡ replicate l.nums 0) × (o.biases ≡ replicate l.biases zero32)
    × (o.wires ≡ replicate l.wires 0) × (o.coefs ≡ replicate l.coefs zero32)

abbrev LeavesZeros : Lent → Outcome → Type 0
LeavesZeros l o = (r : Refusal) → o.answer ≡ Err r → Zeros l o

all_zero : (l : Lent) (c : Cause) (place : ℕ) → LeavesZeros l (refusal l c place)
all_zero l c place r e = (refl, refl, refl, refl)

either : (l : Lent) (test : Bool) (o o' : Outcome) → LeavesZeros l o → LeavesZeros l o' → LeavesZeros l (cond test o o')
either l true o o' z z' = z
either l false o o' z z' = z'

not_refused : (n : Counts) (r : Refusal) → Ok n ≡ Err r → ⊥
not_refused n r e = let z : ◌≡◌ {A = ℕ} 0 1 = cc in omega arith

tree_zeros : (l : Lent) (p : Parsed) → LeavesZeros l (compile_tree l p)
unfolding compile_tree stored
tree_zeros l (refused r) = all_zero l r.cause r.place
tree_zeros l (accepted ks cs) =
    let c = circuit_of ks cs in
    let no_ops = ltb (op_slots l.nums l.biases) (op_count c) in
    let no_terms = ltb (term_slots l.wires l.coefs) (term_count floats c) in
    let made : LeavesZeros l (stored l ks cs) = λ r e. absurd (not_refused (counts_of ks c) r e) in
    let terms = either l no_terms (refusal l NoTermRoom 0) (stored l ks cs) (all_zero l NoTermRoom 0) made in
    either l no_ops (refusal l NoOpRoom 0) (cond no_terms (refusal l NoTermRoom 0) (stored l ks cs)) (all_zero l NoOpRoom 0) terms

pub zero_left : (l : Lent) (bytes : List ℕ) → LeavesZeros l (compile_of l bytes)
unfolding compile_of
zero_left l bytes = either l (roomy l) (compile_tree l (tree_of bytes)) (refusal l ShortRoom 0) (tree_zeros l (tree_of bytes)) (all_zero l ShortRoom 0)

-- ---- tick: nothing written, but for 18's table

-- none of the refusals before 18 is 18
abbrev Before : lane.Ticked → Type 0
Before t = eqb (lane.number_of t) 18 ≡ false

before : (test : Bool) (refusal : TickError) (next : lane.Ticked) → Before (Err refusal) → Before next → Before (lane.unless test refusal next)
before true refusal next r n = n
before false refusal next r n = r

module _ (s : Stored) (row : List ℕ) (l : lane.Lent) where
  gate_before : Before (gate_of s row l)
  unfolding shapes_of
  gate_before =
      let n = s.counts in
      let flags = length l.flags in
      let cursors = length l.cursors in
      let room = room_for n (length l.values) (length l.statuses) (length l.halts) (length l.edges) in
      before (circuit_ok s) is.BadCircuit _ refl
      (before (eqb (length row) n.leaves) (is.LeafCount (length row)) _ refl
      (before (eqb flags n.nodes) (is.StateShape flags) _ refl
      (before (eqb cursors n.cursors) (is.CursorCount cursors) _ refl (before room is.ShortRoom (Ok tt) refl refl))))

  inputs_before : Before (lane.inputs_of row l.flags)
  unfolding lane.inputs_of
  inputs_before =
      let slot = lane.first_above 2 row in
      let node = lane.first_above 1 l.flags in
      before (eqb slot (length row)) (is.BadStatus slot) _ refl (before (eqb node (length l.flags)) (is.BadFlag (node_of node)) (Ok tt) refl refl)

  abbrev table : List Float
  table = table_of s row l.flags l.cursors l.values

  abbrev with_table : lane.Lent
  with_table = lane.computed l table

  abbrev Leaves : lane.Outcome → Type 0
  Leaves o = lane.accepted o.answer ≡ false → o.left ≡ unwritten s row l o.answer

  after_leaves : (t : lane.Ticked) (next : lane.Outcome) → Before t → Leaves next → Leaves (lane.after t l next)
  after_leaves t next b n = go (lane.accepted t)
    where
      go : (a : Bool) → Leaves (cond a next (lane.outcome t l))
      go true = n
      go false = λ r. sym (ap (λ (x : Bool). cond x with_table l) b)

  settle_leaves : Leaves (lane.settle_of s.counts s.nums (outs_of s table) with_table)
  unfolding lane.settle_of
  settle_leaves =
      at (tick_verdict (outs_of s table) s.counts.nodes s.counts.cursors) (lane.written s.counts s.nums (outs_of s table) with_table)
    where
      at : (v : Verdict) (made : lane.Lent) → Leaves (lane.judged v made with_table)
      at (Ok sound) made e = absurd (true≢false e)
      at (Err what) made e = refl

  pub tick_leaves : Leaves (tick_of s row l)
  unfolding tick_of lane.lane_of
  tick_leaves =
      let settled = lane.settle_of s.counts s.nums (outs_of s table) with_table in
      after_leaves (gate_of s row l) (lane.lane_of s row l) gate_before
      (after_leaves (lane.inputs_of row l.flags) settled inputs_before settle_leaves)
