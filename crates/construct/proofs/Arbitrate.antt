-- The bottom-up pass: every node's status forms, its children's marks and its next cursor are the walk's.
use Prim.Native.Nat.{◌+◌, ◌<◌, ◌≤◌, suc, ℕ}
use native.Mathlib.Omega.{arith}
use mathlib.Core.Bool.{Bool, false, true}
use mathlib.Core.List.{List, [], ◌∷◌}
use mathlib.Core.Path.{◌≡◌, refl}
use lib.ListN.{take}
use Rattle.construct.proofs.Builds.{Grows, Sat, back, same}
use Rattle.construct.proofs.ListWalk.{Mark, Sem, Would, flips, marks, plain_s, resumed, start_at, turn, turned, walked, would_step, woulds}
use Rattle.construct.proofs.Sequence.{Along, Given, R3, cons, lower_grows, lower_val, nil}
use Rattle.construct.proofs.Values.{constant_val, plus_val, wire_val}
use Rattle.construct.specs.Circuit.{cell_end, inputs, slot_end}
use Rattle.construct.specs.Lower.{Flat, cell_after, cursor_f, fixed, fixed_t, force, forced, invert, inverted, inverteds, leaf, leaf_t, lower, lower_seq, ordered, plain, slot_after, top, up, up_step}
use Rattle.construct.specs.Pairs.{Form, Arbitration, ArbitratedChild, Op, Ordered, StatusBits, Up, pairs}
use Rattle.construct.specs.Value.{Bit, BitsAre, Val}
use Rattle.lists.proofs.Every.{all2_drop, all2_take}
use Rattle.lists.specs.Every.{All2, both, none}
use Rattle.walk.specs.Status.{Failure, Running, Status, Success, done, exchanged, forced_to}
use Rattle.walk.specs.Walk.{status}

-- laws
module _ (opsAt : ℕ) where
  lower_all_grows : (q : Bool) (c : Form) (ts : List StatusBits) (os : List Op) → Grows os (lower pairs opsAt q c ts os).ops
  unfolding lower
  lower_all_grows true c ts os = lower_grows opsAt c ts os
  lower_all_grows false c ts os = lower_grows opsAt c (inverteds ts) os

  pub up_grows : (cursorsAt leaves_at : ℕ) (n : Flat) (s c : ℕ) (u : Up) → Grows u.ops (up_step pairs opsAt cursorsAt leaves_at n s c u).ops
  unfolding up_step
  up_grows cursorsAt leaves_at leaf s c u = same
  up_grows cursorsAt leaves_at (fixed b) s c u = same
  up_grows cursorsAt leaves_at invert s c u = same
  up_grows cursorsAt leaves_at (force b) s c u = same
  up_grows cursorsAt leaves_at (ordered m q n) s c u = lower_all_grows q (cursor_f pairs opsAt cursorsAt leaves_at m c) (take n u.stack) u.ops

pub record MarkIs (ρ : ℕ → ℕ) (x : ArbitratedChild) (m : Mark) : Type 0 where
  pub reached : Bit ρ x.reach m.reached
  pub stopped : Bit ρ x.after_stop m.stopped

pub record ArbitrationIs (ρ : ℕ → ℕ) (i : Arbitration) (m : Sem) : Type 0 where
  pub node : i.node ≡ m.node
  pub raw : BitsAre ρ i.raw m.raw
  pub kids : All2 (MarkIs ρ) i.kids m.kids
  pub cursor : Val ρ i.cursor m.cursor

pub record UpIs (ρ : ℕ → ℕ) (u : Up) (w : Would) : Type 0 where
  pub stack : All2 (BitsAre ρ) u.stack w.stack
  pub arbitrations : All2 (ArbitrationIs ρ) u.arbitrations w.sems

pub given_along : (ρ : ℕ → ℕ) (start : ℕ) {k : ℕ} {g : Bool} {ts : List StatusBits} {ss : List Status} → All2 (BitsAre ρ) ts ss → Along start (Given ρ) k g ts ss
given_along ρ start none = nil
given_along ρ start {k = k} (both h hs) = cons h (given_along ρ start {k = suc k} hs)

pub along_marks : (opsAt : ℕ) (ρ : ℕ → ℕ) (start : ℕ) {k : ℕ} {g : Bool} {xs : List ArbitratedChild} {ss : List Status} → Along start (R3 opsAt ρ start) k g xs ss
    → All2 (MarkIs ρ) xs (marks start k g ss)
unfolding marks
along_marks opsAt ρ start nil = none
along_marks opsAt ρ start (cons h hs) = both (record { reached = h.reach; stopped = h.after_stop }) (along_marks opsAt ρ start hs)

module _ (ρ : ℕ → ℕ) where
  pub inverted_is : (t : StatusBits) (s : Status) → BitsAre ρ t s → BitsAre ρ (inverted t) (exchanged s)
  unfolding inverted
  inverted_is t Success h = record { is_s = h.is_f; is_f = h.is_s; is_r = h.is_r }
  inverted_is t Failure h = record { is_s = h.is_f; is_f = h.is_s; is_r = h.is_r }
  inverted_is t Running h = record { is_s = h.is_f; is_f = h.is_s; is_r = h.is_r }

  pub inverteds_are : {ts : List StatusBits} {ss : List Status} → All2 (BitsAre ρ) ts ss → All2 (BitsAre ρ) (inverteds ts) (flips ss)
  unfolding inverteds flips
  inverteds_are none = none
  inverteds_are (both {a = t} {b = s} h hs) = both (inverted_is t s h) (inverteds_are hs)

  pub forced_is : (b : Bool) (t : StatusBits) (s : Status) → BitsAre ρ t s → BitsAre ρ (forced pairs b t) (forced_to b s)
  unfolding forced
  forced_is true t Success h = record { is_s = plus_val ρ t.success t.failure 1 0 h.is_s h.is_f; is_f = constant_val ρ 0; is_r = h.is_r }
  forced_is true t Failure h = record { is_s = plus_val ρ t.success t.failure 0 1 h.is_s h.is_f; is_f = constant_val ρ 0; is_r = h.is_r }
  forced_is true t Running h = record { is_s = plus_val ρ t.success t.failure 0 0 h.is_s h.is_f; is_f = constant_val ρ 0; is_r = h.is_r }
  forced_is false t Success h = record { is_s = constant_val ρ 0; is_f = plus_val ρ t.success t.failure 1 0 h.is_s h.is_f; is_r = h.is_r }
  forced_is false t Failure h = record { is_s = constant_val ρ 0; is_f = plus_val ρ t.success t.failure 0 1 h.is_s h.is_f; is_r = h.is_r }
  forced_is false t Running h = record { is_s = constant_val ρ 0; is_f = plus_val ρ t.success t.failure 0 0 h.is_s h.is_f; is_r = h.is_r }

  pub fixed_is : (b : Bool) → BitsAre ρ (fixed_t pairs b) (done b)
  unfolding fixed_t
  fixed_is true = record { is_s = constant_val ρ 1; is_f = constant_val ρ 0; is_r = constant_val ρ 0 }
  fixed_is false = record { is_s = constant_val ρ 0; is_f = constant_val ρ 1; is_r = constant_val ρ 0 }

  pub top_is : {ts : List StatusBits} {ss : List Status} → All2 (BitsAre ρ) ts ss → BitsAre ρ (top (fixed_t pairs true) ts) (top Success ss)
  top_is none = fixed_is true
  top_is (both h hs) = h

  pub record LowerIs (start : ℕ) (q : Bool) (o : Ordered) (ss : List Status) : Type 0 where
    pub status : BitsAre ρ o.status (turn q (walked start 0 (turned q ss)))
    pub kids : All2 (MarkIs ρ) o.kids (marks start 0 true (turned q ss))
    pub cursor : Val ρ o.cursor (resumed start 0 (turned q ss))

  pub lower_is : (opsAt start : ℕ) (q : Bool) (c : Form) {ts : List StatusBits} {ss : List Status} (os : List Op) → Val ρ c start → All2 (BitsAre ρ) ts ss
      → Sat opsAt ρ (lower pairs opsAt q c ts os).ops → LowerIs start q (lower pairs opsAt q c ts os) ss
  unfolding lower
  lower_is opsAt start true c os v h s =
      let l = lower_val opsAt ρ start c os v (given_along ρ start h) s in
      record { status = l.status; kids = along_marks opsAt ρ start l.kids; cursor = l.cursor }
  lower_is opsAt start false c {ts} {ss} os v h s =
      let l = lower_val opsAt ρ start c os v (given_along ρ start (inverteds_are h)) s in
      record { status = inverted_is (lower_seq pairs opsAt c (inverteds ts) os).status (walked start 0 (flips ss)) l.status; kids = along_marks opsAt ρ start l.kids; cursor = l.cursor }

pub slots_ge : (n : Flat) (s : ℕ) → s ≤ slot_after n s
slots_ge leaf s = omega arith
slots_ge (fixed b) s = omega arith
slots_ge invert s = omega arith
slots_ge (force b) s = omega arith
slots_ge (ordered m q n) s = omega arith

pub slot_end_ge : (s : ℕ) (ns : List Flat) → s ≤ slot_end s ns
unfolding slot_end
slot_end_ge s [] = omega arith
slot_end_ge s (n ∷ ns) = omega (arith, slots_ge n s, slot_end_ge (slot_after n s) ns)

pub cells_ge : (n : Flat) (c : ℕ) → c ≤ cell_after n c
cells_ge leaf c = omega arith
cells_ge (fixed b) c = omega arith
cells_ge invert c = omega arith
cells_ge (force b) c = omega arith
cells_ge (ordered true q n) c = omega arith
cells_ge (ordered false q n) c = omega arith

pub cell_end_ge : (c : ℕ) (ns : List Flat) → c ≤ cell_end c ns
unfolding cell_end
cell_end_ge c [] = omega arith
cell_end_ge c (n ∷ ns) = omega (arith, cells_ge n c, cell_end_ge (cell_after n c) ns)

-- the input cells hold the leaves' statuses and the cursors
pub record Cells (ρ : ℕ → ℕ) (opsAt cursorsAt leaves_at : ℕ) (leaves : ℕ → Status) (cursors : ℕ → ℕ) (C L : ℕ) : Type 0 where
  pub leaf : (s : ℕ) → s < L → BitsAre ρ (leaf_t pairs opsAt cursorsAt leaves_at s) (leaves s)
  pub cursor : (c : ℕ) → c < C → ρ (cursorsAt + c) ≡ cursors c

module _ (ρ : ℕ → ℕ) (opsAt cursorsAt leaves_at : ℕ) (leaves : ℕ → Status) (cursors : ℕ → ℕ) (C L : ℕ) (inputs : Cells ρ opsAt cursorsAt leaves_at leaves cursors C L) where
  pub cursor_is : (m q : Bool) (n c : ℕ) → cell_after (ordered m q n) c ≤ C → Val ρ (cursor_f pairs opsAt cursorsAt leaves_at m c) (start_at leaves cursors m c)
  cursor_is true q n c h = rw (inputs.cursor c h) at (wire_val ρ (cursorsAt + c))
  cursor_is false q n c h = constant_val ρ 0

  plain_is : (n : Flat) (x : StatusBits) (y : Status) (u : Up) (w : Would) {ts : List StatusBits} {ss : List Status} → BitsAre ρ x y → All2 (BitsAre ρ) ts ss → UpIs ρ u w
      → UpIs ρ (plain pairs n x ts u) (plain_s n y ss w)
  plain_is n x y u w p ps h = record { stack = both p ps; arbitrations = both (record { node = refl; raw = p; kids = none; cursor = constant_val ρ 0 }) h.arbitrations }

  step_is : (n : Flat) (s c : ℕ) (u : Up) (w : Would) → slot_after n s ≤ L → cell_after n c ≤ C → UpIs ρ u w
      → Sat opsAt ρ (up_step pairs opsAt cursorsAt leaves_at n s c u).ops → UpIs ρ (up_step pairs opsAt cursorsAt leaves_at n s c u) (would_step leaves cursors n s c w)
  unfolding up_step would_step
  step_is leaf s c u w l k h t = plain_is leaf (leaf_t pairs opsAt cursorsAt leaves_at s) (leaves s) u w (inputs.leaf s l) h.stack h
  step_is (fixed b) s c u w l k h t = plain_is (fixed b) (fixed_t pairs b) (done b) u w (fixed_is ρ b) h.stack h
  step_is invert s c u w l k h t = plain_is invert _ _ u w (inverted_is ρ _ _ (top_is ρ h.stack)) (all2_drop 1 h.stack) h
  step_is (force b) s c u w l k h t = plain_is (force b) _ _ u w (forced_is ρ b _ _ (top_is ρ h.stack)) (all2_drop 1 h.stack) h
  step_is (ordered m q n) s c u w l k h t =
      let o = lower_is ρ opsAt (start_at leaves cursors m c) q (cursor_f pairs opsAt cursorsAt leaves_at m c) u.ops (cursor_is m q n c k) (all2_take n h.stack) t in
      record { stack = both o.status (all2_drop n h.stack); arbitrations = both (record { node = refl; raw = o.status; kids = o.kids; cursor = o.cursor }) h.arbitrations }

  -- every node's status forms, its children's marks and its next cursor are the walk's
  pub up_is : (s c : ℕ) (ns : List Flat) → slot_end s ns ≤ L → cell_end c ns ≤ C → Sat opsAt ρ (up pairs opsAt cursorsAt leaves_at s c ns).ops
      → UpIs ρ (up pairs opsAt cursorsAt leaves_at s c ns) (woulds leaves cursors s c ns)
  unfolding up woulds slot_end cell_end
  up_is s c [] l k t = record { stack = none; arbitrations = none }
  up_is s c (n ∷ ns) l k t =
      let u = up pairs opsAt cursorsAt leaves_at (slot_after n s) (cell_after n c) ns in
      step_is n s c u (woulds leaves cursors (slot_after n s) (cell_after n c) ns) (omega (arith, slot_end_ge (slot_after n s) ns)) (omega (arith, cell_end_ge (cell_after n c) ns))
      (up_is (slot_after n s) (cell_after n c) ns l k (back opsAt ρ (up_grows opsAt cursorsAt leaves_at n s c u) t)) t
