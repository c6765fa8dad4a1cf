-- The top-down pass: what is reached, halted and kept, and the next flags and cursors, are the walk's.
use Prim.Native.Nat.{◌*◌, ◌+◌, ◌<◌, ◌≤◌, suc, ℕ}
use native.Mathlib.Omega.{arith}
use mathlib.Core.Bool.{Bool, ◌&&◌, cond, false, not, true}
use mathlib.Core.List.{List, [], ◌++◌, ◌∷◌}
use mathlib.Core.Path.{◌≡◌}
use lib.ListN.{drop, length}
use Rattle.construct.proofs.Arbitrate.{ArbitrationIs, MarkIs, cells_ge}
use Rattle.construct.proofs.Builds.{Grows, Sat, after, and_grows, and_val, back, mask_val, more, not_val, or_grows, or_val, push_grows, same}
use Rattle.construct.proofs.ListWalk.{Lot, Lots, Mark, Sem, calls, idle, lots, next_c, next_f, tell}
use Rattle.construct.proofs.Values.{constant_val, plus_val, wire_val}
use Rattle.construct.specs.Builder.{and, not', or, push}
use Rattle.construct.specs.Lower.{Flat, cell_after, children, down, fixed, flags, force, invert, leaf, lost, next_cur, ordered, spread, top}
use Rattle.construct.specs.Pairs.{Down, Entry, Form, Arbitration, ArbitratedChild, NodeReach, Op, pairs, wire'}
use Rattle.construct.specs.Value.{Bit, BitsAre, Val}
use Rattle.lists.proofs.Every.{all2_append, all2_drop}
use Rattle.walk.specs.Kind.{bit}
use Rattle.lists.specs.Every.{All2, both, none}
use Rattle.walk.specs.Status.{is_running_status}
use Rattle.walk.specs.Walk.{Call}

-- growth
module _ (opsAt cursorsAt : ℕ) where
  pub spread_grows : (r h : Form) (xs : List ArbitratedChild) (os : List Op) → Grows os (spread pairs opsAt cursorsAt r h xs os).ops
  unfolding spread
  spread_grows r h [] os = same
  spread_grows r h (x ∷ xs) os = after (after (after (and_grows opsAt _ _ os) (and_grows opsAt _ _ _)) (or_grows opsAt _ _ _)) (spread_grows r h xs _)

  pub children_grows : (n : Flat) (r h : Form) (ks : List ArbitratedChild) (os : List Op) → Grows os (children pairs opsAt cursorsAt n r h ks os).ops
  unfolding children
  children_grows leaf r h ks os = same
  children_grows (fixed b) r h ks os = same
  children_grows invert r h ks os = same
  children_grows (force b) r h ks os = same
  children_grows (ordered m q n) r h ks os = spread_grows r h ks os

  pub next_cur_grows : (n : Flat) (c : ℕ) (r u x : Form) (os : List Op) → Grows os (next_cur pairs opsAt cursorsAt n c r u x os).ops
  unfolding next_cur push
  next_cur_grows leaf c r u x os = same
  next_cur_grows (fixed b) c r u x os = same
  next_cur_grows invert c r u x os = same
  next_cur_grows (force b) c r u x os = same
  next_cur_grows (ordered true q n) c r u x os = more (more same)
  next_cur_grows (ordered false q n) c r u x os = same

  pub down_grows : (i c : ℕ) (xs : List Arbitration) (st : List Entry) (os : List Op) → Grows os (down pairs opsAt cursorsAt i c xs st os).ops
  unfolding down
  down_grows i c [] st os = same
  down_grows i c (x ∷ xs) st os = after (after (after (after (and_grows opsAt _ _ os) (and_grows opsAt _ _ _)) (next_cur_grows x.node c _ _ _ _)) (children_grows x.node _ _ _ _)) (down_grows (suc i) (cell_after x.node c) xs _ _)

  pub flags_grows : (xs : List NodeReach) (os : List Op) → Grows os (flags pairs opsAt cursorsAt xs os).ops
  unfolding flags
  flags_grows [] os = same
  flags_grows (x ∷ xs) os = after (after (and_grows opsAt _ _ os) (and_grows opsAt _ _ _)) (flags_grows xs _)

-- laws
pub record EntryIs (ρ : ℕ → ℕ) (e : Entry) (m : Call) : Type 0 where
  pub reached : Bit ρ e.reached m.ticked
  pub called : Bit ρ e.called m.called

pub record OutIs (ρ : ℕ → ℕ) (o : NodeReach) (f : Lot) : Type 0 where
  pub raw : BitsAre ρ o.raw f.raw
  pub reached : Bit ρ o.reached f.ticked
  pub halted : Bit ρ o.halted f.halted
  pub was : Bit ρ o.was f.flag
  pub untouched : Bit ρ o.untouched (not f.ticked && not f.halted)

pub record DownIs (ρ : ℕ → ℕ) (d : Down) (f : Lots) : Type 0 where
  pub outs : All2 (OutIs ρ) d.outs f.outs
  pub cursors : All2 (Val ρ) d.cursors f.cursors

keep_or_not : (t h : Bool) (x y : ℕ) → x * bit t + y * bit (not t && not h) ≡ cond t x (cond h 0 y)
keep_or_not true h x y = omega arith
keep_or_not false true x y = omega arith
keep_or_not false false x y = omega arith

flag_sum : (t h r f : Bool) → bit (t && r) + bit ((not t && not h) && f) ≡ bit (cond t r (cond h false f))
flag_sum true h r f = omega arith
flag_sum false true r f = omega arith
flag_sum false false r f = omega arith

-- the cursor cells after those nodes
unfoldable pub ends : ℕ → List Sem → ℕ
ends c [] = c
ends c (m ∷ ms) = ends (cell_after m.node c) ms

pub ends_ge : (c : ℕ) (ms : List Sem) → c ≤ ends c ms
unfolding ends
ends_ge c [] = omega arith
ends_ge c (m ∷ ms) = omega (arith, cells_ge m.node c, ends_ge (cell_after m.node c) ms)

module _ (opsAt cursorsAt : ℕ) (ρ : ℕ → ℕ) where
  pub spread_is : (r h : Form) (t a : Bool) {xs : List ArbitratedChild} {ms : List Mark} (os : List Op) → Bit ρ r t → Bit ρ h a → All2 (MarkIs ρ) xs ms
      → Sat opsAt ρ (spread pairs opsAt cursorsAt r h xs os).ops → All2 (EntryIs ρ) (spread pairs opsAt cursorsAt r h xs os).items (calls t a ms)
  unfolding spread calls
  spread_is r h t a os p q none s = none
  spread_is r h t a os p q (both {a = x} {b = m} {xs = xs} k ks) s =
      let o₁ = and pairs opsAt r x.reach os in
      let o₂ = and pairs opsAt r x.after_stop o₁.ops in
      let o₃ = or pairs opsAt h o₂.form o₂.ops in
      let s₃ : Sat opsAt ρ o₃.ops = back opsAt ρ (spread_grows opsAt cursorsAt r h xs o₃.ops) s in
      let s₂ : Sat opsAt ρ o₂.ops = back opsAt ρ (or_grows opsAt h o₂.form o₂.ops) s₃ in
      let s₁ : Sat opsAt ρ o₁.ops = back opsAt ρ (and_grows opsAt r x.after_stop o₁.ops) s₂ in
      let v₂ : Bit ρ o₂.form (t && m.stopped) = and_val opsAt ρ r x.after_stop t m.stopped o₁.ops p k.stopped s₂ in
      both (record {
        reached = and_val opsAt ρ r x.reach t m.reached os p k.reached s₁;
        called = or_val opsAt ρ h o₂.form a (t && m.stopped) o₂.ops q v₂ s₃;
      })
      (spread_is r h t a o₃.ops p q ks s)

  pub children_are : (n : Flat) (r h : Form) (t a : Bool) {xs : List ArbitratedChild} {ms : List Mark} (os : List Op) → Bit ρ r t → Bit ρ h a → All2 (MarkIs ρ) xs ms
      → Sat opsAt ρ (children pairs opsAt cursorsAt n r h xs os).ops → All2 (EntryIs ρ) (children pairs opsAt cursorsAt n r h xs os).items (tell n t a ms)
  unfolding children tell
  children_are leaf r h t a os p q k s = none
  children_are (fixed b) r h t a os p q k s = none
  children_are invert r h t a os p q k s = both (record { reached = p; called = q }) none
  children_are (force b) r h t a os p q k s = both (record { reached = p; called = q }) none
  children_are (ordered m q' n) r h t a os p q k s = spread_is r h t a os p q k s

  pub next_cur_is : (n : Flat) (c : ℕ) (r u x : Form) (t h : Bool) (v y : ℕ) (os : List Op) → (c < cell_after n c → ρ (cursorsAt + c) ≡ y)
      → Bit ρ r t → Bit ρ u (not t && not h) → Val ρ x v
      → Sat opsAt ρ (next_cur pairs opsAt cursorsAt n c r u x os).ops → All2 (Val ρ) (next_cur pairs opsAt cursorsAt n c r u x os).items (next_c n t h v y)
  unfolding next_cur next_c
  next_cur_is leaf c r u x t h v y os e p q w s = none
  next_cur_is (fixed b) c r u x t h v y os e p q w s = none
  next_cur_is invert c r u x t h v y os e p q w s = none
  next_cur_is (force b) c r u x t h v y os e p q w s = none
  next_cur_is (ordered true q' n) c r u x t h v y os e p q w s =
      let a = push pairs opsAt x r os in
      let b = push pairs opsAt (wire' (cursorsAt + c)) u a.ops in
      let va : Val ρ a.form (v * bit t) = mask_val opsAt ρ x r v t os w p (back opsAt ρ (push_grows opsAt (wire' (cursorsAt + c)) u a.ops) s) in
      let vw : Val ρ (wire' (cursorsAt + c)) y = rw (e (omega arith)) at (wire_val ρ (cursorsAt + c)) in
      let vb : Val ρ b.form (y * bit (not t && not h)) = mask_val opsAt ρ (wire' (cursorsAt + c)) u y (not t && not h) a.ops vw q s in
      both (rw (keep_or_not t h v y) at (plus_val ρ a.form b.form (v * bit t) (y * bit (not t && not h)) va vb)) none
  next_cur_is (ordered false q' n) c r u x t h v y os e p q w s = none

  pub top_entry : {st : List Entry} {ms : List Call} → All2 (EntryIs ρ) st ms → EntryIs ρ (top (lost pairs opsAt cursorsAt) st) (top idle ms)
  top_entry none = record { reached = constant_val ρ 0; called = constant_val ρ 0 }
  top_entry (both h hs) = h

  -- the top-down pass is the walk's
  pub down_is : (fl : ℕ → Bool) (cu : ℕ → ℕ) (M C : ℕ) → ((i : ℕ) → i < M → ρ i ≡ bit (fl i)) → ((c : ℕ) → c < C → ρ (cursorsAt + c) ≡ cu c)
      → (i c : ℕ) {xs : List Arbitration} {ms : List Sem} {st : List Entry} {ks : List Call} (os : List Op) → i + length ms ≤ M → ends c ms ≤ C
      → All2 (ArbitrationIs ρ) xs ms → All2 (EntryIs ρ) st ks
      → Sat opsAt ρ (down pairs opsAt cursorsAt i c xs st os).ops → DownIs ρ (down pairs opsAt cursorsAt i c xs st os) (lots fl cu i c ms ks)
  unfolding down lots ends
  down_is fl cu M C hf hc i c os l b none e s = record { outs = none; cursors = none }
  down_is fl cu M C hf hc i c {st = st} {ks = ks} os l b (both {a = x} {b = m} {xs = xs} {ys = ms} h hs) e s =
      let n = x.node in
      let te : EntryIs ρ (top (lost pairs opsAt cursorsAt) st) (top idle ks) = top_entry e in
      let r = (top (lost pairs opsAt cursorsAt) st).reached in
      let t = (top idle ks).ticked in
      let q = (top idle ks).called && fl i in
      let ha = and pairs opsAt (top (lost pairs opsAt cursorsAt) st).called (wire' i) os in
      let un = and pairs opsAt (not' pairs r) (not' pairs ha.form) ha.ops in
      let nc = next_cur pairs opsAt cursorsAt n c r un.form x.cursor un.ops in
      let ch = children pairs opsAt cursorsAt n r ha.form x.kids nc.ops in
      let s₄ : Sat opsAt ρ ch.ops = back opsAt ρ (down_grows opsAt cursorsAt (suc i) (cell_after n c) xs (ch.items ++ drop 1 st) ch.ops) s in
      let s₃ : Sat opsAt ρ nc.ops = back opsAt ρ (children_grows opsAt cursorsAt n r ha.form x.kids nc.ops) s₄ in
      let s₂ : Sat opsAt ρ un.ops = back opsAt ρ (next_cur_grows opsAt cursorsAt n c r un.form x.cursor un.ops) s₃ in
      let s₁ : Sat opsAt ρ ha.ops = back opsAt ρ (and_grows opsAt (not' pairs r) (not' pairs ha.form) ha.ops) s₂ in
      let vw : Bit ρ (wire' i) (fl i) = rw (hf i (omega arith)) at (wire_val ρ i) in
      let vh : Bit ρ ha.form q = and_val opsAt ρ (top (lost pairs opsAt cursorsAt) st).called (wire' i) (top idle ks).called (fl i) os te.called vw s₁ in
      let vu : Bit ρ un.form (not t && not q) = and_val opsAt ρ (not' pairs r) (not' pairs ha.form) (not t) (not q) ha.ops (not_val opsAt ρ r t te.reached) (not_val opsAt ρ ha.form q vh) s₂ in
      let b' : ends (cell_after n c) ms ≤ C = rw (← h.node) at b in
      let vc = next_cur_is n c r un.form x.cursor t q m.cursor (cu c) un.ops (λ g. hc c (omega (arith, ends_ge (cell_after n c) ms))) te.reached vu h.cursor s₃ in
      let vk = children_are n r ha.form t q nc.ops te.reached vh h.kids s₄ in
      let rest = down_is fl cu M C hf hc (suc i) (cell_after n c) ch.ops (omega arith) b' hs (all2_append vk (all2_drop 1 e)) s in
      rw (← h.node) (record {
        outs = both (record { raw = h.raw; reached = te.reached; halted = vh; was = vw; untouched = vu }) rest.outs;
        cursors = all2_append vc rest.cursors;
      })

  -- the next flags
  pub flags_are : {xs : List NodeReach} {fs : List Lot} (os : List Op) → All2 (OutIs ρ) xs fs
      → Sat opsAt ρ (flags pairs opsAt cursorsAt xs os).ops → All2 (λ f x. Bit ρ f (next_f x)) (flags pairs opsAt cursorsAt xs os).items fs
  unfolding flags
  flags_are os none s = none
  flags_are os (both {a = x} {b = f} {xs = xs} h hs) s =
      let a = and pairs opsAt x.reached x.raw.running os in
      let b = and pairs opsAt x.untouched x.was a.ops in
      let s₂ : Sat opsAt ρ b.ops = back opsAt ρ (flags_grows opsAt cursorsAt xs b.ops) s in
      let s₁ : Sat opsAt ρ a.ops = back opsAt ρ (and_grows opsAt x.untouched x.was a.ops) s₂ in
      let u = not f.ticked && not f.halted in
      let va : Bit ρ a.form (f.ticked && is_running_status f.raw) = and_val opsAt ρ x.reached x.raw.running f.ticked (is_running_status f.raw) os h.reached h.raw.is_r s₁ in
      let vb : Bit ρ b.form (u && f.flag) = and_val opsAt ρ x.untouched x.was u f.flag a.ops h.untouched h.was s₂ in
      both (rw (flag_sum f.ticked f.halted (is_running_status f.raw) f.flag) at (plus_val ρ a.form b.form (bit (f.ticked && is_running_status f.raw)) (bit (u && f.flag)) va vb))
      (flags_are b.ops hs s)
