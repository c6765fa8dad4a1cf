-- The size of every form of the top-down pass: at most 3 + 3 ε more than what the bottom-up pass leaves.
use Prim.Native.Nat.{◌*◌, ◌+◌, ◌<◌, ◌≤◌, suc, ℕ}
use native.Mathlib.Omega.{arith}
use mathlib.Core.Bool.{Bool, ◌&&◌, false, not, true}
use mathlib.Core.List.{List, [], ◌++◌, ◌∷◌}
use mathlib.Core.Logic.{inr}
use mathlib.Core.Path.{◌≡◌, refl}
use lib.ListN.{drop, length}
use Rattle.construct.proofs.Arbitrate.{ArbitrationIs, MarkIs}
use Rattle.construct.proofs.Bits.{bit_le}
use Rattle.construct.proofs.Builds.{Sat, and_grows, and_val, back, not_val, or_grows, wire_open}
use Rattle.construct.proofs.ListWalk.{Lot, Mark, Sem, idle}
use Rattle.construct.proofs.Reach.{EntryIs, OutIs, children_are, children_grows, down_grows, ends, ends_ge, flags_grows, next_cur_grows, spread_grows, top_entry}
use Rattle.construct.proofs.Values.{wire_val}
use Rattle.construct.specs.Builder.{and, and_at, not', or, push}
use Rattle.construct.specs.Forms.{Known, No, Open, Yes}
use Rattle.construct.specs.Lower.{Flat, cell_after, children, down, fixed, flags, force, invert, leaf, lost, next_cur, ordered, spread, top}
use Rattle.construct.specs.Pairs.{Entry, Form, Arbitration, ArbitratedChild, NodeReach, Op, known, pairs, wire'}
use Rattle.construct.specs.Value.{Bit, Val}
use Rattle.construct_means.proofs.Same.{fl}
use Rattle.construct_sizes.proofs.Bounds.{Fine, Low, Tables, Under, and_fine, low_up, not_low, or_fine, plus_low, push_fine, push_low', wire_low, zero_low}
use Rattle.construct_sizes.proofs.Heavy.{BitsLow}
use Rattle.construct_sizes.proofs.TreeLow.{ArbitrationsLow, KidsLow}
use Rattle.lists.proofs.Every.{all_append, all_drop, all2_append, all2_drop}
use Rattle.walk.specs.Kind.{bit}
use Rattle.lists.specs.Every.{All, All2, both, none}
use Rattle.walk.specs.Status.{is_running_status}
use Rattle.walk.specs.Walk.{Call}

pub record EntryLow (τ : Tables) (ε B : ℕ) (e : Entry) : Type 0 where
  pub reached : Low τ B e.reached
  pub called : Low τ (B + 2 + 2 * ε) e.called

pub record NodeReachLow (τ : Tables) (ε B : ℕ) (o : NodeReach) : Type 0 where
  pub raw : BitsLow τ B o.raw
  pub reached : Low τ B o.reached
  pub halted : Low τ (1 + ε) o.halted
  pub was : Low τ (1 + ε) o.was
  pub was_open : known o.was ≡ Open
  pub untouched : Low τ (B + 1) o.untouched

module _ (opsAt : ℕ) (ρ : ℕ → ℕ) (τ : Tables) (ε : ℕ) (le : Under τ ρ ε) where
  pub fine_up : (B D : ℕ) (os : List Op) → B ≤ D → Fine opsAt ρ τ ε le B os → Fine opsAt ρ τ ε le D os
  fine_up B D [] l h = tt
  fine_up B D (o ∷ os) l h = (record { pos = h.0.pos; one = h.0.one; left = low_up τ B D o.left h.0.left l; gate = low_up τ B D o.gate h.0.gate l }, fine_up B D os l h.1)

  -- `and` with a wire on the right: the wire, a wire of its own, or 0
  and_wire_at : (t : Known) (f g : Form) (a b : Bool) (os : List Op) → Low τ (1 + ε) g → Bit ρ (and_at pairs opsAt t Open f g os).form (a && b) → Low τ (1 + ε) (and_at pairs opsAt t Open f g os).form
  unfolding and_at
  and_wire_at Yes f g a b os l h = l
  and_wire_at No f g a b os l h = zero_low opsAt ρ τ ε le 0 (1 + ε)
  and_wire_at Open f g a b os l h = low_up τ (bit (a && b) + ε) (1 + ε) (push pairs opsAt f g os).form (push_low' opsAt ρ τ ε le 0 f g (bit (a && b)) os h) (omega (arith, bit_le (a && b)))

  and_wire : (f g : Form) (a b : Bool) (os : List Op) → known g ≡ Open → Low τ (1 + ε) g → Bit ρ (and pairs opsAt f g os).form (a && b) → Low τ (1 + ε) (and pairs opsAt f g os).form
  unfolding and
  and_wire f g a b os k l h = rw k (and_wire_at (known f) f g a b os l (rw k at h))

  module _ (cursorsAt B D : ℕ) (room : B + 3 + 3 * ε ≤ D) (one : 1 + ε ≤ B) where
    spread_low : (r h : Form) (t a : Bool) {xs : List ArbitratedChild} {ms : List Mark} (os : List Op) → Bit ρ r t → Bit ρ h a → Low τ B r → Low τ (1 + ε) h → All2 (MarkIs ρ) xs ms → KidsLow τ B xs
        → Fine opsAt ρ τ ε le D os → Sat opsAt ρ (spread pairs opsAt cursorsAt r h xs os).ops → Fine opsAt ρ τ ε le D (spread pairs opsAt cursorsAt r h xs os).ops × All (EntryLow τ ε B) (spread pairs opsAt cursorsAt r h xs os).items
    unfolding spread
    spread_low r h t a os p q lr lh none ks e s = (e, tt)
    spread_low r h t a os p q lr lh (both {a = x} {b = m} {xs = xs} k ks') ks e s =
        let o₁ = and pairs opsAt r x.reach os in
        let o₂ = and pairs opsAt r x.after_stop o₁.ops in
        let o₃ = or pairs opsAt h o₂.form o₂.ops in
        let s₃ : Sat opsAt ρ o₃.ops = back opsAt ρ (spread_grows opsAt cursorsAt r h xs o₃.ops) s in
        let s₂ : Sat opsAt ρ o₂.ops = back opsAt ρ (or_grows opsAt h o₂.form o₂.ops) s₃ in
        let s₁ : Sat opsAt ρ o₁.ops = back opsAt ρ (and_grows opsAt r x.after_stop o₁.ops) s₂ in
        let v₂ : Bit ρ o₂.form (t && m.stopped) = and_val opsAt ρ r x.after_stop t m.stopped o₁.ops p k.stopped s₂ in
        let e₁ = and_fine opsAt ρ τ ε le D r x.reach t m.reached B os p k.reached lr ks.0.0 one (omega arith) e s₁ in
        let e₂ = and_fine opsAt ρ τ ε le D r x.after_stop t m.stopped B o₁.ops p k.stopped lr ks.0.1 one (omega arith) e₁.0 s₂ in
        let e₃ = or_fine opsAt ρ τ ε le D h o₂.form a (t && m.stopped) (1 + ε) B o₂.ops q v₂ lh e₂.1 (omega arith) e₂.0 s₃ in
        let r' = spread_low r h t a o₃.ops p q lr lh ks' ks.1 e₃.0 s in
        (r'.0, (record { reached = e₁.1; called = low_up τ (1 + ε + B + 1 + ε) (B + 2 + 2 * ε) o₃.form e₃.1 (omega arith) }, r'.1))

    children_low : (n : Flat) (r h : Form) (t a : Bool) {xs : List ArbitratedChild} {ms : List Mark} (os : List Op) → Bit ρ r t → Bit ρ h a → Low τ B r → Low τ (1 + ε) h → All2 (MarkIs ρ) xs ms → KidsLow τ B xs
        → Fine opsAt ρ τ ε le D os → Sat opsAt ρ (children pairs opsAt cursorsAt n r h xs os).ops → Fine opsAt ρ τ ε le D (children pairs opsAt cursorsAt n r h xs os).ops × All (EntryLow τ ε B) (children pairs opsAt cursorsAt n r h xs os).items
    unfolding children
    children_low leaf r h t a os p q lr lh k ks e s = (e, tt)
    children_low (fixed b) r h t a os p q lr lh k ks e s = (e, tt)
    children_low invert r h t a os p q lr lh k ks e s = (e, (record { reached = lr; called = low_up τ (1 + ε) (B + 2 + 2 * ε) h lh (omega arith) }, tt))
    children_low (force b) r h t a os p q lr lh k ks e s = (e, (record { reached = lr; called = low_up τ (1 + ε) (B + 2 + 2 * ε) h lh (omega arith) }, tt))
    children_low (ordered m q' n) r h t a os p q lr lh k ks e s = spread_low r h t a os p q lr lh k ks e s

    next_cur_low : (n : Flat) (c : ℕ) (r u x : Form) (t y : Bool) (v : ℕ) (os : List Op) → (c < cell_after n c → ρ (cursorsAt + c) ≤ B) → Bit ρ r t → Bit ρ u y → Val ρ x v → Low τ B r → Low τ (B + 1) u
        → ((q : Bool) (k : ℕ) → n ≡ ordered true q k → Low τ B x) → Fine opsAt ρ τ ε le D os
        → Sat opsAt ρ (next_cur pairs opsAt cursorsAt n c r u x os).ops → Fine opsAt ρ τ ε le D (next_cur pairs opsAt cursorsAt n c r u x os).ops
    unfolding next_cur
    next_cur_low leaf c r u x t y v os l p q w lr lu lx e s = e
    next_cur_low (fixed b) c r u x t y v os l p q w lr lu lx e s = e
    next_cur_low invert c r u x t y v os l p q w lr lu lx e s = e
    next_cur_low (force b) c r u x t y v os l p q w lr lu lx e s = e
    next_cur_low (ordered true q' n) c r u x t y v os l p q w lr lu lx e s =
        let a = push pairs opsAt x r os in
        push_fine opsAt ρ τ ε le D (wire' (cursorsAt + c)) u (ρ (cursorsAt + c)) a.ops (wire_val ρ (cursorsAt + c)) (inr (omega (arith, bit_le y))) (low_up τ (B + ε) D (wire' (cursorsAt + c)) (wire_low opsAt ρ τ ε le D (cursorsAt + c) B (l (omega arith))) (omega arith)) (low_up τ (B + 1) D u lu (omega arith))
        (push_fine opsAt ρ τ ε le D x r v os w (inr (omega (arith, bit_le t))) (low_up τ B D x (lx q' n refl) (omega arith)) (low_up τ B D r lr (omega arith)) e)
    next_cur_low (ordered false q' n) c r u x t y v os l p q w lr lu lx e s = e

    top_low : (st : List Entry) → All (EntryLow τ ε B) st → EntryLow τ ε B (top (lost pairs opsAt cursorsAt) st)
    top_low [] h = record { reached = zero_low opsAt ρ τ ε le 0 B; called = zero_low opsAt ρ τ ε le 0 (B + 2 + 2 * ε) }
    top_low (e ∷ st) h = h.0

    pub down_low : (fl : ℕ → Bool) (cu : ℕ → ℕ) (M C : ℕ) → ((i : ℕ) → i < M → ρ i ≡ bit (fl i)) → ((c : ℕ) → c < C → ρ (cursorsAt + c) ≡ cu c) → ((c : ℕ) → c < C → cu c ≤ B)
        → (i c : ℕ) {xs : List Arbitration} {ms : List Sem} {st : List Entry} {ks : List Call} (os : List Op) → i + length ms ≤ M → ends c ms ≤ C
        → All2 (ArbitrationIs ρ) xs ms → All2 (EntryIs ρ) st ks → ArbitrationsLow τ B xs → All (EntryLow τ ε B) st → Fine opsAt ρ τ ε le D os
        → Sat opsAt ρ (down pairs opsAt cursorsAt i c xs st os).ops → Fine opsAt ρ τ ε le D (down pairs opsAt cursorsAt i c xs st os).ops × All (NodeReachLow τ ε B) (down pairs opsAt cursorsAt i c xs st os).outs
    unfolding down ends
    down_low fl cu M C hf hc hb i c os l b none e il el w s = (w, tt)
    down_low fl cu M C hf hc hb i c {st = st} {ks = ks} os l b (both {a = x} {b = m} {xs = xs} {ys = ms} h hs) e il el w s =
        let n = x.node in
        let te : EntryIs ρ (top (lost pairs opsAt cursorsAt) st) (top idle ks) = top_entry opsAt cursorsAt ρ e in
        let tl : EntryLow τ ε B (top (lost pairs opsAt cursorsAt) st) = top_low st el in
        let r = (top (lost pairs opsAt cursorsAt) st).reached in
        let cd = (top (lost pairs opsAt cursorsAt) st).called in
        let t = (top idle ks).ticked in
        let q = (top idle ks).called && fl i in
        let ha = and pairs opsAt cd (wire' i) os in
        let un = and pairs opsAt (not' pairs r) (not' pairs ha.form) ha.ops in
        let nc = next_cur pairs opsAt cursorsAt n c r un.form x.cursor un.ops in
        let ch = children pairs opsAt cursorsAt n r ha.form x.kids nc.ops in
        let s₄ : Sat opsAt ρ ch.ops = back opsAt ρ (down_grows opsAt cursorsAt (suc i) (cell_after n c) xs (ch.items ++ drop 1 st) ch.ops) s in
        let s₃ : Sat opsAt ρ nc.ops = back opsAt ρ (children_grows opsAt cursorsAt n r ha.form x.kids nc.ops) s₄ in
        let s₂ : Sat opsAt ρ un.ops = back opsAt ρ (next_cur_grows opsAt cursorsAt n c r un.form x.cursor un.ops) s₃ in
        let s₁ : Sat opsAt ρ ha.ops = back opsAt ρ (and_grows opsAt (not' pairs r) (not' pairs ha.form) ha.ops) s₂ in
        let vw : Bit ρ (wire' i) (fl i) = rw (hf i (omega arith)) at (wire_val ρ i) in
        let vh : Bit ρ ha.form q = and_val opsAt ρ cd (wire' i) (top idle ks).called (fl i) os te.called vw s₁ in
        let nr : Bit ρ (not' pairs r) (not t) = not_val opsAt ρ r t te.reached in
        let nh : Bit ρ (not' pairs ha.form) (not q) = not_val opsAt ρ ha.form q vh in
        let vu : Bit ρ un.form (not t && not q) = and_val opsAt ρ (not' pairs r) (not' pairs ha.form) (not t) (not q) ha.ops nr nh s₂ in
        let b' : ends (cell_after n c) ms ≤ C = rw (← h.node) at b in
        let lw : Low τ (1 + ε) (wire' i) = wire_low opsAt ρ τ ε le D i 1 (omega (arith, hf i (omega arith), bit_le (fl i))) in
        let e₁ = and_fine opsAt ρ τ ε le D cd (wire' i) (top idle ks).called (fl i) (B + 2 + 2 * ε) os te.called vw tl.called (low_up τ (1 + ε) (B + 2 + 2 * ε) (wire' i) lw (omega arith)) (omega arith) (omega arith) w s₁ in
        let lh : Low τ (1 + ε) ha.form = and_wire cd (wire' i) (top idle ks).called (fl i) os (wire_open i) lw vh in
        let e₂ = and_fine opsAt ρ τ ε le D (not' pairs r) (not' pairs ha.form) (not t) (not q) (B + 1) ha.ops nr nh (not_low τ B r tl.reached) (low_up τ (1 + ε + 1) (B + 1) (not' pairs ha.form) (not_low τ (1 + ε) ha.form lh) (omega arith)) (omega arith) (omega arith) e₁.0 s₂ in
        let e₃ = next_cur_low n c r un.form x.cursor t (not t && not q) m.cursor un.ops (λ g. omega (arith, hc c (omega (arith, ends_ge (cell_after n c) ms)), hb c (omega (arith, ends_ge (cell_after n c) ms)))) te.reached vu h.cursor tl.reached e₂.1 il.0.cursor e₂.0 s₃ in
        let e₄ = children_low n r ha.form t q nc.ops te.reached vh tl.reached lh h.kids il.0.kids e₃ s₄ in
        let vk = children_are opsAt cursorsAt ρ n r ha.form t q nc.ops te.reached vh h.kids s₄ in
        let rest = down_low fl cu M C hf hc hb (suc i) (cell_after n c) ch.ops (omega arith) b' hs (all2_append vk (all2_drop 1 e)) il.1
        (all_append (EntryLow τ ε B) ch.items (drop 1 st) e₄.1 (all_drop (EntryLow τ ε B) 1 st el)) e₄.0 s in
        (rest.0, (record { raw = il.0.raw; reached = tl.reached; halted = lh; was = lw; was_open = wire_open i; untouched = e₂.1 }, rest.1))

    pub flags_low : {xs : List NodeReach} {fs : List Lot} (os : List Op) → All2 (OutIs ρ) xs fs → All (NodeReachLow τ ε B) xs → Fine opsAt ρ τ ε le D os
        → Sat opsAt ρ (flags pairs opsAt cursorsAt xs os).ops → Fine opsAt ρ τ ε le D (flags pairs opsAt cursorsAt xs os).ops × All (Low τ (B + (1 + ε))) (flags pairs opsAt cursorsAt xs os).items
    unfolding flags
    flags_low os none ls w s = (w, tt)
    flags_low os (both {a = x} {b = f} {xs = xs} h hs) ls w s =
        let a = and pairs opsAt x.reached x.raw.running os in
        let b = and pairs opsAt x.untouched x.was a.ops in
        let s₂ : Sat opsAt ρ b.ops = back opsAt ρ (flags_grows opsAt cursorsAt xs b.ops) s in
        let s₁ : Sat opsAt ρ a.ops = back opsAt ρ (and_grows opsAt x.untouched x.was a.ops) s₂ in
        let u = not f.ticked && not f.halted in
        let e₁ = and_fine opsAt ρ τ ε le D x.reached x.raw.running f.ticked (is_running_status f.raw) B os h.reached h.raw.is_r ls.0.reached ls.0.raw.running one (omega arith) w s₁ in
        let e₂ = and_fine opsAt ρ τ ε le D x.untouched x.was u f.flag (B + 1) a.ops h.untouched h.was ls.0.untouched (low_up τ (1 + ε) (B + 1) x.was ls.0.was (omega arith)) (omega arith) (omega arith) e₁.0 s₂ in
        let r = flags_low b.ops hs ls.1 e₂.0 s in
        (r.0, (plus_low τ B (1 + ε) a.form b.form e₁.1 (and_wire x.untouched x.was u f.flag a.ops ls.0.was_open ls.0.was (and_val opsAt ρ x.untouched x.was u f.flag a.ops h.untouched h.was s₂)), r.1))
