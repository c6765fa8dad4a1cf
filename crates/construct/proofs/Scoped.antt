-- Scope of the two passes and of the whole circuit.
use Prim.Native.Nat.{◌*◌, ◌+◌, ◌<◌, ◌≤◌, suc, ℕ}
use native.Mathlib.Omega.{arith}
use mathlib.Core.Bool.{Bool, false, not, true}
use mathlib.Core.List.{List, [], ◌++◌, ◌∷◌}
use mathlib.Core.Path.{◌∙◌, ◌≡◌, ap, refl}
use lib.ListN.{drop, length, take}
use Rattle.construct.proofs.Arbitrate.{cell_end_ge, cells_ge, slot_end_ge, up_grows}
use Rattle.construct.proofs.Builds.{Grows, after, and_grows, at_least_grows, is_zero_grows, or_grows, push_grows}
use Rattle.construct.proofs.Reach.{children_grows, down_grows, flags_grows, next_cur_grows, spread_grows}
use Rattle.construct.proofs.Scope.{In, Made, Wf, and_made, at_least_made, constant_reads, in_up, is_zero_made, not_reads, or_made, plus_reads, push_made, scaled_reads, wire_reads}
use Rattle.construct.proofs.Sequence.{clears_grows, gates_grows, picks_grows, stops_grows}
use Rattle.construct.specs.Builder.{and, at_least, is_zero, not', or, push}
use Rattle.construct.specs.Circuit.{build, cell_end, cells_n, cells_nc, inputs, root, slot_end}
use Rattle.construct.specs.Lower.{Flat, cell_after, children, clears, cursor_f, down, fixed, fixed_t, flags, force, forced, gates, invert, inverted, inverteds, leaf, leaf_t, lost, lower, lower_seq, next_cur, ordered, picks, slot_after, spread, stops, top, total, up, up_step}
use Rattle.construct.specs.Pairs.{Down, Entry, Form, Arbitration, GatedChild, ClearedChild, ArbitratedChild, Many, NodeReach, Op, Ordered, Picked, StatusBits, Up, constant, pairs, plus, scaled, wire'}
use Rattle.lists.proofs.Every.{all_append, all_drop, all_map, all_take}
use Rattle.walk.specs.Kind.{bit}
use Rattle.lists.specs.Every.{All}
use Rattle.walk.specs.Walk.{status}

module _ (opsAt : ℕ) where
  pub record BitsIn (os : List Op) (t : StatusBits) : Type 0 where
    pub success : In opsAt os t.success
    pub failure : In opsAt os t.failure
    pub running : In opsAt os t.running

  record GatedChildIn (os : List Op) (x : GatedChild) : Type 0 where
    status : BitsIn os x.status
    before : In opsAt os x.before
    blocked : In opsAt os x.blocked

  record ClearedChildIn (os : List Op) (x : ClearedChild) : Type 0 where
    child : GatedChildIn os x.child
    clear : In opsAt os x.clear

  pub record ArbitratedChildIn (os : List Op) (x : ArbitratedChild) : Type 0 where
    pub status : BitsIn os x.status
    pub reach : In opsAt os x.reach
    pub stop : In opsAt os x.stop
    pub after_stop : In opsAt os x.after_stop

  bits_up : {a b : List Op} → Grows a b → (t : StatusBits) → BitsIn a t → BitsIn b t
  bits_up g t h = record { success = in_up opsAt t.success g h.success; failure = in_up opsAt t.failure g h.failure; running = in_up opsAt t.running g h.running }

  kid1_up : {a b : List Op} → Grows a b → (x : GatedChild) → GatedChildIn a x → GatedChildIn b x
  kid1_up g x h = record { status = bits_up g x.status h.status; before = in_up opsAt x.before g h.before; blocked = in_up opsAt x.blocked g h.blocked }

  kid2_up : {a b : List Op} → Grows a b → (x : ClearedChild) → ClearedChildIn a x → ClearedChildIn b x
  kid2_up g x h = record { child = kid1_up g x.child h.child; clear = in_up opsAt x.clear g h.clear }

  kid3_up : {a b : List Op} → Grows a b → (x : ArbitratedChild) → ArbitratedChildIn a x → ArbitratedChildIn b x
  kid3_up g x h = record { status = bits_up g x.status h.status; reach = in_up opsAt x.reach g h.reach; stop = in_up opsAt x.stop g h.stop; after_stop = in_up opsAt x.after_stop g h.after_stop }

  pub record ManyIn {X : Type 0} (R : List Op → X → Type 0) (m : Many X) : Type 0 where
    pub wf : Wf opsAt m.ops
    pub items : All (R m.ops) m.items

  gates_made : (c : Form) (k : ℕ) (ts : List StatusBits) (os : List Op) → Wf opsAt os → In opsAt os c → All (BitsIn os) ts → ManyIn GatedChildIn (gates pairs opsAt c k ts os)
  unfolding gates
  gates_made c k [] os w h ps = record { wf = w; items = tt }
  gates_made c k (t ∷ ts) os w h ps =
      let p = ps.0 in
      let o₁ = at_least pairs opsAt c (suc k) os in
      let o₂ = or pairs opsAt o₁.form t.success o₁.ops in
      let o₃ = gates pairs opsAt c (suc k) ts o₂.ops in
      let g₁ = at_least_grows opsAt c (suc k) os in
      let g₂ = or_grows opsAt o₁.form t.success o₁.ops in
      let g₃ = gates_grows opsAt c (suc k) ts o₂.ops in
      let m₁ : Made opsAt o₁ = at_least_made opsAt c (suc k) os w h in
      let m₂ : Made opsAt o₂ = or_made opsAt o₁.form t.success o₁.ops m₁.wf m₁.reads (in_up opsAt t.success g₁ p.success) in
      let m₃ : ManyIn GatedChildIn o₃ = gates_made c (suc k) ts o₂.ops m₂.wf (in_up opsAt c (after g₁ g₂) h) (all_map (bits_up (after g₁ g₂)) ts ps.1) in
      record {
        wf = m₃.wf;
        items = (
          record {
            status = bits_up (after (after g₁ g₂) g₃) t p;
            before = in_up opsAt o₁.form (after g₂ g₃) m₁.reads;
            blocked = in_up opsAt (not' pairs o₂.form) g₃ (not_reads (opsAt + length o₂.ops) o₂.form m₂.reads);
          },
          m₃.items,
        );
      }

  clears_made : (p : Form) (xs : List GatedChild) (os : List Op) → Wf opsAt os → In opsAt os p → All (GatedChildIn os) xs → ManyIn ClearedChildIn (clears pairs opsAt p xs os)
  unfolding clears
  clears_made p [] os w h ks = record { wf = w; items = tt }
  clears_made p (x ∷ xs) os w h ks =
      let k = ks.0 in
      let o₁ = is_zero pairs opsAt p os in
      let p' = plus p x.blocked in
      let o₂ = clears pairs opsAt p' xs o₁.ops in
      let g₁ = is_zero_grows opsAt p os in
      let g₂ = clears_grows opsAt p' xs o₁.ops in
      let m₁ : Made opsAt o₁ = is_zero_made opsAt p os w h in
      let m₂ : ManyIn ClearedChildIn o₂ = clears_made p' xs o₁.ops m₁.wf (in_up opsAt p' g₁ (plus_reads (opsAt + length os) p x.blocked h k.blocked)) (all_map (kid1_up g₁) xs ks.1) in
      record { wf = m₂.wf; items = (record { child = kid1_up (after g₁ g₂) x k; clear = in_up opsAt o₁.form g₂ m₁.reads }, m₂.items) }

  stops_made : (p : Form) (xs : List ClearedChild) (os : List Op) → Wf opsAt os → In opsAt os p → All (ClearedChildIn os) xs → ManyIn ArbitratedChildIn (stops pairs opsAt p xs os)
  unfolding stops
  stops_made p [] os w h ks = record { wf = w; items = tt }
  stops_made p (x ∷ xs) os w h ks =
      let k = ks.0 in
      let o₁ = and pairs opsAt x.clear (not' pairs x.child.before) os in
      let o₂ = and pairs opsAt x.clear x.child.blocked o₁.ops in
      let p' = plus p o₂.form in
      let o₃ = stops pairs opsAt p' xs o₂.ops in
      let g₁ = and_grows opsAt x.clear (not' pairs x.child.before) os in
      let g₂ = and_grows opsAt x.clear x.child.blocked o₁.ops in
      let g₃ = stops_grows opsAt p' xs o₂.ops in
      let m₁ : Made opsAt o₁ = and_made opsAt x.clear (not' pairs x.child.before) os w k.clear (not_reads (opsAt + length os) x.child.before k.child.before) in
      let m₂ : Made opsAt o₂ = and_made opsAt x.clear x.child.blocked o₁.ops m₁.wf (in_up opsAt x.clear g₁ k.clear) (in_up opsAt x.child.blocked g₁ k.child.blocked) in
      let m₃ : ManyIn ArbitratedChildIn o₃ = stops_made p' xs o₂.ops m₂.wf (plus_reads (opsAt + length o₂.ops) p o₂.form (in_up opsAt p (after g₁ g₂) h) m₂.reads) (all_map (kid2_up (after g₁ g₂)) xs ks.1) in
      record {
        wf = m₃.wf;
        items = (
          record {
            status = bits_up (after (after g₁ g₂) g₃) x.child.status k.child.status;
            reach = in_up opsAt o₁.form (after g₂ g₃) m₁.reads;
            stop = in_up opsAt o₂.form g₃ m₂.reads;
            after_stop = in_up opsAt p (after (after g₁ g₂) g₃) h;
          },
          m₃.items,
        );
      }

  total_in : (os : List Op) (p : Form) (xs : List ArbitratedChild) → In opsAt os p → All (ArbitratedChildIn os) xs → In opsAt os (total pairs p xs)
  unfolding total
  total_in os p [] h ks = h
  total_in os p (x ∷ xs) h ks = total_in os (plus p x.stop) xs (plus_reads (opsAt + length os) p x.stop h ks.0.stop) ks.1

  record PickedIn (p : Picked) : Type 0 where
    wf : Wf opsAt p.ops
    other : In opsAt p.ops p.other
    run : In opsAt p.ops p.run
    cursor : In opsAt p.ops p.cursor

  picks_made : (k : ℕ) (o r c : Form) (xs : List ArbitratedChild) (os : List Op) → Wf opsAt os → In opsAt os o → In opsAt os r → In opsAt os c → All (ArbitratedChildIn os) xs → PickedIn (picks pairs opsAt k o r c xs os)
  unfolding picks
  picks_made k o r c [] os w ho hr hc hs = record { wf = w; other = ho; run = hr; cursor = hc }
  picks_made k o r c (x ∷ xs) os w ho hr hc hs =
      let h = hs.0 in
      let o₁ = and pairs opsAt x.stop x.status.failure os in
      let o₂ = and pairs opsAt x.stop x.status.running o₁.ops in
      let g₁ = and_grows opsAt x.stop x.status.failure os in
      let g₂ = and_grows opsAt x.stop x.status.running o₁.ops in
      let n₂ = opsAt + length o₂.ops in
      let m₁ : Made opsAt o₁ = and_made opsAt x.stop x.status.failure os w h.stop h.status.failure in
      let m₂ : Made opsAt o₂ = and_made opsAt x.stop x.status.running o₁.ops m₁.wf (in_up opsAt x.stop g₁ h.stop) (in_up opsAt x.status.running g₁ h.status.running) in
      picks_made (suc k) (plus o o₁.form) (plus r o₂.form) (plus c (scaled k o₂.form)) xs o₂.ops m₂.wf
      (plus_reads n₂ o o₁.form (in_up opsAt o (after g₁ g₂) ho) (in_up opsAt o₁.form g₂ m₁.reads))
      (plus_reads n₂ r o₂.form (in_up opsAt r (after g₁ g₂) hr) m₂.reads)
      (plus_reads n₂ c (scaled k o₂.form) (in_up opsAt c (after g₁ g₂) hc) (scaled_reads n₂ k o₂.form m₂.reads))
      (all_map (kid3_up (after g₁ g₂)) xs hs.1)

  record OrderedIn (o : Ordered) : Type 0 where
    wf : Wf opsAt o.ops
    status : BitsIn o.ops o.status
    kids : All (ArbitratedChildIn o.ops) o.kids
    cursor : In opsAt o.ops o.cursor

  lower_made : (c : Form) (ts : List StatusBits) (os : List Op) → Wf opsAt os → In opsAt os c → All (BitsIn os) ts → OrderedIn (lower_seq pairs opsAt c ts os)
  unfolding lower_seq
  lower_made c ts os w h hs =
      let z = constant 0 in
      let a = gates pairs opsAt c 0 ts os in
      let b = clears pairs opsAt z a.items a.ops in
      let d = stops pairs opsAt z b.items b.ops in
      let e = picks pairs opsAt 0 z z z d.items d.ops in
      let ma = gates_made c 0 ts os w h hs in
      let mb = clears_made z a.items a.ops ma.wf (constant_reads (opsAt + length a.ops) 0) ma.items in
      let md = stops_made z b.items b.ops mb.wf (constant_reads (opsAt + length b.ops) 0) mb.items in
      let zd = constant_reads (opsAt + length d.ops) 0 in
      let me = picks_made 0 z z z d.items d.ops md.wf zd zd zd md.items in
      let g = picks_grows opsAt 0 z z z d.items d.ops in
      let t = total pairs z d.items in
      record {
        wf = me.wf;
        kids = all_map (kid3_up g) d.items md.items;
        cursor = me.cursor;
        status = record {
          success = in_up opsAt (not' pairs t) g (not_reads (opsAt + length d.ops) t (total_in d.ops z d.items zd md.items));
          failure = me.other;
          running = me.run;
        };
      }

  inverted_in : (os : List Op) (t : StatusBits) → BitsIn os t → BitsIn os (inverted t)
  unfolding inverted
  inverted_in os t h = record { success = h.failure; failure = h.success; running = h.running }

  inverteds_in : (os : List Op) (ts : List StatusBits) → All (BitsIn os) ts → All (BitsIn os) (inverteds ts)
  unfolding inverteds
  inverteds_in os [] h = tt
  inverteds_in os (t ∷ ts) h = (inverted_in os t h.0, inverteds_in os ts h.1)

  forced_in : (os : List Op) (b : Bool) (t : StatusBits) → BitsIn os t → BitsIn os (forced pairs b t)
  unfolding forced
  forced_in os true t h = record { success = plus_reads (opsAt + length os) t.success t.failure h.success h.failure; failure = constant_reads (opsAt + length os) 0; running = h.running }
  forced_in os false t h = record { success = constant_reads (opsAt + length os) 0; failure = plus_reads (opsAt + length os) t.success t.failure h.success h.failure; running = h.running }

  fixed_in : (os : List Op) (b : Bool) → BitsIn os (fixed_t pairs b)
  unfolding fixed_t
  fixed_in os b = record { success = constant_reads (opsAt + length os) (bit b); failure = constant_reads (opsAt + length os) (bit (not b)); running = constant_reads (opsAt + length os) 0 }

  top_in : (os : List Op) (ts : List StatusBits) → All (BitsIn os) ts → BitsIn os (top (fixed_t pairs true) ts)
  top_in os [] h = fixed_in os true
  top_in os (t ∷ ts) h = h.0

  lower_in : (q : Bool) (c : Form) (ts : List StatusBits) (os : List Op) → Wf opsAt os → In opsAt os c → All (BitsIn os) ts → OrderedIn (lower pairs opsAt q c ts os)
  unfolding lower
  lower_in true c ts os w h hs = lower_made c ts os w h hs
  lower_in false c ts os w h hs =
      let o = lower_seq pairs opsAt c (inverteds ts) os in
      let m = lower_made c (inverteds ts) os w h (inverteds_in os ts hs) in
      record { wf = m.wf; status = inverted_in o.ops o.status m.status; kids = m.kids; cursor = m.cursor }

  pub record ArbitrationIn (os : List Op) (i : Arbitration) : Type 0 where
    pub raw : BitsIn os i.raw
    pub kids : All (ArbitratedChildIn os) i.kids
    pub cursor : In opsAt os i.cursor

  info_up : {a b : List Op} → Grows a b → (i : Arbitration) → ArbitrationIn a i → ArbitrationIn b i
  info_up g i h = record { raw = bits_up g i.raw h.raw; kids = all_map (kid3_up g) i.kids h.kids; cursor = in_up opsAt i.cursor g h.cursor }

  pub record UpIn (u : Up) : Type 0 where
    pub wf : Wf opsAt u.ops
    pub stack : All (BitsIn u.ops) u.stack
    pub arbitrations : All (ArbitrationIn u.ops) u.arbitrations

  module _ (cursorsAt leaves_at C L : ℕ) (fitC : cursorsAt + C ≤ leaves_at) (fitL : leaves_at + 3 * L ≤ opsAt) where
    leaf_in_lem : (os : List Op) (s : ℕ) → s < L → BitsIn os (leaf_t pairs opsAt cursorsAt leaves_at s)
    leaf_in_lem os s h = record {
      success = wire_reads (opsAt + length os) (leaves_at + 3 * s) (omega arith);
      failure = wire_reads (opsAt + length os) (leaves_at + 3 * s + 1) (omega arith);
      running = wire_reads (opsAt + length os) (leaves_at + 3 * s + 2) (omega arith);
    }

    cursor_in_lem : (os : List Op) (m q : Bool) (n c : ℕ) → cell_after (ordered m q n) c ≤ C → In opsAt os (cursor_f pairs opsAt cursorsAt leaves_at m c)
    cursor_in_lem os true q n c h = wire_reads (opsAt + length os) (cursorsAt + c) (omega arith)
    cursor_in_lem os false q n c h = constant_reads (opsAt + length os) 0

    step_in : (n : Flat) (s c : ℕ) (u : Up) → slot_after n s ≤ L → cell_after n c ≤ C → UpIn u → UpIn (up_step pairs opsAt cursorsAt leaves_at n s c u)
    unfolding up_step
    step_in leaf s c u l k h =
        let t = leaf_in_lem u.ops s l in
        record { wf = h.wf; stack = (t, h.stack); arbitrations = (record { raw = t; kids = tt; cursor = constant_reads (opsAt + length u.ops) 0 }, h.arbitrations) }
    step_in (fixed b) s c u l k h =
        let t = fixed_in u.ops b in
        record { wf = h.wf; stack = (t, h.stack); arbitrations = (record { raw = t; kids = tt; cursor = constant_reads (opsAt + length u.ops) 0 }, h.arbitrations) }
    step_in invert s c u l k h =
        let t = inverted_in u.ops (top (fixed_t pairs true) u.stack) (top_in u.ops u.stack h.stack) in
        record { wf = h.wf; stack = (t, all_drop (BitsIn u.ops) 1 u.stack h.stack); arbitrations = (record { raw = t; kids = tt; cursor = constant_reads (opsAt + length u.ops) 0 }, h.arbitrations) }
    step_in (force b) s c u l k h =
        let t = forced_in u.ops b (top (fixed_t pairs true) u.stack) (top_in u.ops u.stack h.stack) in
        record { wf = h.wf; stack = (t, all_drop (BitsIn u.ops) 1 u.stack h.stack); arbitrations = (record { raw = t; kids = tt; cursor = constant_reads (opsAt + length u.ops) 0 }, h.arbitrations) }
    step_in (ordered m q n) s c u l k h =
        let f = cursor_f pairs opsAt cursorsAt leaves_at m c in
        let o = lower_in q f (take n u.stack) u.ops h.wf (cursor_in_lem u.ops m q n c k) (all_take (BitsIn u.ops) n u.stack h.stack) in
        let g = up_grows opsAt cursorsAt leaves_at (ordered m q n) s c u in
        record {
          wf = o.wf;
          stack = (o.status, all_map (bits_up g) (drop n u.stack) (all_drop (BitsIn u.ops) n u.stack h.stack));
          arbitrations = (record { raw = o.status; kids = o.kids; cursor = o.cursor }, all_map (info_up g) u.arbitrations h.arbitrations);
        }

    pub up_in : (s c : ℕ) (ns : List Flat) → slot_end s ns ≤ L → cell_end c ns ≤ C → UpIn (up pairs opsAt cursorsAt leaves_at s c ns)
    unfolding up slot_end cell_end
    up_in s c [] l k = record { wf = tt; stack = tt; arbitrations = tt }
    up_in s c (n ∷ ns) l k = step_in n s c (up pairs opsAt cursorsAt leaves_at (slot_after n s) (cell_after n c) ns) (omega (arith, slot_end_ge (slot_after n s) ns)) (omega (arith, cell_end_ge (cell_after n c) ns))
        (up_in (slot_after n s) (cell_after n c) ns l k)

  -- the top-down pass
  pub record EntryIn (os : List Op) (e : Entry) : Type 0 where
    pub reached : In opsAt os e.reached
    pub called : In opsAt os e.called

  pub record NodeReachIn (os : List Op) (o : NodeReach) : Type 0 where
    pub raw : BitsIn os o.raw
    pub reached : In opsAt os o.reached
    pub halted : In opsAt os o.halted
    pub was : In opsAt os o.was
    pub untouched : In opsAt os o.untouched

  entry_up : {a b : List Op} → Grows a b → (e : Entry) → EntryIn a e → EntryIn b e
  entry_up g e h = record { reached = in_up opsAt e.reached g h.reached; called = in_up opsAt e.called g h.called }

  nout_up : {a b : List Op} → Grows a b → (o : NodeReach) → NodeReachIn a o → NodeReachIn b o
  nout_up g o h = record {
    raw = bits_up g o.raw h.raw;
    reached = in_up opsAt o.reached g h.reached;
    halted = in_up opsAt o.halted g h.halted;
    was = in_up opsAt o.was g h.was;
    untouched = in_up opsAt o.untouched g h.untouched;
  }

  spread_in_lem : (cursorsAt : ℕ) (r h : Form) (xs : List ArbitratedChild) (os : List Op) → Wf opsAt os → In opsAt os r → In opsAt os h → All (ArbitratedChildIn os) xs → ManyIn EntryIn (spread pairs opsAt cursorsAt r h xs os)
  unfolding spread
  spread_in_lem cursorsAt r h [] os w p q ks = record { wf = w; items = tt }
  spread_in_lem cursorsAt r h (x ∷ xs) os w p q ks =
      let o₁ = and pairs opsAt r x.reach os in
      let o₂ = and pairs opsAt r x.after_stop o₁.ops in
      let o₃ = or pairs opsAt h o₂.form o₂.ops in
      let g₁ = and_grows opsAt r x.reach os in
      let g₂ = and_grows opsAt r x.after_stop o₁.ops in
      let g₃ = or_grows opsAt h o₂.form o₂.ops in
      let g₄ = spread_grows opsAt cursorsAt r h xs o₃.ops in
      let m₁ : Made opsAt o₁ = and_made opsAt r x.reach os w p ks.0.reach in
      let m₂ : Made opsAt o₂ = and_made opsAt r x.after_stop o₁.ops m₁.wf (in_up opsAt r g₁ p) (in_up opsAt x.after_stop g₁ ks.0.after_stop) in
      let m₃ : Made opsAt o₃ = or_made opsAt h o₂.form o₂.ops m₂.wf (in_up opsAt h (after g₁ g₂) q) m₂.reads in
      let g = after (after g₁ g₂) g₃ in
      let m₄ = spread_in_lem cursorsAt r h xs o₃.ops m₃.wf (in_up opsAt r g p) (in_up opsAt h g q) (all_map (kid3_up g) xs ks.1) in
      record { wf = m₄.wf; items = (record { reached = in_up opsAt o₁.form (after (after g₂ g₃) g₄) m₁.reads; called = in_up opsAt o₃.form g₄ m₃.reads }, m₄.items) }

  children_in : (cursorsAt : ℕ) (n : Flat) (r h : Form) (xs : List ArbitratedChild) (os : List Op) → Wf opsAt os → In opsAt os r → In opsAt os h → All (ArbitratedChildIn os) xs → ManyIn EntryIn (children pairs opsAt cursorsAt n r h xs os)
  unfolding children
  children_in cursorsAt leaf r h xs os w p q ks = record { wf = w; items = tt }
  children_in cursorsAt (fixed b) r h xs os w p q ks = record { wf = w; items = tt }
  children_in cursorsAt invert r h xs os w p q ks = record { wf = w; items = (record { reached = p; called = q }, tt) }
  children_in cursorsAt (force b) r h xs os w p q ks = record { wf = w; items = (record { reached = p; called = q }, tt) }
  children_in cursorsAt (ordered m q' n) r h xs os w p q ks = spread_in_lem cursorsAt r h xs os w p q ks

  next_cur_in : (cursorsAt : ℕ) (n : Flat) (c : ℕ) (r u x : Form) (os : List Op) → cursorsAt + cell_after n c ≤ opsAt → Wf opsAt os → In opsAt os r → In opsAt os u → In opsAt os x → ManyIn (In opsAt) (next_cur pairs opsAt cursorsAt n c r u x os)
  unfolding next_cur
  next_cur_in cursorsAt leaf c r u x os l w p q v = record { wf = w; items = tt }
  next_cur_in cursorsAt (fixed b) c r u x os l w p q v = record { wf = w; items = tt }
  next_cur_in cursorsAt invert c r u x os l w p q v = record { wf = w; items = tt }
  next_cur_in cursorsAt (force b) c r u x os l w p q v = record { wf = w; items = tt }
  next_cur_in cursorsAt (ordered true q' n) c r u x os l w p q v =
      let o₁ = push pairs opsAt x r os in
      let o₂ = push pairs opsAt (wire' (cursorsAt + c)) u o₁.ops in
      let g₁ = push_grows opsAt x r os in
      let g₂ = push_grows opsAt (wire' (cursorsAt + c)) u o₁.ops in
      let m₁ : Made opsAt o₁ = push_made opsAt x r os w v p in
      let m₂ : Made opsAt o₂ = push_made opsAt (wire' (cursorsAt + c)) u o₁.ops m₁.wf (wire_reads (opsAt + length o₁.ops) (cursorsAt + c) (omega arith)) (in_up opsAt u g₁ q) in
      record { wf = m₂.wf; items = (plus_reads (opsAt + length o₂.ops) o₁.form o₂.form (in_up opsAt o₁.form g₂ m₁.reads) m₂.reads, tt) }
  next_cur_in cursorsAt (ordered false q' n) c r u x os l w p q v = record { wf = w; items = tt }

  top_entry_in : (cursorsAt : ℕ) (os : List Op) (st : List Entry) → All (EntryIn os) st → EntryIn os (top (lost pairs opsAt cursorsAt) st)
  top_entry_in cursorsAt os [] h = record { reached = constant_reads (opsAt + length os) 0; called = constant_reads (opsAt + length os) 0 }
  top_entry_in cursorsAt os (e ∷ st) h = h.0

  pub record DownIn (d : Down) : Type 0 where
    pub wf : Wf opsAt d.ops
    pub outs : All (NodeReachIn d.ops) d.outs
    pub cursors : All (In opsAt d.ops) d.cursors

  unfoldable pub info_end : ℕ → List Arbitration → ℕ
  info_end c [] = c
  info_end c (x ∷ xs) = info_end (cell_after x.node c) xs

  pub info_end_ge : (c : ℕ) (xs : List Arbitration) → c ≤ info_end c xs
  unfolding info_end
  info_end_ge c [] = omega arith
  info_end_ge c (x ∷ xs) = omega (arith, cells_ge x.node c, info_end_ge (cell_after x.node c) xs)

  pub down_in : (cursorsAt i c : ℕ) (xs : List Arbitration) (st : List Entry) (os : List Op) → i + length xs ≤ opsAt → cursorsAt + info_end c xs ≤ opsAt → Wf opsAt os → All (ArbitrationIn os) xs → All (EntryIn os) st
      → DownIn (down pairs opsAt cursorsAt i c xs st os)
  unfolding down info_end
  down_in cursorsAt i c [] st os l k w hs es = record { wf = w; outs = tt; cursors = tt }
  down_in cursorsAt i c (x ∷ xs) st os l k w hs es =
      let n = x.node in
      let e = top (lost pairs opsAt cursorsAt) st in
      let r = e.reached in
      let ha = and pairs opsAt e.called (wire' i) os in
      let un = and pairs opsAt (not' pairs r) (not' pairs ha.form) ha.ops in
      let nc = next_cur pairs opsAt cursorsAt n c r un.form x.cursor un.ops in
      let ch = children pairs opsAt cursorsAt n r ha.form x.kids nc.ops in
      let st' = ch.items ++ drop 1 st in
      let g₁ = and_grows opsAt e.called (wire' i) os in
      let g₂ = and_grows opsAt (not' pairs r) (not' pairs ha.form) ha.ops in
      let g₃ = next_cur_grows opsAt cursorsAt n c r un.form x.cursor un.ops in
      let g₄ = children_grows opsAt cursorsAt n r ha.form x.kids nc.ops in
      let g₅ = down_grows opsAt cursorsAt (suc i) (cell_after n c) xs st' ch.ops in
      let te : EntryIn os e = top_entry_in cursorsAt os st es in
      let wi : In opsAt os (wire' i) = wire_reads (opsAt + length os) i (omega arith) in
      let m₁ : Made opsAt ha = and_made opsAt e.called (wire' i) os w te.called wi in
      let m₂ : Made opsAt un = and_made opsAt (not' pairs r) (not' pairs ha.form) ha.ops m₁.wf (in_up opsAt (not' pairs r) g₁ (not_reads (opsAt + length os) r te.reached)) (not_reads (opsAt + length ha.ops) ha.form m₁.reads) in
      let g₁₂ = after g₁ g₂ in
      let m₃ : ManyIn (In opsAt) nc = next_cur_in cursorsAt n c r un.form x.cursor un.ops (omega (arith, info_end_ge (cell_after n c) xs)) m₂.wf (in_up opsAt r g₁₂ te.reached) m₂.reads (in_up opsAt x.cursor g₁₂ hs.0.cursor) in
      let g₁₃ = after g₁₂ g₃ in
      let m₄ : ManyIn EntryIn ch = children_in cursorsAt n r ha.form x.kids nc.ops m₃.wf (in_up opsAt r g₁₃ te.reached) (in_up opsAt ha.form (after g₂ g₃) m₁.reads) (all_map (kid3_up g₁₃) x.kids hs.0.kids) in
      let g₁₄ = after g₁₃ g₄ in
      let rest = down pairs opsAt cursorsAt (suc i) (cell_after n c) xs st' ch.ops in
      let m₅ : DownIn rest =
      down_in cursorsAt (suc i) (cell_after n c) xs st' ch.ops (omega arith) k m₄.wf (all_map (info_up g₁₄) xs hs.1)
      (all_append (EntryIn ch.ops) ch.items (drop 1 st) m₄.items (all_map (entry_up g₁₄) (drop 1 st) (all_drop (EntryIn os) 1 st es))) in
      let g = after g₁₄ g₅ in
      record {
        wf = m₅.wf;
        outs = (
          record {
            raw = bits_up g x.raw hs.0.raw;
            reached = in_up opsAt r g te.reached;
            halted = in_up opsAt ha.form (after (after (after g₂ g₃) g₄) g₅) m₁.reads;
            was = in_up opsAt (wire' i) g wi;
            untouched = in_up opsAt un.form (after (after g₃ g₄) g₅) m₂.reads;
          },
          m₅.outs,
        );
        cursors = all_append (In opsAt rest.ops) nc.items rest.cursors (all_map (λ f. in_up opsAt f (after g₄ g₅)) nc.items m₃.items) m₅.cursors;
      }

  pub flags_in_lem : (cursorsAt : ℕ) (xs : List NodeReach) (os : List Op) → Wf opsAt os → All (NodeReachIn os) xs → ManyIn (In opsAt) (flags pairs opsAt cursorsAt xs os)
  unfolding flags
  flags_in_lem cursorsAt [] os w hs = record { wf = w; items = tt }
  flags_in_lem cursorsAt (x ∷ xs) os w hs =
      let o₁ = and pairs opsAt x.reached x.raw.running os in
      let o₂ = and pairs opsAt x.untouched x.was o₁.ops in
      let g₁ = and_grows opsAt x.reached x.raw.running os in
      let g₂ = and_grows opsAt x.untouched x.was o₁.ops in
      let g₃ = flags_grows opsAt cursorsAt xs o₂.ops in
      let h = hs.0 in
      let m₁ : Made opsAt o₁ = and_made opsAt x.reached x.raw.running os w h.reached h.raw.running in
      let m₂ : Made opsAt o₂ = and_made opsAt x.untouched x.was o₁.ops m₁.wf (in_up opsAt x.untouched g₁ h.untouched) (in_up opsAt x.was g₁ h.was) in
      let m₃ = flags_in_lem cursorsAt xs o₂.ops m₂.wf (all_map (nout_up (after g₁ g₂)) xs hs.1) in
      let f = plus o₁.form o₂.form in
      record { wf = m₃.wf; items = (in_up opsAt f g₃ (plus_reads (opsAt + length o₂.ops) o₁.form o₂.form (in_up opsAt o₁.form g₂ m₁.reads) m₂.reads), m₃.items) }

-- the two passes keep one entry a node
module _ (opsAt cursorsAt leaves_at : ℕ) where
  one_info : (n : Flat) (s c k : ℕ) (u : Up) → (length (up_step pairs opsAt cursorsAt leaves_at n s c u).arbitrations ≡ suc (length u.arbitrations)) × (info_end opsAt k (up_step pairs opsAt cursorsAt leaves_at n s c u).arbitrations ≡ info_end opsAt (cell_after n k) u.arbitrations)
  unfolding up_step info_end
  one_info leaf s c k u = (refl, refl)
  one_info (fixed b) s c k u = (refl, refl)
  one_info invert s c k u = (refl, refl)
  one_info (force b) s c k u = (refl, refl)
  one_info (ordered m q n) s c k u = (refl, refl)

  up_nodes : (s c k : ℕ) (ns : List Flat) → (length (up pairs opsAt cursorsAt leaves_at s c ns).arbitrations ≡ length ns) × (info_end opsAt k (up pairs opsAt cursorsAt leaves_at s c ns).arbitrations ≡ cell_end k ns)
  unfolding up info_end cell_end
  up_nodes s c k [] = (refl, refl)
  up_nodes s c k (n ∷ ns) =
      let u = up pairs opsAt cursorsAt leaves_at (slot_after n s) (cell_after n c) ns in
      let o = one_info n s c k u in
      let r = up_nodes (slot_after n s) (cell_after n c) (cell_after n k) ns in
      (o.0 ∙ ap suc r.0, o.1 ∙ r.1)

-- the whole circuit: every op reads values before its own, every output values of the table
module _ (ns : List Flat) where
  abbrev ops : List Op
  ops = (build pairs ns).running.ops

  pub record AllIn : Type 0 where
    pub wf : Wf (inputs ns) ops
    pub outs : All (NodeReachIn (inputs ns) ops) (build pairs ns).pass.outs
    pub running : All (In (inputs ns) ops) (build pairs ns).running.items
    pub cursors : All (In (inputs ns) ops) (build pairs ns).pass.cursors

  pub circuit_made : AllIn
  unfolding build
  circuit_made =
      let opsAt = inputs ns in
      let u = up pairs opsAt (cells_n ns) (cells_nc ns) 0 0 ns in
      let d = down pairs opsAt (cells_n ns) 0 0 u.arbitrations (root pairs ∷ []) u.ops in
      let hu : UpIn opsAt u = up_in opsAt (cells_n ns) (cells_nc ns) (cell_end 0 ns) (slot_end 0 ns) (omega arith) (omega arith) 0 0 ns (omega arith) (omega arith) in
      let k = up_nodes opsAt (cells_n ns) (cells_nc ns) 0 0 0 ns in
      let hd : DownIn opsAt d = down_in opsAt (cells_n ns) 0 0 u.arbitrations (root pairs ∷ []) u.ops (omega (arith, k.0)) (omega (arith, k.1)) hu.wf hu.arbitrations
      (record { reached = constant_reads (opsAt + length u.ops) 1; called = constant_reads (opsAt + length u.ops) 0 }, tt) in
      let hf = flags_in_lem opsAt (cells_n ns) d.outs d.ops hd.wf hd.outs in
      let g = flags_grows opsAt (cells_n ns) d.outs d.ops in
      record {
        wf = hf.wf;
        outs = all_map (nout_up opsAt g) d.outs hd.outs;
        running = hf.items;
        cursors = all_map (λ f. in_up opsAt f g) d.cursors hd.cursors;
      }
