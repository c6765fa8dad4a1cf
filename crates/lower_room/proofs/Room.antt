-- Building takes at most 15 N² + 34 N terms of room.
use Prim.Native.Nat.{◌*◌, ◌+◌, ◌≤◌, suc, ℕ}
use native.Mathlib.Omega.{arith}
use mathlib.Core.Bool.{Bool, false, true}
use mathlib.Core.List.{List, [], ◌++◌, ◌∷◌}
use mathlib.Core.Path.{◌≡◌, refl}
use lib.ListN.{drop, length, take}
use Rattle.construct.specs.Builder.{and, and_at, at_least, not', or, push}
use Rattle.construct.specs.Forms.{Known, No, Open, Yes}
use Rattle.construct.specs.Circuit.{cell_end, cells_n, cells_nc, inputs, root, slot_end}
use Rattle.construct.specs.Lower.{Flat, cell_after, children, clears, cursor_f, down, fixed, fixed_t, force, forced, gates, invert, inverted, leaf, lost, lower, next_cur, ordered, slot_after, stops, top, total, up, up_step}
use Rattle.construct.specs.Pairs.{Entry, Form, Arbitration, GatedChild, ClearedChild, ArbitratedChild, NodeReach, Op, StatusBits, Up, constant, known, len, pairs, plus, scaled, wire'}
use Rattle.lower_room.proofs.Joint.{no_terms_lem, yes_open}
use Rattle.lower_room.proofs.Sets.{not_len, plus_len, scaled_len}
use Rattle.lower_room.proofs.Ops.{one_cell, parts}
use Rattle.lower_room.proofs.Sized.{SeqFit, ThinKids, UpFit, cursor_len, inverteds_fit, long_law, lower_fit, one_sq, sizes_of, sq_law, sq_parts, taken, top_fit, up_fit}
use Rattle.lower_room.proofs.Terms.{K1, K2, K3, NotYes, BitsFit, afters, and_len, and_run, at_least_cost, clears_cost, crossed, gates_cost, not_yes, or_cost, sq_l, stops_cost, sum_l}
use Rattle.lower_room.proofs.Total.{Light, ThinOut, down_cost, halt_len, light_append, light_drop, rest_cost, root_light, sum_sq, top_light}
use Rattle.lower_room.proofs.Uses.{arena_use, children_use, clears_use, down_use, flags_use, gates_use, lower_use, picks_use, seq_use, spread_use, step_use, stops_use, up_use}
use Rattle.lists.proofs.Every.{all2_take}
use Rattle.lists.specs.Every.{All, All2, both, none}

-- the terms of the stops
unfoldable stop_terms : List ArbitratedChild → ℕ
stop_terms [] = 0
stop_terms (x ∷ xs) = len x.stop + stop_terms xs

module _ (opsAt : ℕ) where
  gates_use_lem : (c : Form) (k : ℕ) {ts : List StatusBits} {ms : List ℕ} (os : List Op) → len c ≤ 1 → All2 BitsFit ts ms → gates_use pairs opsAt c k ts os ≤ 12 * sum_l ms + 6 * length ms
  unfolding gates_use at_least sum_l
  gates_use_lem c k os l none = omega arith
  gates_use_lem c k os l (both {a = t} {b = m} {xs = ts} {ys = ms} h hs) =
      let o₁ = at_least pairs opsAt c (suc k) os in
      let o₂ = or pairs opsAt o₁.form t.success o₁.ops in
      let a = at_least_cost opsAt (known c) c (suc k) os l in
      let b = or_cost opsAt o₁.form t.success o₁.ops in
      omega (arith, a.1, b.1, gates_use_lem c (suc k) o₂.ops l hs, h.len_s)

  clears_use_lem : (p : Form) (a : ℕ) {xs : List GatedChild} {ms : List ℕ} → len p ≤ 4 * a → All2 K1 xs ms → clears_use pairs opsAt p xs ≤ 8 * crossed a ms + 4 * sum_l ms + length ms
  unfolding clears_use sum_l crossed
  clears_use_lem p a l none = omega arith
  clears_use_lem p a l (both {a = x} {b = m} {xs = xs} {ys = ms} h hs) =
      let e = plus_len p x.blocked in
      let b = h.blocked in
      omega (arith, clears_use_lem (plus p x.blocked) (a + m) (omega arith) hs)

  stops_use_lem : (p : Form) (a : ℕ) {xs : List ClearedChild} {ms : List ℕ} (os : List Op) → len p ≤ 4 * a → All2 K2 xs ms
      → stops_use pairs opsAt p xs os ≤ 4 * crossed a ms + 4 * length ms + stop_terms (stops pairs opsAt p xs os).items
  unfolding stops_use stops stop_terms crossed
  stops_use_lem p a os l none = omega arith
  stops_use_lem p a os l (both {a = x} {b = m} {xs = xs} {ys = ms} h hs) =
      let r = and pairs opsAt x.clear (not' pairs x.child.before) os in
      let s = and pairs opsAt x.clear x.child.blocked r.ops in
      let b₁ = h.child.before in
      let b₂ = h.child.blocked in
      let c = h.clear in
      let q = h.child.status.pos in
      let l₂ : len s.form + 1 ≤ 4 * m + 1 = and_len opsAt x.clear x.child.blocked r.ops (4 * m + 1) (omega arith) (omega arith) (omega arith) in
      let e = plus_len p s.form in
      omega (arith, stops_use_lem (plus p s.form) (a + m) s.ops (omega arith) hs)

  -- a stop that is no constant leaves one term of the running bit
  run_at : (t u : Known) (f g : Form) (os : List Op) (m : ℕ) → known f ≡ t → NotYes u → len f ≤ 4 * m → len g ≤ m → len f + 3 * len (and_at pairs opsAt t u f g os).form ≤ 4 * m + 3
  unfolding and_at push wire' constant
  run_at Yes u f g os m e y l k = omega (arith, no_terms_lem Yes f e yes_open)
  run_at No Yes f g os m e y l k = absurd y
  run_at No No f g os m e y l k = omega arith
  run_at No Open f g os m e y l k = omega arith
  run_at Open Yes f g os m e y l k = absurd y
  run_at Open No f g os m e y l k = omega arith
  run_at Open Open f g os m e y l k = omega arith

  run_cost : (f g : Form) (os : List Op) (m : ℕ) → g.bp ≡ g.bn → len f ≤ 4 * m → len g ≤ m → len f + 3 * len (and pairs opsAt f g os).form ≤ 4 * m + 3
  unfolding and
  run_cost f g os m z l k = run_at (known f) (known g) f g os m refl (not_yes g z) l k

  picks_use_lem : (k : ℕ) (o r c : Form) (a : ℕ) {xs : List ArbitratedChild} {ms : List ℕ} (os : List Op) → len o ≤ 4 * a → len r ≤ a → len c ≤ a → All2 K3 xs ms
      → picks_use pairs opsAt k o r c xs os + stop_terms xs ≤ 6 * crossed a ms + 8 * sum_l ms + 5 * length ms
  unfolding picks_use stop_terms sum_l crossed
  picks_use_lem k o r c a os lo lr lc none = omega arith
  picks_use_lem k o r c a os lo lr lc (both {a = x} {b = m} {xs = xs} {ys = ms} h hs) =
      let o₁ = and pairs opsAt x.stop x.status.failure os in
      let o₂ = and pairs opsAt x.stop x.status.running o₁.ops in
      let t = h.status in
      let s = h.stop in
      let tf = t.len_f in
      let tp = t.pos in
      let lf : len o₁.form + 1 ≤ 4 * m + 1 = and_len opsAt x.stop x.status.failure os (4 * m + 1) (omega arith) (omega arith) (omega arith) in
      let g = (and_run opsAt x.stop x.status.running o₁.ops m t.pos t.len_r t.zero_r).0 in
      let p₁ = plus_len o o₁.form in
      let p₂ = plus_len r o₂.form in
      let p₃ = scaled_len k o₂.form in
      let p₄ = plus_len c (scaled k o₂.form) in
      omega (
        arith,
        run_cost x.stop x.status.running o₁.ops m t.zero_r s t.len_r,
        picks_use_lem (suc k) (plus o o₁.form) (plus r o₂.form) (plus c (scaled k o₂.form)) (a + m) o₂.ops (omega arith) (omega arith) (omega arith) hs,
      )

  total_len : (p : Form) (a : ℕ) {xs : List ArbitratedChild} {ms : List ℕ} → len p ≤ 4 * a → All2 K3 xs ms → len (total pairs p xs) ≤ 4 * (a + sum_l ms)
  unfolding total sum_l
  total_len p a l none = omega arith
  total_len p a l (both {a = x} {b = m} {xs = xs} {ys = ms} h hs) =
      let s = h.stop in
      let e = plus_len p x.stop in
      omega (arith, total_len (plus p x.stop) (a + m) (omega arith) hs)

  none_long : len (constant 0) ≡ 0
  unfolding constant
  none_long = refl

  seq_use_lem : (c : Form) {ts : List StatusBits} {ms : List ℕ} (os : List Op) → len c ≤ 1 → All2 BitsFit ts ms → seq_use pairs opsAt c ts os ≤ 28 * sum_l ms + 16 * length ms + 18 * crossed 0 ms
  unfolding seq_use
  seq_use_lem c {ts} {ms} os l h =
      let z = constant 0 in
      let a = gates pairs opsAt c 0 ts os in
      let b = clears pairs opsAt z a.items a.ops in
      let d = stops pairs opsAt z b.items b.ops in
      let zl = none_long in
      let ha = gates_cost opsAt c 0 os l h in
      let hb = clears_cost opsAt z 0 a.ops (omega arith) ha.1 in
      let hd = stops_cost opsAt z 0 b.ops (omega arith) hb.1 in
      omega (
        arith,
        gates_use_lem c 0 os l h,
        clears_use_lem z 0 (omega arith) ha.1,
        stops_use_lem z 0 b.ops (omega arith) hb.1,
        picks_use_lem 0 z z z 0 d.ops (omega arith) (omega arith) (omega arith) hd.1,
        total_len z 0 (omega arith) hd.1,
      )

  lower_use_lem : (q : Bool) (c : Form) {ts : List StatusBits} {ms : List ℕ} (os : List Op) → len c ≤ 1 → All2 BitsFit ts ms → lower_use pairs opsAt q c ts os ≤ 28 * sum_l ms + 16 * length ms + 18 * crossed 0 ms
  lower_use_lem true c os l h = seq_use_lem c os l h
  lower_use_lem false c os l h = seq_use_lem c os l (inverteds_fit opsAt h)

-- reach's part of a node
unfoldable info_use : Arbitration → ℕ
info_use x = len x.raw.running + 18 + afters x.kids

unfoldable info_uses : List Arbitration → ℕ
info_uses [] = 0
info_uses (x ∷ xs) = info_use x + info_uses xs

unfoldable flag_part : List NodeReach → ℕ
flag_part [] = 0
flag_part (x ∷ xs) = len x.raw.running + 7 + flag_part xs

module _ (opsAt cursorsAt : ℕ) where
  spread_use_lem : (r h : Form) (xs : List ArbitratedChild) (os : List Op) → len r ≤ 2 → len h ≤ 1 → spread_use pairs opsAt r h xs os ≤ afters xs
  unfolding spread_use afters
  spread_use_lem r h [] os lr lh = omega arith
  spread_use_lem r h (x ∷ xs) os lr lh =
      let o₁ = and pairs opsAt r x.reach os in
      let o₂ = and pairs opsAt r x.after_stop o₁.ops in
      let o₃ = or pairs opsAt h o₂.form o₂.ops in
      let lb : len o₂.form + 1 ≤ len x.after_stop + 3 = and_len opsAt r x.after_stop o₁.ops (len x.after_stop + 3) (omega arith) (omega arith) (omega arith) in
      omega (arith, spread_use_lem r h xs o₃.ops lr lh)

  children_use_lem : (n : Flat) (r h : Form) (xs : List ArbitratedChild) (os : List Op) → len r ≤ 2 → len h ≤ 1 → children_use pairs opsAt n r h xs os ≤ afters xs
  unfolding children_use
  children_use_lem leaf r h xs os lr lh = omega arith
  children_use_lem (fixed b) r h xs os lr lh = omega arith
  children_use_lem invert r h xs os lr lh = omega arith
  children_use_lem (force b) r h xs os lr lh = omega arith
  children_use_lem (ordered m q n) r h xs os lr lh = spread_use_lem r h xs os lr lh

  down_use_lem : (i c : ℕ) (xs : List Arbitration) (st : List Entry) (os : List Op) → All ThinKids xs → All Light st
      → down_use pairs opsAt cursorsAt i c xs st os + flag_part (down pairs opsAt cursorsAt i c xs st os).outs ≤ info_uses xs
  unfolding down down_use flag_part info_uses info_use
  down_use_lem i c [] st os t l = omega arith
  down_use_lem i c (x ∷ xs) st os t l =
      let e = top (lost pairs opsAt cursorsAt) st in
      let h = and pairs opsAt e.called (wire' i) os in
      let u = and pairs opsAt (not' pairs e.reached) (not' pairs h.form) h.ops in
      let k = next_cur pairs opsAt cursorsAt x.node c e.reached u.form x.cursor u.ops in
      let s = children pairs opsAt cursorsAt x.node e.reached h.form x.kids k.ops in
      let el : len e.reached ≤ 2 = (top_light opsAt cursorsAt st l).0 in
      let hl : len h.form ≤ 1 = halt_len opsAt cursorsAt e.called i os in
      let nr = not_len e.reached in
      let nh = not_len h.form in
      let ul : len u.form + 1 ≤ 3 = and_len opsAt (not' pairs e.reached) (not' pairs h.form) h.ops 3 (omega arith) (omega arith) (omega arith) in
      let ul' : len u.form ≤ 2 = omega arith in
      let r = rest_cost opsAt cursorsAt x.node c e.reached h.form u.form x.cursor x.kids u.ops el hl ul' t.0 in
      let q = down_use_lem (suc i) (cell_after x.node c) xs (s.items ++ drop 1 st) s.ops t.1 (light_append s.items (drop 1 st) r.1 (light_drop st l)) in
      omega (
        arith,
        q,
        one_cell x.node,
        children_use_lem x.node e.reached h.form x.kids k.ops el hl,
      )

  flags_use_lem : (xs : List NodeReach) (os : List Op) → All ThinOut xs → flags_use pairs opsAt xs os ≤ flag_part xs
  unfolding flags_use flag_part
  flags_use_lem [] os t = omega arith
  flags_use_lem (x ∷ xs) os t =
      let a = and pairs opsAt x.reached x.raw.running os in
      let b = and pairs opsAt x.untouched x.was a.ops in
      let h = t.0 in
      let r₁ : len x.reached ≤ 2 = h.reached in
      let r₂ : len x.untouched ≤ 2 = h.untouched in
      let r₃ : len x.was ≤ 1 = h.was in
      let l₁ : len a.form + 1 ≤ len x.raw.running + 3 = and_len opsAt x.reached x.raw.running os (len x.raw.running + 3) (omega arith) (omega arith) (omega arith) in
      let l₂ : len b.form + 1 ≤ 3 = and_len opsAt x.untouched x.was a.ops 3 (omega arith) (omega arith) (omega arith) in
      omega (arith, flags_use_lem xs b.ops t.1, plus_len a.form b.form)

wire_one : (w : ℕ) → len (wire' w) ≡ 1
unfolding wire'
wire_one w = refl

fixed_run : (b : Bool) → len (fixed_t pairs b).running ≡ 0
unfolding fixed_t constant
fixed_run b = refl

forced_run : (b : Bool) (t : StatusBits) → len (forced pairs b t).running ≡ len t.running
unfolding forced
forced_run true t = refl
forced_run false t = refl

module _ (opsAt cursorsAt leaves_at : ℕ) where
  step_use_lem : (n : Flat) (ms : List ℕ) (s c l : ℕ) (u : Up) → UpFit opsAt cursorsAt leaves_at ms l u
      → step_use pairs opsAt cursorsAt leaves_at n s c u + info_uses (up_step pairs opsAt cursorsAt leaves_at n s c u).arbitrations + 27 * suc (length (drop (taken n) ms)) + 15 * sq_l ms
      ≤ info_uses u.arbitrations + 27 * length ms + 15 * sq_l (suc (sum_l (take (taken n) ms)) ∷ drop (taken n) ms) + 34
  unfolding step_use up_step info_uses info_use sum_l sq_l afters inverted
  step_use_lem leaf ms s c l u h = omega (arith, wire_one (leaves_at + 3 * s + 2))
  step_use_lem (fixed b) ms s c l u h = omega (arith, fixed_run b)
  step_use_lem invert ms s c l u h =
      let t = top_fit opsAt h.stack in
      omega (arith, t.len_r, sq_parts 1 ms, one_sq opsAt cursorsAt leaves_at ms, parts 1 ms)
  step_use_lem (force b) ms s c l u h =
      let t = top_fit opsAt h.stack in
      let x = top (fixed_t pairs true) u.stack in
      omega (arith, t.len_r, t.len_s, t.len_f, plus_len x.success x.failure, forced_run b x, sq_parts 1 ms, one_sq opsAt cursorsAt leaves_at ms, parts 1 ms)
  step_use_lem (ordered m q n) ms s c l u h =
      let ts = take n u.stack in
      let ks = take n ms in
      let f = cursor_f pairs opsAt cursorsAt leaves_at m c in
      let o = lower pairs opsAt q f ts u.ops in
      let a : All2 BitsFit ts ks = all2_take n h.stack in
      let cl = cursor_len opsAt cursorsAt leaves_at m c in
      let g : SeqFit opsAt ks u.ops o = lower_fit opsAt q f u.ops cl a in
      omega (arith, lower_use_lem opsAt q f u.ops cl a, g.run, g.later, sq_law 0 a, long_law a, sq_parts n ms, parts n ms, cl)

  module _ (C L : ℕ) (fitC : cursorsAt + C ≤ leaves_at) (fitL : leaves_at + 3 * L ≤ opsAt) where
    up_use_lem : (s c : ℕ) (ns : List Flat) → slot_end s ns ≤ L → cell_end c ns ≤ C → up_use pairs opsAt cursorsAt leaves_at s c ns + info_uses (up pairs opsAt cursorsAt leaves_at s c ns).arbitrations + 27 * length (sizes_of ns) ≤ 15 * sq_l (sizes_of ns) + 34 * length ns
    unfolding up up_use slot_end cell_end info_uses sq_l sizes_of
    up_use_lem s c [] l k = omega arith
    up_use_lem s c (n ∷ ns) l k =
        let u = up pairs opsAt cursorsAt leaves_at (slot_after n s) (cell_after n c) ns in
        let i : up_use pairs opsAt cursorsAt leaves_at (slot_after n s) (cell_after n c) ns + info_uses u.arbitrations + 27 * length (sizes_of ns) ≤ 15 * sq_l (sizes_of ns) + 34 * length ns = up_use_lem (slot_after n s) (cell_after n c) ns l k in
        omega (arith, step_use_lem n (sizes_of ns) s c (length ns) u (up_fit opsAt cursorsAt leaves_at C L fitC fitL (slot_after n s) (cell_after n c) ns l k))

-- the arena bound
pub arena_bound : (ns : List Flat) → arena_use pairs ns ≤ 15 * (length ns * length ns) + 34 * length ns
unfolding arena_use
arena_bound ns =
    let opsAt = inputs ns in
    let u = up pairs opsAt (cells_n ns) (cells_nc ns) 0 0 ns in
    let d = down pairs opsAt (cells_n ns) 0 0 u.arbitrations (root pairs ∷ []) u.ops in
    let f : UpFit opsAt (cells_n ns) (cells_nc ns) (sizes_of ns) (length ns) u = up_fit opsAt (cells_n ns) (cells_nc ns) (cell_end 0 ns) (slot_end 0 ns) (omega arith) (omega arith) 0 0 ns (omega arith) (omega arith) in
    let v = up_use_lem opsAt (cells_n ns) (cells_nc ns) (cell_end 0 ns) (slot_end 0 ns) (omega arith) (omega arith) 0 0 ns (omega arith) (omega arith) in
    let e = down_cost opsAt (cells_n ns) 0 0 u.arbitrations (root pairs ∷ []) u.ops f.reach (root_light, tt) in
    let w = down_use_lem opsAt (cells_n ns) 0 0 u.arbitrations (root pairs ∷ []) u.ops f.reach (root_light, tt) in
    let g = flags_use_lem opsAt (cells_n ns) d.outs d.ops e.1 in
    let s : sum_l (sizes_of ns) * sum_l (sizes_of ns) ≡ length ns * length ns = rw f.whole refl in
    omega (arith, v, w, g, sum_sq (sizes_of ns), s)
