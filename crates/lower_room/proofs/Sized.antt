-- The bottom-up pass: the terms of its ops, and how long a subtree's status forms are.
use Prim.Native.Nat.{◌*◌, ◌+◌, ◌≤◌, suc, zero, ℕ}
use native.Mathlib.Nat.{mul-le-mul_left}
use native.Mathlib.Omega.{arith}
use mathlib.Core.Bool.{Bool, false, not, true}
use mathlib.Core.List.{List, [], ◌∷◌}
use mathlib.Core.Path.{◌≡◌, refl}
use lib.ListN.{drop, length, take}
use Rattle.construct.proofs.Scoped.{BitsIn, UpIn, up_in}
use Rattle.construct.specs.Circuit.{cell_end, slot_end}
use Rattle.construct.specs.Lower.{Flat, cell_after, clears, cursor_f, fixed, fixed_t, force, forced, gates, invert, inverted, inverteds, leaf, leaf_t, lower, lower_seq, ordered, picks, slot_after, stops, top, total, up, up_step}
use Rattle.construct.specs.Pairs.{Form, Arbitration, ArbitratedChild, Op, Ordered, StatusBits, Up, constant, len, pairs, plus, wire'}
use Rattle.construct.specs.Scope.{Reads}
use Rattle.lower_room.proofs.Sets.{◌∪◌, card, in_left, in_right, not_in, nothing, nothing_card, own, own_card, own_in, plus_in_lem, set_len, union_card}
use Rattle.lower_room.proofs.Rises.{constant_rises, wire_rises}
use Rattle.lower_room.proofs.Joint.{Shared, clears_traced, shared, stops_traced}
use Rattle.lower_room.proofs.Terms.{K3, BitsFit, afters, clears_cost, crossed, gates_cost, op_terms, picks_cost, sq_l, stops_cost, sum_l}
use Rattle.lists.proofs.Every.{all2_drop, all2_take}
use Rattle.lists.specs.Every.{All, All2, both, none}
use Rattle.walk.specs.Kind.{bit}
use Rattle.walk.specs.Walk.{status}

-- lists of sizes
pub sum_parts : (n : ℕ) (ms : List ℕ) → sum_l (take n ms) + sum_l (drop n ms) ≡ sum_l ms
unfolding sum_l
sum_parts zero ms = omega arith
sum_parts (suc n) [] = refl
sum_parts (suc n) (m ∷ ms) = omega (arith, sum_parts n ms)

pub sq_parts : (n : ℕ) (ms : List ℕ) → sq_l (take n ms) + sq_l (drop n ms) ≡ sq_l ms
unfolding sq_l
sq_parts zero ms = omega arith
sq_parts (suc n) [] = refl
sq_parts (suc n) (m ∷ ms) = omega (arith, sq_parts n ms)

pub sq_law : (a : ℕ) {ts : List StatusBits} {ms : List ℕ} → All2 BitsFit ts ms → a * a + sq_l ms + 2 * crossed a ms ≤ (a + sum_l ms) * (a + sum_l ms)
unfolding sum_l sq_l crossed
sq_law a none = omega arith
sq_law a (both {b = m} {ys = ms} h hs) = omega (arith, sq_law (a + m) hs, mul-le-mul_left a h.pos)

pub long_law : {ts : List StatusBits} {ms : List ℕ} → All2 BitsFit ts ms → length ms ≤ sum_l ms
unfolding sum_l
long_law none = omega arith
long_law (both h hs) = omega (arith, long_law hs, h.pos)

abbrev pub Thin : ArbitratedChild → Type 0
Thin x = len x.reach ≤ 2

thin : {xs : List ArbitratedChild} {ms : List ℕ} → All2 K3 xs ms → All Thin xs
thin none = tt
thin (both h hs) = (h.reach, thin hs)

module _ (opsAt : ℕ) where
  pub record SeqFit (ms : List ℕ) (os : List Op) (o : Ordered) : Type 0 where
    pub cost : op_terms o.ops ≤ op_terms os + 31 * sum_l ms + 3 * length ms + 6 * crossed 0 ms
    pub later : afters o.kids ≤ 8 * crossed 0 ms + 11 * length ms
    pub reach : All Thin o.kids
    pub status : Shared opsAt (sum_l ms) o.status.success o.status.failure
    pub run : len o.status.running ≤ sum_l ms
    pub zero_run : o.status.running.bp ≡ o.status.running.bn
    pub cursor : len o.cursor ≤ sum_l ms

  none_long : len (constant 0) ≡ 0
  unfolding constant
  none_long = refl

  none_even : (constant 0).bp ≡ (constant 0).bn
  unfolding constant
  none_even = refl

  seq_fit : (c : Form) {ts : List StatusBits} {ms : List ℕ} (os : List Op) → len c ≤ 1 → All2 BitsFit ts ms → SeqFit ms os (lower_seq pairs opsAt c ts os)
  unfolding lower_seq
  seq_fit c {ts} {ms} os l h =
      let z = constant 0 in
      let a = gates pairs opsAt c 0 ts os in
      let b = clears pairs opsAt z a.items a.ops in
      let d = stops pairs opsAt z b.items b.ops in
      let e = picks pairs opsAt 0 z z z d.items d.ops in
      let zl = none_long in
      let ha = gates_cost opsAt c 0 os l h in
      let hb = clears_cost opsAt z 0 a.ops (omega arith) ha.1 in
      let hd = stops_cost opsAt z 0 b.ops (omega arith) hb.1 in
      let he = picks_cost opsAt 0 z z z 0 0 d.ops (omega arith) none_even (omega arith) hd.1 in
      let tr = clears_traced opsAt z a.ops (constant_rises 0) ha.1 in
      let s = shared opsAt d.ops hd.1 (stops_traced opsAt z b.ops (rw zl at tr)) in
      let c₁ : op_terms a.ops ≤ op_terms os + 6 * sum_l ms = ha.0 in
      let c₂ : op_terms b.ops ≤ op_terms a.ops + 4 * crossed 0 ms = hb.0 in
      let c₃ : op_terms d.ops ≤ op_terms b.ops + 6 * sum_l ms + 3 * length ms = hd.0 in
      let c₄ : op_terms e.ops ≤ op_terms d.ops + 19 * sum_l ms = he.cost in
      record {
        cost = omega arith;
        later = hd.2;
        reach = thin hd.1;
        status = record { set = s.set; small = s.small; in_f = not_in s.set (total pairs z d.items) s.in_f; in_g = s.in_g };
        run = omega (arith, he.run);
        zero_run = he.zero_run;
        cursor = omega (arith, he.cursor);
      }

  inverted_fit : (t : StatusBits) (m : ℕ) → BitsFit t m → BitsFit (inverted t) m
  unfolding inverted
  inverted_fit t m h = record { pos = h.pos; set = h.set; small = h.small; in_s = h.in_f; in_f = h.in_s; rise_s = h.rise_f; rise_f = h.rise_s; len_s = h.len_f; len_f = h.len_s; len_r = h.len_r; zero_r = h.zero_r }

  pub inverteds_fit : {ts : List StatusBits} {ms : List ℕ} → All2 BitsFit ts ms → All2 BitsFit (inverteds ts) ms
  unfolding inverteds
  inverteds_fit none = none
  inverteds_fit (both {a = t} {b = m} h hs) = both (inverted_fit t m h) (inverteds_fit hs)

  pub lower_fit : (q : Bool) (c : Form) {ts : List StatusBits} {ms : List ℕ} (os : List Op) → len c ≤ 1 → All2 BitsFit ts ms → SeqFit ms os (lower pairs opsAt q c ts os)
  unfolding lower inverted
  lower_fit true c os l h = seq_fit c os l h
  lower_fit false c {ts} {ms} os l h =
      let o = seq_fit c os l (inverteds_fit h) in
      record {
        cost = o.cost;
        later = o.later;
        reach = o.reach;
        status = record { set = o.status.set; small = o.status.small; in_f = o.status.in_g; in_g = o.status.in_f };
        run = o.run;
        zero_run = o.zero_run;
        cursor = o.cursor;
      }

  -- a composite's triple, once its forms are known to rise
  composite_fit : (ms : List ℕ) (os : List Op) (o : Ordered) → SeqFit ms os o → BitsIn opsAt o.ops o.status → BitsFit o.status (suc (sum_l ms))
  composite_fit ms os o h t =
      let s = h.status in
      let n = opsAt + length o.ops in
      record {
        pos = omega arith;
        set = s.set;
        small = λ k. omega (arith, s.small k);
        in_s = s.in_f;
        in_f = s.in_g;
        rise_s = (n, t.success);
        rise_f = (n, t.failure);
        len_s = omega (arith, s.small n, set_len s.set n o.status.success t.success s.in_f);
        len_f = omega (arith, s.small n, set_len s.set n o.status.failure t.failure s.in_g);
        len_r = omega (arith, h.run);
        zero_r = h.zero_run;
      }

  fit_up : (t : StatusBits) (a b : ℕ) → BitsFit t a → a ≤ b → BitsFit t b
  fit_up t a b h l = record {
    pos = omega (arith, h.pos);
    set = h.set;
    small = λ n. omega (arith, h.small n);
    in_s = h.in_s;
    in_f = h.in_f;
    rise_s = h.rise_s;
    rise_f = h.rise_f;
    len_s = omega (arith, h.len_s);
    len_f = omega (arith, h.len_f);
    len_r = omega (arith, h.len_r);
    zero_r = h.zero_r;
  }

  pub fixed_fit : (b : Bool) → BitsFit (fixed_t pairs b) 1
  unfolding fixed_t constant
  fixed_fit b = record { pos = omega arith; set = nothing; small = λ n. omega (arith, nothing_card n); in_s = tt; in_f = tt; rise_s = constant_rises (bit b); rise_f = constant_rises (bit (not b)); len_s = omega arith; len_f = omega arith; len_r = omega arith; zero_r = refl }

  pub top_fit : {st : List StatusBits} {ms : List ℕ} → All2 BitsFit st ms → BitsFit (top (fixed_t pairs true) st) (suc (sum_l (take 1 ms)))
  unfolding sum_l
  top_fit none = fixed_fit true
  top_fit (both {a = t} {b = m} h hs) = fit_up t m (suc (m + 0)) h (omega arith)

  -- a decorator's node pays for one wire more
  top_spare : {st : List StatusBits} {ms : List ℕ} (h : All2 BitsFit st ms) (n : ℕ) → card n (top_fit h).set + 3 ≤ 4 * suc (sum_l (take 1 ms))
  unfolding sum_l top_fit fit_up fixed_fit
  top_spare none n = omega (arith, nothing_card n)
  top_spare (both {a = t} {b = m} h hs) n = omega (arith, h.small n)

  forced_fit : (b : Bool) (t : StatusBits) (m n : ℕ) (h : BitsFit t m) → ((k : ℕ) → card k h.set + 3 ≤ 4 * m) → Reads n (plus t.success t.failure) → BitsFit (forced pairs b t) m
  unfolding forced constant
  forced_fit true t m n h spare r =
      let i = plus_in_lem h.set t.success t.failure h.in_s h.in_f in
      record {
        pos = h.pos;
        set = h.set;
        small = h.small;
        in_s = i;
        in_f = tt;
        rise_s = (n, r);
        rise_f = constant_rises 0;
        len_s = omega (arith, spare n, set_len h.set n (plus t.success t.failure) r i);
        len_f = omega (arith, h.pos);
        len_r = h.len_r;
        zero_r = h.zero_r;
      }
  forced_fit false t m n h spare r =
      let i = plus_in_lem h.set t.success t.failure h.in_s h.in_f in
      record {
        pos = h.pos;
        set = h.set;
        small = h.small;
        in_s = tt;
        in_f = i;
        rise_s = constant_rises 0;
        rise_f = (n, r);
        len_f = omega (arith, spare n, set_len h.set n (plus t.success t.failure) r i);
        len_s = omega (arith, h.pos);
        len_r = h.len_r;
        zero_r = h.zero_r;
      }

  module _ (cursorsAt leaves_at : ℕ) where
    leaf_fit : (s : ℕ) → BitsFit (leaf_t pairs opsAt cursorsAt leaves_at s) 1
    unfolding wire'
    leaf_fit s =
        let a = (wire' (leaves_at + 3 * s)).terms in
        let b = (wire' (leaves_at + 3 * s + 1)).terms in
        record {
          pos = omega arith;
          set = own a ∪ own b;
          small = λ n. omega (arith, union_card n (own a) (own b), own_card n a, own_card n b);
          in_s = in_left (own a) (own b) a (own_in a);
          in_f = in_right (own a) (own b) b (own_in b);
          rise_s = wire_rises (leaves_at + 3 * s);
          rise_f = wire_rises (leaves_at + 3 * s + 1);
          len_s = omega arith;
          len_f = omega arith;
          len_r = omega arith;
          zero_r = refl;
        }

    pub cursor_len : (m : Bool) (c : ℕ) → len (cursor_f pairs opsAt cursorsAt leaves_at m c) ≤ 1
    unfolding wire' constant
    cursor_len true c = omega arith
    cursor_len false c = omega arith

-- what a node will pay in reach and in the outputs, and its children's part
unfoldable pub info_cost : Arbitration → ℕ
info_cost x = len x.cursor + len x.raw.success + len x.raw.failure + 3 * len x.raw.running + 23 + afters x.kids

unfoldable pub info_costs : List Arbitration → ℕ
info_costs [] = 0
info_costs (x ∷ xs) = info_cost x + info_costs xs

abbrev pub ThinKids : Arbitration → Type 0
ThinKids x = All Thin x.kids

-- the entries that a node takes, and the sizes of the trees on the stack
abbrev pub taken : Flat → ℕ
taken leaf = 0
taken (fixed b) = 0
taken invert = 1
taken (force b) = 1
taken (ordered m q n) = n

unfoldable pub sizes_of : List Flat → List ℕ
sizes_of [] = []
sizes_of (n ∷ ns) = suc (sum_l (take (taken n) (sizes_of ns))) ∷ drop (taken n) (sizes_of ns)

module _ (opsAt cursorsAt leaves_at : ℕ) where
  pub record UpFit (ms : List ℕ) (n : ℕ) (u : Up) : Type 0 where
    pub stack : All2 BitsFit u.stack ms
    pub whole : sum_l ms ≡ n
    pub cost : op_terms u.ops + info_costs u.arbitrations ≤ 31 * sq_l ms
    pub reach : All ThinKids u.arbitrations

  -- a node without ops
  plain_cost : (t : StatusBits) (m : ℕ) (n : Flat) → BitsFit t m → info_cost (record { node = n; raw = t; kids = []; cursor = constant 0 }) ≤ 15 * m + 15
  unfolding info_cost afters constant
  plain_cost t m n h = omega (arith, h.len_s, h.len_f, h.len_r)

  plain_fit : (n : Flat) (t : StatusBits) (k : ℕ) (ms : List ℕ) (l : ℕ) (u : Up) → UpFit ms l u → BitsFit t (suc (sum_l (take k ms))) → sum_l (take k ms) * sum_l (take k ms) ≡ sq_l (take k ms)
      → UpFit (suc (sum_l (take k ms)) ∷ drop k ms) (suc l) (record { stack = t ∷ drop k u.stack; arbitrations = record { node = n; raw = t; kids = []; cursor = constant 0 } ∷ u.arbitrations; ops = u.ops })
  unfolding sum_l sq_l info_costs
  plain_fit n t k ms l u h f e =
      let m = sum_l (take k ms) in
      record {
        stack = both f (all2_drop k h.stack);
        whole = omega (arith, sum_parts k ms, h.whole);
        cost = omega (arith, h.cost, sq_parts k ms, plain_cost t (suc m) n f, e);
        reach = (tt, h.reach);
      }

  pub one_sq : (ms : List ℕ) → sum_l (take 1 ms) * sum_l (take 1 ms) ≡ sq_l (take 1 ms)
  unfolding sum_l sq_l
  one_sq [] = refl
  one_sq (m ∷ ms) = omega arith

  no_sq : (ms : List ℕ) → sum_l (take 0 ms) * sum_l (take 0 ms) ≡ sq_l (take 0 ms)
  unfolding sum_l sq_l
  no_sq ms = refl

  no_sum : (ms : List ℕ) → sum_l (take 0 ms) ≡ 0
  unfolding sum_l
  no_sum ms = refl

  composite_cost : (ms : List ℕ) (os : List Op) (o : Ordered) (n : Flat) → SeqFit opsAt ms os o → BitsFit o.status (suc (sum_l ms)) → length ms ≤ sum_l ms
      → op_terms o.ops + info_cost (record { node = n; raw = o.status; kids = o.kids; cursor = o.cursor }) ≤ op_terms os + 61 * sum_l ms + 18 * crossed 0 ms + 27
  unfolding info_cost
  composite_cost ms os o n h f l = omega (arith, h.cost, h.later, h.run, h.cursor, f.len_s, f.len_f)

  finish : (m q : Bool) (n : ℕ) (o : Ordered) (ms : List ℕ) (l : ℕ) (u : Up) → UpFit ms l u → SeqFit opsAt (take n ms) u.ops o → BitsFit o.status (suc (sum_l (take n ms)))
      → 0 * 0 + sq_l (take n ms) + 2 * crossed 0 (take n ms) ≤ (0 + sum_l (take n ms)) * (0 + sum_l (take n ms)) → length (take n ms) ≤ sum_l (take n ms)
      → UpFit (suc (sum_l (take n ms)) ∷ drop n ms) (suc l) (record { stack = o.status ∷ drop n u.stack; arbitrations = record { node = ordered m q n; raw = o.status; kids = o.kids; cursor = o.cursor } ∷ u.arbitrations; ops = o.ops })
  unfolding sum_l sq_l info_costs
  finish m q n o ms l u h g t sq lo =
      let k = sum_l (take n ms) in
      let e : op_terms o.ops + info_cost (record { node = ordered m q n; raw = o.status; kids = o.kids; cursor = o.cursor }) ≤ op_terms u.ops + 61 * k + 18 * crossed 0 (take n ms) + 27
      = composite_cost (take n ms) u.ops o (ordered m q n) g t lo in
      record {
        stack = both t (all2_drop n h.stack);
        whole = omega (arith, sum_parts n ms, h.whole);
        cost = omega (arith, h.cost, sq_parts n ms, e, sq);
        reach = (g.reach, h.reach);
      }

  step_fit : (n : Flat) (ms : List ℕ) (s c l : ℕ) (u : Up) → UpFit ms l u → UpIn opsAt (up_step pairs opsAt cursorsAt leaves_at n s c u) → UpFit (suc (sum_l (take (taken n) ms)) ∷ drop (taken n) ms) (suc l) (up_step pairs opsAt cursorsAt leaves_at n s c u)
  unfolding up_step forced
  step_fit leaf ms s c l u h i = plain_fit leaf (leaf_t pairs opsAt cursorsAt leaves_at s) 0 ms l u h (rw (no_sum ms) (leaf_fit opsAt cursorsAt leaves_at s)) (no_sq ms)
  step_fit (fixed b) ms s c l u h i = plain_fit (fixed b) (fixed_t pairs b) 0 ms l u h (rw (no_sum ms) (fixed_fit opsAt b)) (no_sq ms)
  step_fit invert ms s c l u h i = plain_fit invert (inverted (top (fixed_t pairs true) u.stack)) 1 ms l u h (inverted_fit opsAt (top (fixed_t pairs true) u.stack) (suc (sum_l (take 1 ms))) (top_fit opsAt h.stack)) (one_sq ms)
  step_fit (force b) ms s c l u h i = plain_fit (force b) (forced pairs b (top (fixed_t pairs true) u.stack)) 1 ms l u h
      (forced_fit opsAt b (top (fixed_t pairs true) u.stack) (suc (sum_l (take 1 ms))) (opsAt + length u.ops) (top_fit opsAt h.stack) (top_spare opsAt h.stack) (go b i.stack.0)) (one_sq ms)
    where
      go : (b : Bool) → BitsIn opsAt u.ops (forced pairs b (top (fixed_t pairs true) u.stack)) → Reads (opsAt + length u.ops) (plus (top (fixed_t pairs true) u.stack).success (top (fixed_t pairs true) u.stack).failure)
      go true t = t.success
      go false t = t.failure
  step_fit (ordered m q n) ms s c l u h i =
      let ts = take n u.stack in
      let ks = take n ms in
      let f = cursor_f pairs opsAt cursorsAt leaves_at m c in
      let o = lower pairs opsAt q f ts u.ops in
      let a : All2 BitsFit ts ks = all2_take n h.stack in
      let g : SeqFit opsAt ks u.ops o = lower_fit opsAt q f u.ops (cursor_len opsAt cursorsAt leaves_at m c) a in
      let t : BitsFit o.status (suc (sum_l ks)) = composite_fit opsAt ks u.ops o g i.stack.0 in
      finish m q n o ms l u h g t (sq_law 0 a) (long_law a)

  module _ (C L : ℕ) (fitC : cursorsAt + C ≤ leaves_at) (fitL : leaves_at + 3 * L ≤ opsAt) where
    pub up_fit : (s c : ℕ) (ns : List Flat) → slot_end s ns ≤ L → cell_end c ns ≤ C → UpFit (sizes_of ns) (length ns) (up pairs opsAt cursorsAt leaves_at s c ns)
    unfolding up slot_end cell_end info_costs sum_l sq_l op_terms sizes_of
    up_fit s c [] l k = record { stack = none; whole = refl; cost = omega arith; reach = tt }
    up_fit s c (n ∷ ns) l k =
        step_fit n (sizes_of ns) s c (length ns) (up pairs opsAt cursorsAt leaves_at (slot_after n s) (cell_after n c) ns) (up_fit (slot_after n s) (cell_after n c) ns l k) (up_in opsAt cursorsAt leaves_at C L fitC fitL s c (n ∷ ns) l k)
