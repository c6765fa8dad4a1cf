-- The size of every form of the bottom-up pass: each node adds at most Y + 2 + 2 ε to what all the forms on the stack can sum to, where Y is
-- the largest cursor and 4 + 3 ε more.
use Prim.Native.Nat.{◌*◌, ◌+◌, ◌<◌, ◌≤◌, suc, zero, ℕ}
use native.Mathlib.Nat.{le_trans, mul-le-mul_left}
use native.Mathlib.Omega.{arith}
use mathlib.Core.Bool.{Bool, ◌&&◌, cond, false, not, true}
use mathlib.Core.List.{List, [], ◌∷◌}
use mathlib.Core.Path.{◌≡◌, ap, refl}
use lib.Dec.{T}
use lib.ListN.{drop, length, take}
use Rattle.construct.proofs.Arbitrate.{Cells, UpIs, cell_end_ge, cursor_is, fixed_is, forced_is, given_along, inverted_is, inverteds_are, lower_is, slot_end_ge, up_grows, up_is}
use Rattle.construct.proofs.Bits.{bit_le}
use Rattle.construct.proofs.Builds.{Sat, back}
use Rattle.construct.proofs.ListWalk.{Would, blk, flips, idle, plain_s, resumed, start_at, turn, turned, walked, would_step, woulds}
use Rattle.construct.proofs.Sequence.{lower_val}
use Rattle.construct.proofs.Values.{plus_law, wire_val}
use Rattle.construct.specs.Circuit.{cell_end, inputs, slot_end}
use Rattle.construct.specs.Lower.{Flat, cell_after, cursor_f, fixed, fixed_t, force, forced, invert, inverted, inverteds, leaf, leaf_t, lower, lower_seq, ordered, plain, slot_after, top, up, up_step}
use Rattle.construct.specs.Pairs.{Form, Arbitration, ArbitratedChild, Op, Ordered, StatusBits, Up, constant, pairs, plus, wire'}
use Rattle.construct.specs.Value.{Bit, BitsAre, Val}
use Rattle.construct_sizes.proofs.Bounds.{Fine, Low, Tables, Under, constant_low, low_up, plus_low, wire_low}
use Rattle.construct_sizes.proofs.Heavy.{Heavy, Idles, K0, K3, BitsLow, hcons, hnil, lower_low, next_low, tight, tri}
use Rattle.lists.proofs.Every.{all2_take}
use Rattle.walk.specs.Kind.{bit}
use Rattle.lists.specs.Every.{All2}
use Rattle.walk.specs.Status.{Failure, Running, Status, Success, done, exchanged, forced_to, is_failure, is_running_status, is_success}
use Rattle.walk.specs.Walk.{status}

-- a stack of triples, with what their forms and a Y for each can sum to
pub data Stk (ρ : ℕ → ℕ) (τ : Tables) (Y : ℕ) : ℕ → List StatusBits → List Status → Type 0 where
  snil : Stk ρ τ Y 0 [] []
  scons : {w T : ℕ} {t : StatusBits} {s : Status} {ts : List StatusBits} {ss : List Status} → BitsAre ρ t s → BitsLow τ w t → Stk ρ τ Y T ts ss → Stk ρ τ Y (w + Y + T) (t ∷ ts) (s ∷ ss)

record Split (ρ : ℕ → ℕ) (τ : Tables) (Y T n : ℕ) (ts : List StatusBits) (ss : List Status) : Type 0 where
  a : ℕ
  b : ℕ
  fit : a + b ≤ T
  taken : Stk ρ τ Y a (take n ts) (take n ss)
  left : Stk ρ τ Y b (drop n ts) (drop n ss)

module _ (ρ : ℕ → ℕ) (τ : Tables) (Y : ℕ) where
  split : (n : ℕ) {T : ℕ} {ts : List StatusBits} {ss : List Status} → Stk ρ τ Y T ts ss → Split ρ τ Y T n ts ss
  split zero {T} h = record { a = 0; b = T; fit = omega arith; taken = snil; left = h }
  split (suc n) snil = record { a = 0; b = 0; fit = omega arith; taken = snil; left = snil }
  split (suc n) (scons {w = w} i l h) =
      let r = split n h in
      record { a = w + Y + r.a; b = r.b; fit = omega (arith, r.fit); taken = scons i l r.taken; left = r.left }

  record Weighed (opsAt ε : ℕ) (le : Under τ ρ ε) (B start k : ℕ) (g : Bool) (T : ℕ) (ts : List StatusBits) (ss : List Status) : Type 0 where
    weight : ℕ
    fit : weight ≤ T
    kids : Heavy start ε (K0 opsAt ρ τ ε le B start) k g weight ts ss

  weigh : (opsAt ε : ℕ) (le : Under τ ρ ε) (B start : ℕ) → start + 4 + 3 * ε ≤ Y → (k : ℕ) (g : Bool) {T : ℕ} {ts : List StatusBits} {ss : List Status} → Stk ρ τ Y T ts ss → Weighed opsAt ε le B start k g T ts ss
  weigh opsAt ε le B start y k g snil = record { weight = 0; fit = omega arith; kids = hnil }
  weigh opsAt ε le B start y k g (scons {w = w} {s = s} i l h) =
      let r = weigh opsAt ε le B start y (suc k) (g && not (blk start k s)) h in
      record { weight = start + 4 + 3 * ε + w + r.weight; fit = omega (arith, r.fit); kids = hcons (record { is = i; low = l }) r.kids }

  inverted_low : (w : ℕ) (t : StatusBits) → BitsLow τ w t → BitsLow τ w (inverted t)
  unfolding inverted
  inverted_low w t h = record { one = h.one; success = h.failure; failure = h.success; running = h.running; sf = λ u c. omega (arith, h.sf u c, plus_law u t.success t.failure, plus_law u t.failure t.success) }

  stk_inverted : {T : ℕ} {ts : List StatusBits} {ss : List Status} → Stk ρ τ Y T ts ss → Stk ρ τ Y T (inverteds ts) (flips ss)
  unfolding inverteds flips
  stk_inverted snil = snil
  stk_inverted (scons {w = w} {t = t} {s = s} i l h) = scons (inverted_is ρ t s i) (inverted_low w t l) (stk_inverted h)

  forced_low : (b : Bool) (w : ℕ) (t : StatusBits) → BitsLow τ w t → BitsLow τ w (forced pairs b t)
  unfolding forced
  forced_low true w t h =
      let z : Low τ w (constant 0) = low_up τ 0 w (constant 0) (constant_low τ 0) (omega arith) in
      record { one = h.one; success = h.sf; failure = z; running = h.running; sf = low_up τ (w + 0) w _ (plus_low τ w 0 (plus t.success t.failure) (constant 0) h.sf (constant_low τ 0)) (omega arith) }
  forced_low false w t h =
      let z : Low τ w (constant 0) = low_up τ 0 w (constant 0) (constant_low τ 0) (omega arith) in
      record { one = h.one; success = z; failure = h.sf; running = h.running; sf = low_up τ (0 + w) w _ (plus_low τ 0 w (constant 0) (plus t.success t.failure) (constant_low τ 0) h.sf) (omega arith) }

  fixed_low : (b : Bool) → BitsLow τ 2 (fixed_t pairs b)
  unfolding fixed_t
  fixed_low b =
      let s : Low τ 1 (constant (bit b)) = low_up τ (bit b) 1 (constant (bit b)) (constant_low τ (bit b)) (bit_le b) in
      let f : Low τ 1 (constant (bit (not b))) = low_up τ (bit (not b)) 1 (constant (bit (not b))) (constant_low τ (bit (not b))) (bit_le (not b)) in
      record {
        one = omega arith;
        success = low_up τ 1 2 _ s (omega arith);
        failure = low_up τ 1 2 _ f (omega arith);
        running = low_up τ 0 2 _ (constant_low τ 0) (omega arith);
        sf = plus_low τ 1 1 (constant (bit b)) (constant (bit (not b))) s f;
      }

  record Popped (T : ℕ) (ts : List StatusBits) (ss : List Status) : Type 0 where
    w : ℕ
    rest : ℕ
    fit : w + rest ≤ T + 2
    is : BitsAre ρ (top (fixed_t pairs true) ts) (top Success ss)
    low : BitsLow τ w (top (fixed_t pairs true) ts)
    left : Stk ρ τ Y rest (drop 1 ts) (drop 1 ss)

  pop : {T : ℕ} {ts : List StatusBits} {ss : List Status} → Stk ρ τ Y T ts ss → Popped T ts ss
  pop snil = record { w = 2; rest = 0; fit = omega arith; is = fixed_is ρ true; low = fixed_low true; left = snil }
  pop (scons {w = w} {T = T} i l h) = record { w = w; rest = T; fit = omega arith; is = i; low = l; left = h }

-- nothing runs where no leaf does
idle_take : (n : ℕ) (ss : List Status) → Idles ss → Idles (take n ss)
idle_take zero ss h = tt
idle_take (suc n) [] h = tt
idle_take (suc n) (s ∷ ss) h = (h.0, idle_take n ss h.1)

idle_drop : (n : ℕ) (ss : List Status) → Idles ss → Idles (drop n ss)
idle_drop zero ss h = h
idle_drop (suc n) [] h = tt
idle_drop (suc n) (s ∷ ss) h = idle_drop n ss h.1

idle_flip : (s : Status) → is_running_status s ≡ false → is_running_status (exchanged s) ≡ false
idle_flip Success h = refl
idle_flip Failure h = refl
idle_flip Running h = h

idle_force : (b : Bool) (s : Status) → is_running_status s ≡ false → is_running_status (forced_to b s) ≡ false
idle_force true Success h = refl
idle_force true Failure h = refl
idle_force true Running h = h
idle_force false Success h = refl
idle_force false Failure h = refl
idle_force false Running h = h

idle_flips : (ss : List Status) → Idles ss → Idles (flips ss)
unfolding flips
idle_flips [] h = tt
idle_flips (s ∷ ss) h = (idle_flip s h.0, idle_flips ss h.1)

idle_turned : (q : Bool) (ss : List Status) → Idles ss → Idles (turned q ss)
idle_turned true ss h = h
idle_turned false ss h = idle_flips ss h

idle_turn : (q : Bool) (s : Status) → is_running_status s ≡ false → is_running_status (turn q s) ≡ false
idle_turn true s h = h
idle_turn false s h = idle_flip s h

idle_cond : (b : Bool) (s t : Status) → is_running_status s ≡ false → is_running_status t ≡ false → is_running_status (cond b s t) ≡ false
idle_cond true s t h k = h
idle_cond false s t h k = k

idle_walked : (start k : ℕ) (ss : List Status) → Idles ss → is_running_status (walked start k ss) ≡ false
unfolding walked
idle_walked start k [] h = refl
idle_walked start k (s ∷ ss) h = idle_cond (blk start k s) s (walked start (suc k) ss) h.0 (idle_walked start (suc k) ss h.1)

idle_top : (ss : List Status) → Idles ss → is_running_status (top Success ss) ≡ false
idle_top [] h = refl
idle_top (s ∷ ss) h = h.0

idle_fixed : (b : Bool) → is_running_status (done b) ≡ false
idle_fixed true = refl
idle_fixed false = refl

drop_le : (n : ℕ) (ss : List Status) → length (drop n ss) ≤ length ss
drop_le zero ss = omega arith
drop_le (suc n) [] = omega arith
drop_le (suc n) (s ∷ ss) = omega (arith, drop_le n ss)

take_le : (n : ℕ) (ss : List Status) → length (take n ss) ≤ length ss
take_le zero ss = omega arith
take_le (suc n) [] = omega arith
take_le (suc n) (s ∷ ss) = omega (arith, take_le n ss)

flips_length : (ss : List Status) → length (flips ss) ≡ length ss
unfolding flips
flips_length [] = refl
flips_length (s ∷ ss) = ap suc (flips_length ss)

turned_length : (q : Bool) (ss : List Status) → length (turned q ss) ≡ length ss
turned_length true ss = refl
turned_length false ss = flips_length ss

pub record Quiet (w : Would) (n : ℕ) : Type 0 where
  pub idle : Idles w.stack
  pub short : length w.stack ≤ n

module _ (leaves : ℕ → Status) (cursors : ℕ → ℕ) (quiet : (s : ℕ) → is_running_status (leaves s) ≡ false) where
  quiet_step : (n : Flat) (s c k : ℕ) (w : Would) → Quiet w k → Quiet (would_step leaves cursors n s c w) (suc k)
  unfolding would_step
  quiet_step leaf s c k w h = record { idle = (quiet s, h.idle); short = omega (arith, h.short) }
  quiet_step (fixed b) s c k w h = record { idle = (idle_fixed b, h.idle); short = omega (arith, h.short) }
  quiet_step invert s c k w h = record { idle = (idle_flip (top Success w.stack) (idle_top w.stack h.idle), idle_drop 1 w.stack h.idle); short = omega (arith, h.short, drop_le 1 w.stack) }
  quiet_step (force b) s c k w h = record { idle = (idle_force b (top Success w.stack) (idle_top w.stack h.idle), idle_drop 1 w.stack h.idle); short = omega (arith, h.short, drop_le 1 w.stack) }
  quiet_step (ordered m q n) s c k w h =
      let ss = turned q (take n w.stack) in
      record {
        idle = (idle_turn q (walked (start_at leaves cursors m c) 0 ss) (idle_walked (start_at leaves cursors m c) 0 ss (idle_turned q (take n w.stack) (idle_take n w.stack h.idle))), idle_drop n w.stack h.idle);
        short = omega (arith, h.short, drop_le n w.stack);
      }

  pub quiet_would : (s c : ℕ) (ns : List Flat) → Quiet (woulds leaves cursors s c ns) (length ns)
  unfolding woulds
  quiet_would s c [] = record { idle = tt; short = omega arith }
  quiet_would s c (n ∷ ns) = quiet_step n s c (length ns) (woulds leaves cursors (slot_after n s) (cell_after n c) ns) (quiet_would (slot_after n s) (cell_after n c) ns)

short_step : (leaves : ℕ → Status) (cursors : ℕ → ℕ) (n : Flat) (s c k : ℕ) (w : Would) → length w.stack ≤ k → length (would_step leaves cursors n s c w).stack ≤ suc k
unfolding would_step
short_step leaves cursors leaf s c k w h = omega arith
short_step leaves cursors (fixed b) s c k w h = omega arith
short_step leaves cursors invert s c k w h = omega (arith, drop_le 1 w.stack)
short_step leaves cursors (force b) s c k w h = omega (arith, drop_le 1 w.stack)
short_step leaves cursors (ordered m q n) s c k w h = omega (arith, drop_le n w.stack)

pub short_would : (leaves : ℕ → Status) (cursors : ℕ → ℕ) (s c : ℕ) (ns : List Flat) → length (woulds leaves cursors s c ns).stack ≤ length ns
unfolding woulds
short_would leaves cursors s c [] = omega arith
short_would leaves cursors s c (n ∷ ns) = short_step leaves cursors n s c (length ns) (woulds leaves cursors (slot_after n s) (cell_after n c) ns) (short_would leaves cursors (slot_after n s) (cell_after n c) ns)

resume_cond : (b r : Bool) (k n m : ℕ) → m ≤ suc k + n → cond b (k * bit r) m ≤ k + suc n
resume_cond true true k n m h = omega arith
resume_cond true false k n m h = omega arith
resume_cond false r k n m h = omega arith

resume_le : (start k : ℕ) (ss : List Status) → resumed start k ss ≤ k + length ss
unfolding resumed
resume_le start k [] = omega arith
resume_le start k (s ∷ ss) = resume_cond (blk start k s) (is_running_status s) k (length ss) (resumed start (suc k) ss) (resume_le start (suc k) ss)

tri_le : (k : ℕ) (ss : List Status) (m : ℕ) → k + length ss ≤ m → tri k ss ≤ m * length ss
unfolding tri
tri_le k [] m h = omega arith
tri_le k (s ∷ ss) m h = omega (arith, tri_le (suc k) ss m (omega arith))

tri_small : (ε M : ℕ) (ss : List Status) → length ss ≤ M → ε * tri 0 ss ≤ ε * (M * M)
tri_small ε M ss h = mul-le-mul_left ε (le_trans (tri_le 0 ss M (omega arith)) (mul-le-mul_left M h))

-- what the top-down pass needs of a node's forms
abbrev pub KidsLow : Tables → ℕ → List ArbitratedChild → Type 0
KidsLow τ B [] = Unit {0}
KidsLow τ B (x ∷ xs) = (Low τ B x.reach × Low τ B x.after_stop) × KidsLow τ B xs

pub record ArbitrationLow (τ : Tables) (B : ℕ) (i : Arbitration) : Type 0 where
  pub raw : BitsLow τ B i.raw
  pub kids : KidsLow τ B i.kids
  pub cursor : (q : Bool) (n : ℕ) → i.node ≡ ordered true q n → Low τ B i.cursor

abbrev pub ArbitrationsLow : Tables → ℕ → List Arbitration → Type 0
ArbitrationsLow τ B [] = Unit {0}
ArbitrationsLow τ B (i ∷ is) = ArbitrationLow τ B i × ArbitrationsLow τ B is

bits_low_up : (τ : Tables) (d e : ℕ) (t : StatusBits) → BitsLow τ d t → d ≤ e → BitsLow τ e t
bits_low_up τ d e t h l = record { one = omega (arith, h.one); success = low_up τ d e t.success h.success l; failure = low_up τ d e t.failure h.failure l; running = low_up τ d e t.running h.running l; sf = low_up τ d e (plus t.success t.failure) h.sf l }

module _ (opsAt : ℕ) (ρ : ℕ → ℕ) (τ : Tables) (ε : ℕ) (le : Under τ ρ ε) (B Y : ℕ) where
  heavy_kids : (start A : ℕ) {k : ℕ} {g : Bool} {W : ℕ} {xs : List ArbitratedChild} {ss : List Status} → Heavy start ε (K3 opsAt ρ τ ε le B start A) k g W xs ss → W ≤ B → A ≤ B → KidsLow τ B xs
  heavy_kids start A hnil l m = tt
  heavy_kids start A (hcons {w = w} {x = x} h hs) l m =
      ((low_up τ (start + 3 + 2 * ε + w) B x.reach h.reach_low (omega arith), low_up τ A B x.after_stop h.after_low m), heavy_kids start A hs (omega arith) m)

  record Lowered (a : ℕ) (o : Ordered) : Type 0 where
    weight : ℕ
    fit : weight ≤ a + 1
    fine : Fine opsAt ρ τ ε le B o.ops
    status : BitsLow τ weight o.status
    kids : KidsLow τ B o.kids

  lower_sized : (q : Bool) (start : ℕ) (c : Form) {a : ℕ} {ts : List StatusBits} {ss : List Status} (os : List Op) → start + 4 + 3 * ε ≤ Y → Y + a ≤ B → Val ρ c start → Low τ (start + ε) c → Stk ρ τ Y a ts ss
      → Fine opsAt ρ τ ε le B os → Sat opsAt ρ (lower pairs opsAt q c ts os).ops → Lowered a (lower pairs opsAt q c ts os)
  unfolding lower
  lower_sized true start c {a} os y l v m h e s =
      let wd = weigh ρ τ Y opsAt ε le B start y 0 true h in
      let fit : wd.weight ≤ a = wd.fit in
      let r = lower_low opsAt ρ τ ε le B start c os v m (omega arith) wd.kids e s in
      record { weight = wd.weight + 1; fit = omega arith; fine = r.fine; status = r.status; kids = heavy_kids start wd.weight r.kids (omega arith) (omega arith) }
  lower_sized false start c {a} {ts} os y l v m h e s =
      let wd = weigh ρ τ Y opsAt ε le B start y 0 true (stk_inverted ρ τ Y h) in
      let fit : wd.weight ≤ a = wd.fit in
      let r = lower_low opsAt ρ τ ε le B start c os v m (omega arith) wd.kids e s in
      record {
        weight = wd.weight + 1;
        fit = omega arith;
        fine = r.fine;
        status = inverted_low ρ τ Y (wd.weight + 1) (lower_seq pairs opsAt c (inverteds ts) os).status r.status;
        kids = heavy_kids start wd.weight r.kids (omega arith) (omega arith);
      }

  -- the next cursor, by a second table ρ'
  next_sized : (q : Bool) (start : ℕ) (c : Form) (ts : List StatusBits) {ss : List Status} (os : List Op) → Val ρ c start → All2 (BitsAre ρ) ts ss → Sat opsAt ρ (lower pairs opsAt q c ts os).ops
      → (ρ' : ℕ → ℕ) (start' : ℕ) {ss' : List Status} → Val ρ' c start' → All2 (BitsAre ρ') ts ss' → Sat opsAt ρ' (lower pairs opsAt q c ts os).ops → length ss' ≤ start' → Idles ss'
      → Low τ (resumed start 0 (turned q ss) + ε * tri 0 (turned q ss)) (lower pairs opsAt q c ts os).cursor
  unfolding lower
  next_sized true start c ts os v h s ρ' start' v' h' s' l i =
      next_low opsAt ρ τ ε le start c ts os
      (tight opsAt ρ' start' (omega arith) i (lower_val opsAt ρ' start' c os v' (given_along ρ' start' h') s').kids)
      (lower_val opsAt ρ start c os v (given_along ρ start h) s).kids s
  next_sized false start c ts os v h s ρ' start' {ss'} v' h' s' l i =
      next_low opsAt ρ τ ε le start c (inverteds ts) os
      (tight opsAt ρ' start' (omega (arith, flips_length ss')) (idle_flips ss' i) (lower_val opsAt ρ' start' c os v' (given_along ρ' start' (inverteds_are ρ' h')) s').kids)
      (lower_val opsAt ρ start c os v (given_along ρ start (inverteds_are ρ h)) s).kids s

  pub record UpLow (cap : ℕ) (u : Up) (w : Would) : Type 0 where
    pub sum : ℕ
    pub fit : sum ≤ cap
    pub fine : Fine opsAt ρ τ ε le B u.ops
    pub stack : Stk ρ τ Y sum u.stack w.stack
    pub arbitrations : ArbitrationsLow τ B u.arbitrations

  -- the input cells, in the table ρ and in a second table where every cursor is past every child and no leaf runs
  module _ (cursorsAt leaves_at C L M : ℕ) (leaves : ℕ → Status) (cursors : ℕ → ℕ) (inputs : Cells ρ opsAt cursorsAt leaves_at leaves cursors C L) (small : (c : ℕ) → c < C → cursors c + 4 + 3 * ε ≤ Y) (four : 4 + 3 * ε ≤ Y) (roomy : M + ε * (M * M) ≤ B)
      (ρ' : ℕ → ℕ) (leaves' : ℕ → Status) (cursors' : ℕ → ℕ) (inputs' : Cells ρ' opsAt cursorsAt leaves_at leaves' cursors' C L)
      (quiet : (s : ℕ) → is_running_status (leaves' s) ≡ false) (past : (c : ℕ) → c < C → M ≤ cursors' c) where
    bit_wire : (x : ℕ) (a : Bool) → Bit ρ (wire' x) a → Low τ (1 + ε) (wire' x)
    bit_wire x a h = wire_low opsAt ρ τ ε le B x 1 (omega (arith, wire_val ρ x, bit_le a))

    leaf_low : (s : ℕ) → s < L → BitsLow τ (2 + 2 * ε) (leaf_t pairs opsAt cursorsAt leaves_at s)
    leaf_low s l =
        let t = inputs.leaf s l in
        let a = bit_wire (leaves_at + 3 * s) (is_success (leaves s)) t.is_s in
        let b = bit_wire (leaves_at + 3 * s + 1) (is_failure (leaves s)) t.is_f in
        let c = bit_wire (leaves_at + 3 * s + 2) (is_running_status (leaves s)) t.is_r in
        let e = 2 + 2 * ε in
        record { one = omega arith; success = low_up τ (1 + ε) e _ a (omega arith); failure = low_up τ (1 + ε) e _ b (omega arith); running = low_up τ (1 + ε) e _ c (omega arith); sf = low_up τ (1 + ε + (1 + ε)) e _ (plus_low τ (1 + ε) (1 + ε) (wire' (leaves_at + 3 * s)) (wire' (leaves_at + 3 * s + 1)) a b) (omega arith) }

    start_low : (m q : Bool) (n c : ℕ) → cell_after (ordered m q n) c ≤ C → start_at leaves cursors m c + 4 + 3 * ε ≤ Y
    start_low true q n c h = small c h
    start_low false q n c h = four

    cursor_low : (m q : Bool) (n c : ℕ) → cell_after (ordered m q n) c ≤ C → Low τ (start_at leaves cursors m c + ε) (cursor_f pairs opsAt cursorsAt leaves_at m c)
    cursor_low true q n c h = wire_low opsAt ρ τ ε le B (cursorsAt + c) (cursors c) (omega (arith, inputs.cursor c h))
    cursor_low false q n c h = low_up τ 0 (0 + ε) (constant 0) (constant_low τ 0) (omega arith)

    plain_low : (n : Flat) (t : StatusBits) (st : Status) (u : Up) (w : Would) (top' old d T : ℕ) {ts : List StatusBits} {ss : List Status}
        → ((q : Bool) (k : ℕ) → n ≡ ordered true q k → ⊥) → BitsAre ρ t st → BitsLow τ d t → Stk ρ τ Y T ts ss → d + T + Y ≤ top' → top' ≤ B → UpLow old u w → UpLow top' (plain pairs n t ts u) (plain_s n st ss w)
    plain_low n t st u w top' old d T nm i l h f b k = record {
      sum = d + Y + T;
      fit = omega arith;
      fine = k.fine;
      stack = scons i l h;
      arbitrations = (record { raw = bits_low_up τ d B t l (omega arith); kids = tt; cursor = λ q m e. absurd (nm q m e) }, k.arbitrations);
    }

    cur_for : (m q : Bool) (n : ℕ) (f : Form) → (m ≡ true → Low τ B f) → (q' : Bool) (k : ℕ) → ordered m q n ≡ ordered true q' k → Low τ B f
    cur_for true q n f h q' k e = h refl
    cur_for false q n f h q' k e = let x : ◌≡◌ {A = ℕ} 0 1 = cc in absurd (omega arith)

    start_past : (m q : Bool) (n c : ℕ) → cell_after (ordered m q n) c ≤ C → m ≡ true → M ≤ start_at leaves' cursors' m c
    start_past true q n c h e = past c h
    start_past false q n c h e = let x : ◌≡◌ {A = ℕ} 0 1 = cc in absurd (omega arith)

    step_low : (n : Flat) (s c : ℕ) (u : Up) (w w' : Would) (old k : ℕ) → slot_after n s ≤ L → cell_after n c ≤ C → old + Y + 2 + 2 * ε ≤ B → k ≤ M → UpIs ρ u w → UpIs ρ' u w' → Quiet w' k → length w.stack ≤ k → UpLow old u w
        → Sat opsAt ρ (up_step pairs opsAt cursorsAt leaves_at n s c u).ops → Sat opsAt ρ' (up_step pairs opsAt cursorsAt leaves_at n s c u).ops → UpLow (old + Y + 2 + 2 * ε) (up_step pairs opsAt cursorsAt leaves_at n s c u) (would_step leaves cursors n s c w)
    unfolding up_step would_step
    step_low leaf s c u w w' old k l₁ l₂ b km h h' z sh x t t' =
        plain_low leaf (leaf_t pairs opsAt cursorsAt leaves_at s) (leaves s) u w (old + Y + 2 + 2 * ε) old (2 + 2 * ε) x.sum (λ q m e. let y : ◌≡◌ {A = ℕ} 0 1 = cc in omega arith) (inputs.leaf s l₁) (leaf_low s l₁) x.stack (omega (arith, x.fit)) b x
    step_low (fixed v) s c u w w' old k l₁ l₂ b km h h' z sh x t t' =
        plain_low (fixed v) (fixed_t pairs v) (done v) u w (old + Y + 2 + 2 * ε) old 2 x.sum (λ q m e. let y : ◌≡◌ {A = ℕ} 0 1 = cc in omega arith) (fixed_is ρ v) (fixed_low ρ τ Y v) x.stack (omega (arith, x.fit)) b x
    step_low invert s c u w w' old k l₁ l₂ b km h h' z sh x t t' =
        let p = pop ρ τ Y x.stack in
        let tr = top (fixed_t pairs true) u.stack in
        plain_low invert (inverted tr) (exchanged (top Success w.stack)) u w (old + Y + 2 + 2 * ε) old p.w p.rest (λ q m e. let y : ◌≡◌ {A = ℕ} 0 1 = cc in omega arith)
        (inverted_is ρ tr (top Success w.stack) p.is) (inverted_low ρ τ Y p.w tr p.low) p.left (omega (arith, x.fit, p.fit)) b x
    step_low (force v) s c u w w' old k l₁ l₂ b km h h' z sh x t t' =
        let p = pop ρ τ Y x.stack in
        let tr = top (fixed_t pairs true) u.stack in
        plain_low (force v) (forced pairs v tr) (forced_to v (top Success w.stack)) u w (old + Y + 2 + 2 * ε) old p.w p.rest (λ q m e. let y : ◌≡◌ {A = ℕ} 0 1 = cc in omega arith)
        (forced_is ρ v tr (top Success w.stack) p.is) (forced_low ρ τ Y v p.w tr p.low) p.left (omega (arith, x.fit, p.fit)) b x
    step_low (ordered m q n) s c u w w' old k l₁ l₂ b km h h' z sh x t t' =
        let f = cursor_f pairs opsAt cursorsAt leaves_at m c in
        let ts = take n u.stack in
        let sp = split ρ τ Y n x.stack in
        let sf : x.sum ≤ old = x.fit in
        let pf : sp.a + sp.b ≤ x.sum = sp.fit in
        let st = start_at leaves cursors m c in
        let vc : Val ρ f st = cursor_is ρ opsAt cursorsAt leaves_at leaves cursors C L inputs m q n c l₂ in
        let o = lower_sized q st f u.ops (start_low m q n c l₂) (omega arith) vc (cursor_low m q n c l₂) sp.taken x.fine t in
        let of : o.weight ≤ sp.a + 1 = o.fit in
        let oi = lower_is ρ opsAt st q f u.ops vc (all2_take n h.stack) t in
        let ss = take n w.stack in
        let short : length w.stack ≤ M = omega arith in
        record {
          sum = o.weight + Y + sp.b;
          fit = omega arith;
          fine = o.fine;
          stack = scons oi.status o.status sp.left;
          arbitrations = (
            record {
              raw = bits_low_up τ o.weight B (lower pairs opsAt q f ts u.ops).status o.status (omega arith);
              kids = o.kids;
              cursor = cur_for m q n (lower pairs opsAt q f ts u.ops).cursor (λ e.
                  low_up τ (resumed st 0 (turned q ss) + ε * tri 0 (turned q ss)) B (lower pairs opsAt q f ts u.ops).cursor
                  (next_sized q st f ts u.ops vc (all2_take n h.stack) t ρ' (start_at leaves' cursors' m c)
                  (cursor_is ρ' opsAt cursorsAt leaves_at leaves' cursors' C L inputs' m q n c l₂) (all2_take n h'.stack) t'
                  (omega (arith, start_past m q n c l₂ e, take_le n w'.stack, z.short)) (idle_take n w'.stack z.idle))
                  (omega (arith, roomy, resume_le st 0 (turned q ss), turned_length q ss, take_le n w.stack, short, tri_small ε M (turned q ss) (omega (arith, turned_length q ss, take_le n w.stack, short)))));
            },
            x.arbitrations,
          );
        }

    pub up_low : (s c : ℕ) (ns : List Flat) → slot_end s ns ≤ L → cell_end c ns ≤ C → length ns ≤ M → (Y + 2 + 2 * ε) * length ns ≤ B → Sat opsAt ρ (up pairs opsAt cursorsAt leaves_at s c ns).ops → Sat opsAt ρ' (up pairs opsAt cursorsAt leaves_at s c ns).ops
        → UpLow ((Y + 2 + 2 * ε) * length ns) (up pairs opsAt cursorsAt leaves_at s c ns) (woulds leaves cursors s c ns)
    unfolding up woulds slot_end cell_end
    up_low s c [] l k m b t t' = record { sum = 0; fit = omega arith; fine = tt; stack = snil; arbitrations = tt }
    up_low s c (n ∷ ns) l k m b t t' =
        let u = up pairs opsAt cursorsAt leaves_at (slot_after n s) (cell_after n c) ns in
        let g = up_grows opsAt cursorsAt leaves_at n s c u in
        let t₁ : Sat opsAt ρ u.ops = back opsAt ρ g t in
        let t₁' : Sat opsAt ρ' u.ops = back opsAt ρ' g t' in
        let r = step_low n s c u (woulds leaves cursors (slot_after n s) (cell_after n c) ns) (woulds leaves' cursors' (slot_after n s) (cell_after n c) ns) ((Y + 2 + 2 * ε) * length ns) (length ns)
        (omega (arith, slot_end_ge (slot_after n s) ns)) (omega (arith, cell_end_ge (cell_after n c) ns)) (omega arith) (omega arith)
        (up_is ρ opsAt cursorsAt leaves_at leaves cursors C L inputs (slot_after n s) (cell_after n c) ns l k t₁) (up_is ρ' opsAt cursorsAt leaves_at leaves' cursors' C L inputs' (slot_after n s) (cell_after n c) ns l k t₁')
        (quiet_would leaves' cursors' quiet (slot_after n s) (cell_after n c) ns) (short_would leaves cursors (slot_after n s) (cell_after n c) ns)
        (up_low (slot_after n s) (cell_after n c) ns l k (omega arith) (omega arith) t₁ t₁') t t' in
        record { sum = r.sum; fit = omega (arith, r.fit); fine = r.fine; stack = r.stack; arbitrations = r.arbitrations }
