-- lower_ordered with the size of every form: a child of weight w adds start + 4 + 3 ε + w to what its parent sums.
use Prim.Native.Nat.{◌*◌, ◌+◌, ◌≤◌, suc, ℕ}
use native.Mathlib.Omega.{arith}
use mathlib.Core.Bool.{Bool, ◌&&◌, ◌||◌, and-false, false, not, true}
use mathlib.Core.List.{List, [], ◌∷◌}
use mathlib.Core.Path.{◌∙◌, ◌≡◌, refl}
use lib.Dec.{leb}
use lib.ListN.{length}
use Rattle.construct.proofs.Bits.{add_cur, after_step, clear_step, is_z, leb_yes}
use Rattle.construct.proofs.Builds.{KnownIs, Sat, and_grows, and_val, at_least_val, back, is_zero_val, known_is, not_val, or_grows, or_val}
use Rattle.construct.proofs.ListWalk.{blk, resumed}
use Rattle.construct.proofs.Sequence.{Along, R3, clears_grows, cons, gates_grows, nil, picks_grows, stops_grows}
use Rattle.construct.proofs.Values.{constant_val, negate_n, negate_p, offset_n, offset_p, plus_law, plus_val}
use Rattle.construct.specs.Builder.{and, at_least, is_zero, minus, not', or}
use Rattle.construct.specs.Forms.{Known, No, Open, Yes}
use Rattle.construct.specs.Lower.{clears, gates, lower_seq, picks, stops, total}
use Rattle.construct.specs.Pairs.{Form, GatedChild, ClearedChild, ArbitratedChild, Many, Op, Ordered, Picked, StatusBits, constant, known, negate, offset, pairs, plus, scaled}
use Rattle.construct.specs.Value.{Bit, BitsAre, Val}
use Rattle.construct_sizes.proofs.Bounds.{Fine, Low, Tables, Under, and_fine, and_rest, and_tight, at_least_fine, constant_low, is_zero_fine, low_up, minus_low, not_low, or_fine, plus_low, scaled_low}
use Rattle.walk.specs.Kind.{bit}
use Rattle.walk.specs.Status.{Status, is_failure, is_running_status, is_success}
use Rattle.walk.specs.Walk.{status}

pub record BitsLow (τ : Tables) (w : ℕ) (t : StatusBits) : Type 0 where
  pub one : 1 ≤ w
  pub success : Low τ w t.success
  pub failure : Low τ w t.failure
  pub running : Low τ w t.running
  pub sf : Low τ w (plus t.success t.failure)

-- as Along, with the children's weights added up
pub data Heavy {X : Type 0} (start ε : ℕ) (R : ℕ → Bool → ℕ → X → Status → Type 0) : ℕ → Bool → ℕ → List X → List Status → Type 0 where
  hnil : {k : ℕ} {g : Bool} → Heavy start ε R k g 0 [] []
  hcons : {k : ℕ} {g : Bool} {w W : ℕ} {x : X} {s : Status} {xs : List X} {ss : List Status}
      → R k g w x s → Heavy start ε R (suc k) (g && not (blk start k s)) W xs ss → Heavy start ε R k g (start + 4 + 3 * ε + w + W) (x ∷ xs) (s ∷ ss)

module _ (opsAt : ℕ) (ρ : ℕ → ℕ) (τ : Tables) (ε : ℕ) (le : Under τ ρ ε) (B start : ℕ) where
  pub record K0 (k : ℕ) (g : Bool) (w : ℕ) (t : StatusBits) (st : Status) : Type 0 where
    pub is : BitsAre ρ t st
    pub low : BitsLow τ w t

  record K1 (k : ℕ) (g : Bool) (w : ℕ) (x : GatedChild) (st : Status) : Type 0 where
    status : K0 k g w x.status st
    before : Bit ρ x.before (leb (suc k) start)
    blocked : Bit ρ x.blocked (blk start k st)
    before_low : Low τ (start + 1 + ε) x.before
    blocked_low : Low τ (start + 3 + 2 * ε + w) x.blocked

  record K2 (k : ℕ) (g : Bool) (w : ℕ) (x : ClearedChild) (st : Status) : Type 0 where
    child : K1 k g w x.child st
    clear : Bit ρ x.clear g
    clear_low : Low τ (1 + ε) x.clear

  pub record K3 (A : ℕ) (k : ℕ) (g : Bool) (w : ℕ) (x : ArbitratedChild) (st : Status) : Type 0 where
    pub status : K0 k g w x.status st
    pub reach : Bit ρ x.reach (g && not (leb (suc k) start))
    pub stop : Bit ρ x.stop (g && blk start k st)
    pub after_stop : Bit ρ x.after_stop (not g)
    pub reach_low : Low τ (start + 3 + 2 * ε + w) x.reach
    pub stop_low : Low τ (start + 3 + 2 * ε + w) x.stop
    pub after_low : Low τ A x.after_stop

  record Res {X : Type 0} (R : ℕ → Bool → ℕ → X → Status → Type 0) (k : ℕ) (g : Bool) (W : ℕ) (m : Many X) (ss : List Status) : Type 0 where
    fine : Fine opsAt ρ τ ε le B m.ops
    items : Heavy start ε R k g W m.items ss

  gates_low : (c : Form) {k : ℕ} {g : Bool} {W : ℕ} {ts : List StatusBits} {ss : List Status} (os : List Op) → Val ρ c start → Low τ (start + ε) c → start + ε + k + 3 + W ≤ B
      → Heavy start ε K0 k g W ts ss → Fine opsAt ρ τ ε le B os → Sat opsAt ρ (gates pairs opsAt c k ts os).ops → Res K1 k g W (gates pairs opsAt c k ts os) ss
  unfolding gates
  gates_low c os v m l hnil e s = record { fine = e; items = hnil }
  gates_low c os v m l (hcons {k = k} {g = g} {w = w} {W = W} {x = t} {s = st} {xs = ts} h hs) e s =
      let o₁ = at_least pairs opsAt c (suc k) os in
      let o₂ = or pairs opsAt o₁.form t.success o₁.ops in
      let s₂ : Sat opsAt ρ o₂.ops = back opsAt ρ (gates_grows opsAt c (suc k) ts o₂.ops) s in
      let s₁ : Sat opsAt ρ o₁.ops = back opsAt ρ (or_grows opsAt o₁.form t.success o₁.ops) s₂ in
      let x = leb (suc k) start in
      let v₁ : Bit ρ o₁.form x = at_least_val opsAt ρ c (suc k) start os v s₁ in
      let v₂ : Bit ρ o₂.form (x || is_success st) = or_val opsAt ρ o₁.form t.success x (is_success st) o₁.ops v₁ h.is.is_s s₂ in
      let e₁ = at_least_fine opsAt ρ τ ε le B c k start (start + ε) os v m (omega arith) e s₁ in
      let e₂ = or_fine opsAt ρ τ ε le B o₁.form t.success x (is_success st) (start + 1 + ε) w o₁.ops v₁ h.is.is_s e₁.1 h.low.success (omega arith) e₁.0 s₂ in
      let r = gates_low c o₂.ops v m (omega arith) hs e₂.0 s in
      record {
        fine = r.fine;
        items = hcons (record {
          status = record { is = h.is; low = h.low };
          before = v₁;
          blocked = not_val opsAt ρ o₂.form (x || is_success st) v₂;
          before_low = e₁.1;
          blocked_low = low_up τ (start + 1 + ε + w + 1 + ε + 1) (start + 3 + 2 * ε + w) (not' pairs o₂.form) (not_low τ (start + 1 + ε + w + 1 + ε) o₂.form e₂.1) (omega arith);
        }) r.items;
      }

  clears_low : (pre : Form) (n p : ℕ) {k : ℕ} {g : Bool} {W : ℕ} {xs : List GatedChild} {ss : List Status} (os : List Op) → Val ρ pre n → is_z n ≡ g → Low τ p pre → p + W + 1 ≤ B
      → Heavy start ε K1 k g W xs ss → Fine opsAt ρ τ ε le B os → Sat opsAt ρ (clears pairs opsAt pre xs os).ops → Res K2 k g W (clears pairs opsAt pre xs os) ss
  unfolding clears
  clears_low pre n p os v i m l hnil e s = record { fine = e; items = hnil }
  clears_low pre n p os v i m l (hcons {k = k} {g = g} {w = w} {W = W} {x = x} {s = st} {xs = xs} h hs) e s =
      let z = is_zero pairs opsAt pre os in
      let b = blk start k st in
      let pre' = plus pre x.blocked in
      let s₁ : Sat opsAt ρ z.ops = back opsAt ρ (clears_grows opsAt pre' xs z.ops) s in
      let e₁ = is_zero_fine opsAt ρ τ ε le B pre n p os v m (omega arith) e s₁ in
      let r = clears_low pre' (n + bit b) (p + (start + 3 + 2 * ε + w)) z.ops (plus_val ρ pre x.blocked n (bit b) v h.blocked) (clear_step n b ∙ rw i refl)
      (plus_low τ p (start + 3 + 2 * ε + w) pre x.blocked m h.blocked_low) (omega arith) hs e₁.0 s in
      record {
        fine = r.fine;
        items = hcons (record {
          child = record { status = h.status; before = h.before; blocked = h.blocked; before_low = h.before_low; blocked_low = h.blocked_low };
          clear = rw i at (is_zero_val opsAt ρ pre n os v s₁);
          clear_low = e₁.1;
        }) r.items;
      }

  stops_low : (A : ℕ) (acc : Form) (p : ℕ) {k : ℕ} {g : Bool} {W : ℕ} {xs : List ClearedChild} {ss : List Status} (os : List Op) → Bit ρ acc (not g) → Low τ p acc → p + W ≤ A → W ≤ B
      → Heavy start ε K2 k g W xs ss → Fine opsAt ρ τ ε le B os → Sat opsAt ρ (stops pairs opsAt acc xs os).ops → Res (K3 A) k g W (stops pairs opsAt acc xs os) ss
  unfolding stops
  stops_low A acc p os v m l l' hnil e s = record { fine = e; items = hnil }
  stops_low A acc p os v m l l' (hcons {k = k} {g = g} {w = w} {W = W} {x = x} {s = st} {xs = xs} h hs) e s =
      let nb = not' pairs x.child.before in
      let o₁ = and pairs opsAt x.clear nb os in
      let o₂ = and pairs opsAt x.clear x.child.blocked o₁.ops in
      let acc' = plus acc o₂.form in
      let b = blk start k st in
      let x₁ = leb (suc k) start in
      let d = start + 3 + 2 * ε + w in
      let s₂ : Sat opsAt ρ o₂.ops = back opsAt ρ (stops_grows opsAt acc' xs o₂.ops) s in
      let s₁ : Sat opsAt ρ o₁.ops = back opsAt ρ (and_grows opsAt x.clear x.child.blocked o₁.ops) s₂ in
      let vn : Bit ρ nb (not x₁) = not_val opsAt ρ x.child.before x₁ h.child.before in
      let cl : Low τ d x.clear = low_up τ (1 + ε) d x.clear h.clear_low (omega arith) in
      let nl : Low τ d nb = low_up τ (start + 1 + ε + 1) d nb (not_low τ (start + 1 + ε) x.child.before h.child.before_low) (omega arith) in
      let v₂ : Bit ρ o₂.form (g && b) = and_val opsAt ρ x.clear x.child.blocked g b o₁.ops h.clear h.child.blocked s₂ in
      let e₁ = and_fine opsAt ρ τ ε le B x.clear nb g (not x₁) d os h.clear vn cl nl (omega arith) (omega arith) e s₁ in
      let e₂ = and_fine opsAt ρ τ ε le B x.clear x.child.blocked g b d o₁.ops h.clear h.child.blocked cl h.child.blocked_low (omega arith) (omega arith) e₁.0 s₂ in
      let r = stops_low A acc' (p + d) o₂.ops (rw (after_step g b) at (plus_val ρ acc o₂.form (bit (not g)) (bit (g && b)) v v₂))
      (plus_low τ p d acc o₂.form m e₂.1) (omega arith) (omega arith) hs e₂.0 s in
      record {
        fine = r.fine;
        items = hcons (record {
          status = h.child.status;
          reach = and_val opsAt ρ x.clear nb g (not x₁) os h.clear vn s₁;
          stop = v₂;
          after_stop = v;
          reach_low = e₁.1;
          stop_low = e₂.1;
          after_low = low_up τ p A acc m (omega arith);
        }) r.items;
      }

  total_low : (A : ℕ) (acc : Form) (p : ℕ) {k : ℕ} {g : Bool} {W : ℕ} {xs : List ArbitratedChild} {ss : List Status} → Low τ p acc → Heavy start ε (K3 A) k g W xs ss → Low τ (p + W) (total pairs acc xs)
  unfolding total
  total_low A acc p m hnil = low_up τ p (p + 0) acc m (omega arith)
  total_low A acc p m (hcons {w = w} {W = W} {x = x} {xs = xs} h hs) =
      let q = start + 3 + 2 * ε + w in
      low_up τ (p + q + W) (p + (start + 4 + 3 * ε + w + W)) (total pairs (plus acc x.stop) xs) (total_low A (plus acc x.stop) (p + q) (plus_low τ p q acc x.stop m h.stop_low) hs) (omega arith)

  quad_low : (p q : ℕ) (a b c d : Form) → Low τ p (minus pairs a b) → Low τ q (minus pairs c d) → Low τ (p + q) (minus pairs (plus a c) (plus b d))
  unfolding minus
  quad_low p q a b c d h k t m = omega (
    arith,
    h t m,
    k t m,
    plus_law t a (negate b),
    plus_law t c (negate d),
    plus_law t (plus a c) (negate (plus b d)),
    plus_law t a c,
    plus_law t b d,
    negate_p t b,
    negate_n t b,
    negate_p t d,
    negate_n t d,
    negate_p t (plus b d),
    negate_n t (plus b d),
  )

  record PicksLow (o r q W : ℕ) (tot : Form) (p : Picked) : Type 0 where
    fine : Fine opsAt ρ τ ε le B p.ops
    other : Low τ (o + W) p.other
    run : Low τ (r + W) p.run
    rest : Low τ (q + W) (minus pairs tot p.other)

  picks_low : (A : ℕ) (acc fo fr fc : Form) (o r q : ℕ) {k : ℕ} {g : Bool} {W : ℕ} {xs : List ArbitratedChild} {ss : List Status} (os : List Op)
      → Low τ o fo → Low τ r fr → Low τ q (minus pairs acc fo) → W ≤ B → Heavy start ε (K3 A) k g W xs ss → Fine opsAt ρ τ ε le B os
      → Sat opsAt ρ (picks pairs opsAt k fo fr fc xs os).ops → PicksLow o r q W (total pairs acc xs) (picks pairs opsAt k fo fr fc xs os)
  unfolding picks total
  picks_low A acc fo fr fc o r q os lo lr lq l hnil e s =
      record { fine = e; other = low_up τ o (o + 0) fo lo (omega arith); run = low_up τ r (r + 0) fr lr (omega arith); rest = low_up τ q (q + 0) (minus pairs acc fo) lq (omega arith) }
  picks_low A acc fo fr fc o r q os lo lr lq l (hcons {k = k} {g = g} {w = w} {W = W} {x = x} {s = st} {xs = xs} h hs) e s =
      let a = and pairs opsAt x.stop x.status.failure os in
      let b = and pairs opsAt x.stop x.status.running a.ops in
      let y = g && blk start k st in
      let d = start + 3 + 2 * ε + w in
      let s₂ : Sat opsAt ρ b.ops = back opsAt ρ (picks_grows opsAt (suc k) (plus fo a.form) (plus fr b.form) (plus fc (scaled k b.form)) xs b.ops) s in
      let s₁ : Sat opsAt ρ a.ops = back opsAt ρ (and_grows opsAt x.stop x.status.running a.ops) s₂ in
      let lf : Low τ d x.status.failure = low_up τ w d x.status.failure h.status.low.failure (omega arith) in
      let lr' : Low τ d x.status.running = low_up τ w d x.status.running h.status.low.running (omega arith) in
      let e₁ = and_fine opsAt ρ τ ε le B x.stop x.status.failure y (is_failure st) d os h.stop h.status.is.is_f h.stop_low lf (omega arith) (omega arith) e s₁ in
      let e₂ = and_fine opsAt ρ τ ε le B x.stop x.status.running y (is_running_status st) d a.ops h.stop h.status.is.is_r h.stop_low lr' (omega arith) (omega arith) e₁.0 s₂ in
      let m = and_rest opsAt ρ τ ε le B x.stop x.status.failure y (is_failure st) d os h.stop h.status.is.is_f h.stop_low lf (omega arith) s₁ in
      let i = picks_low A (plus acc x.stop) (plus fo a.form) (plus fr b.form) (plus fc (scaled k b.form)) (o + d) (r + d) (q + (d + 1 + ε)) b.ops
      (plus_low τ o d fo a.form lo e₁.1) (plus_low τ r d fr b.form lr e₂.1) (quad_low q (d + 1 + ε) acc fo x.stop a.form lq m) (omega arith) hs e₂.0 s in
      record {
        fine = i.fine;
        other = low_up τ (o + d + W) (o + (start + 4 + 3 * ε + w + W)) _ i.other (omega arith);
        run = low_up τ (r + d + W) (r + (start + 4 + 3 * ε + w + W)) _ i.run (omega arith);
        rest = low_up τ (q + (d + 1 + ε) + W) (q + (start + 4 + 3 * ε + w + W)) _ i.rest (omega arith);
      }

  sum_low : (p : ℕ) (t o : Form) → Low τ p (minus pairs t o) → Low τ (p + 1) (plus (not' pairs t) o)
  unfolding minus not'
  sum_low p t o h u m = omega (arith, h u m, plus_law u t (negate o), negate_p u o, negate_n u o, plus_law u (offset 1 0 (negate t)) o, offset_p u 1 0 (negate t), offset_n u 1 0 (negate t), negate_p u t, negate_n u t)

  pub record LowerLow (W : ℕ) (o : Ordered) (ss : List Status) : Type 0 where
    pub fine : Fine opsAt ρ τ ε le B o.ops
    pub status : BitsLow τ (W + 1) o.status
    pub kids : Heavy start ε (K3 W) 0 true W o.kids ss

  pub lower_low : (c : Form) {W : ℕ} {ts : List StatusBits} {ss : List Status} (os : List Op) → Val ρ c start → Low τ (start + ε) c → start + ε + 3 + W ≤ B
      → Heavy start ε K0 0 true W ts ss → Fine opsAt ρ τ ε le B os → Sat opsAt ρ (lower_seq pairs opsAt c ts os).ops → LowerLow W (lower_seq pairs opsAt c ts os) ss
  unfolding lower_seq
  lower_low c {W} {ts} os v m l h e s =
      let z = constant 0 in
      let a = gates pairs opsAt c 0 ts os in
      let b = clears pairs opsAt z a.items a.ops in
      let d = stops pairs opsAt z b.items b.ops in
      let p = picks pairs opsAt 0 z z z d.items d.ops in
      let v0 : Val ρ z 0 = constant_val ρ 0 in
      let l0 : Low τ 0 z = constant_low τ 0 in
      let s₃ : Sat opsAt ρ d.ops = back opsAt ρ (picks_grows opsAt 0 z z z d.items d.ops) s in
      let s₂ : Sat opsAt ρ b.ops = back opsAt ρ (stops_grows opsAt z b.items b.ops) s₃ in
      let s₁ : Sat opsAt ρ a.ops = back opsAt ρ (clears_grows opsAt z a.items a.ops) s₂ in
      let r₁ = gates_low c os v m (omega arith) h e s₁ in
      let r₂ = clears_low z 0 0 a.ops v0 refl l0 (omega arith) r₁.items r₁.fine s₂ in
      let r₃ = stops_low W z 0 b.ops v0 l0 (omega arith) (omega arith) r₂.items r₂.fine s₃ in
      let r₄ = picks_low W z z z z 0 0 0 d.ops l0 l0 (minus_low τ 0 0 z z l0 l0) (omega arith) r₃.items r₃.fine s in
      let t = total pairs z d.items in
      record {
        fine = r₄.fine;
        kids = r₃.items;
        status = record {
          one = omega arith;
          success = not_low τ W t (low_up τ (0 + W) W t (total_low W z 0 l0 r₃.items) (omega arith));
          failure = low_up τ (0 + W) (W + 1) p.other r₄.other (omega arith);
          running = low_up τ (0 + W) (W + 1) p.run r₄.run (omega arith);
          sf = sum_low W t p.other (low_up τ (0 + W) W (minus pairs t p.other) r₄.rest (omega arith));
        };
      }

-- no stop and no running bit that is known to be 1: then the next cursor's form is no larger than its value
pub record Tight (x : ArbitratedChild) : Type 0 where
  pub stop : known x.stop ≡ Yes → ⊥
  pub run : known x.status.running ≡ Yes → ⊥

abbrev pub Tights : List ArbitratedChild → Type 0
Tights [] = Unit {0}
Tights (x ∷ xs) = Tight x × Tights xs

-- the positions added up
unfoldable pub tri : ℕ → List Status → ℕ
tri k [] = 0
tri k (s ∷ ss) = k + tri (suc k) ss

module _ (opsAt : ℕ) (ρ : ℕ → ℕ) (τ : Tables) (ε : ℕ) (le : Under τ ρ ε) (start : ℕ) where
  cur_low : (fo fr fc : Form) (c : ℕ) {k : ℕ} {g : Bool} {xs : List ArbitratedChild} {ss : List Status} (os : List Op) → Low τ c fc → Tights xs
      → Along start (R3 opsAt ρ start) k g xs ss → Sat opsAt ρ (picks pairs opsAt k fo fr fc xs os).ops → Low τ (c + bit g * resumed start k ss + ε * tri k ss) (picks pairs opsAt k fo fr fc xs os).cursor
  unfolding picks resumed tri
  cur_low fo fr fc c os l t (nil {g = g}) s = low_up τ c (c + bit g * 0 + ε * 0) fc l (omega arith)
  cur_low fo fr fc c os l t (cons {k = k} {g = g} {x = x} {s = st} {xs = xs} {ss = ss} h hs) s =
      let a = and pairs opsAt x.stop x.status.failure os in
      let b = and pairs opsAt x.stop x.status.running a.ops in
      let y = g && blk start k st in
      let fc' = plus fc (scaled k b.form) in
      let s₂ : Sat opsAt ρ b.ops = back opsAt ρ (picks_grows opsAt (suc k) (plus fo a.form) (plus fr b.form) fc' xs b.ops) s in
      let m : Low τ (bit (y && is_running_status st) + ε) b.form = and_tight opsAt ρ τ ε le 0 x.stop x.status.running y (is_running_status st) a.ops t.0.stop t.0.run h.stop h.status.is_r s₂ in
      let i = cur_low (plus fo a.form) (plus fr b.form) fc' (c + k * (bit (y && is_running_status st) + ε)) b.ops
      (plus_low τ c (k * (bit (y && is_running_status st) + ε)) fc (scaled k b.form) l (scaled_low τ k (bit (y && is_running_status st) + ε) b.form m)) t.1 hs s in
      low_up τ (c + k * (bit (y && is_running_status st) + ε) + bit (g && not (blk start k st)) * resumed start (suc k) ss + ε * tri (suc k) ss) _ _ i
      (omega (arith, add_cur g (blk start k st) k (resumed start (suc k) ss) st))

  pub next_low : (c : Form) (ts : List StatusBits) {ss : List Status} (os : List Op) → Tights (lower_seq pairs opsAt c ts os).kids → Along start (R3 opsAt ρ start) 0 true (lower_seq pairs opsAt c ts os).kids ss
      → Sat opsAt ρ (lower_seq pairs opsAt c ts os).ops → Low τ (resumed start 0 ss + ε * tri 0 ss) (lower_seq pairs opsAt c ts os).cursor
  unfolding lower_seq
  next_low c ts {ss} os t h s =
      let z = constant 0 in
      let a = gates pairs opsAt c 0 ts os in
      let b = clears pairs opsAt z a.items a.ops in
      let d = stops pairs opsAt z b.items b.ops in
      low_up τ (0 + 1 * resumed start 0 ss + ε * tri 0 ss) (resumed start 0 ss + ε * tri 0 ss) (picks pairs opsAt 0 z z z d.items d.ops).cursor (cur_low z z z 0 d.ops (constant_low τ 0) t h s) (omega arith)

abbrev pub Idles : List Status → Type 0
Idles [] = Unit {0}
Idles (s ∷ ss) = (is_running_status s ≡ false) × Idles ss

-- from a second table, in which the cursor is past every child and nothing runs
module _ (opsAt : ℕ) (ρ : ℕ → ℕ) (start : ℕ) where
  zero_not_yes : (f : Form) → Bit ρ f false → known f ≡ Yes → ⊥
  zero_not_yes f h e = go (known f) (known_is opsAt ρ f 0 h) e
    where
      go : (k : Known) → KnownIs k 0 → k ≡ Yes → ⊥
      go Yes m e = omega arith
      go No m e = let x : ◌≡◌ {A = ℕ} 0 1 = cc in omega arith
      go Open m e = let x : ◌≡◌ {A = ℕ} 0 1 = cc in omega arith

  pub tight : {k : ℕ} {g : Bool} {xs : List ArbitratedChild} {ss : List Status} → k + length ss ≤ start → Idles ss → Along start (R3 opsAt ρ start) k g xs ss → Tights xs
  tight l i nil = tt
  tight l i (cons {k = k} {g = g} {x = x} {s = st} h hs) = (
    record { stop = zero_not_yes x.stop (rw (leb_yes (suc k) start (omega arith), and-false g) at h.stop); run = zero_not_yes x.status.running (rw i.0 at h.status.is_r) },
    tight (omega arith) i.1 hs,
  )
