-- lower_ordered for a composite that advances on success, over any number of children.
use Prim.Native.Nat.{◌*◌, ◌+◌, suc, ℕ}
use native.Mathlib.Omega.{arith}
use mathlib.Core.Bool.{Bool, not-not, ◌&&◌, ◌||◌, and-false, and-true, not, true}
use mathlib.Core.List.{List, [], ◌∷◌}
use mathlib.Core.Path.{◌∙◌, ◌≡◌, refl}
use lib.Dec.{leb}
use Rattle.construct.proofs.Bits.{add_cur, add_oth, add_run, after_step, clear_step, end_step, is_z}
use Rattle.construct.proofs.Builds.{Grows, Sat, after, and_grows, and_val, at_least_grows, at_least_val, back, is_zero_grows, is_zero_val, not_val, or_grows, or_val, same}
use Rattle.construct.proofs.ListWalk.{blk, resumed, walked}
use Rattle.construct.proofs.Values.{constant_val, plus_val, scaled_val}
use Rattle.construct.specs.Builder.{and, at_least, is_zero, not', or}
use Rattle.construct.specs.Lower.{clears, gates, lower_seq, picks, stops, total}
use Rattle.construct.specs.Pairs.{Form, GatedChild, ClearedChild, ArbitratedChild, Op, Ordered, Picked, StatusBits, constant, pairs, plus, scaled}
use Rattle.construct.specs.Value.{Bit, BitsAre, Val}
use Rattle.walk.specs.Kind.{bit}
use Rattle.walk.specs.Status.{Status, is_failure, is_running_status, is_success}
use Rattle.walk.specs.Walk.{status}

-- the op list only grows
module _ (opsAt : ℕ) where
  pub gates_grows : (c : Form) (k : ℕ) (ts : List StatusBits) (os : List Op) → Grows os (gates pairs opsAt c k ts os).ops
  unfolding gates
  gates_grows c k [] os = same
  gates_grows c k (t ∷ ts) os = after (after (at_least_grows opsAt c (suc k) os) (or_grows opsAt _ t.success _)) (gates_grows c (suc k) ts _)

  pub clears_grows : (p : Form) (xs : List GatedChild) (os : List Op) → Grows os (clears pairs opsAt p xs os).ops
  unfolding clears
  clears_grows p [] os = same
  clears_grows p (x ∷ xs) os = after (is_zero_grows opsAt p os) (clears_grows (plus p x.blocked) xs _)

  pub stops_grows : (p : Form) (xs : List ClearedChild) (os : List Op) → Grows os (stops pairs opsAt p xs os).ops
  unfolding stops
  stops_grows p [] os = same
  stops_grows p (x ∷ xs) os = after (after (and_grows opsAt _ _ os) (and_grows opsAt _ _ _))
      (stops_grows (plus p (and pairs opsAt x.clear x.child.blocked (and pairs opsAt x.clear (not' pairs x.child.before) os).ops).form) xs _)

  pub picks_grows : (k : ℕ) (o r c : Form) (xs : List ArbitratedChild) (os : List Op) → Grows os (picks pairs opsAt k o r c xs os).ops
  unfolding picks
  picks_grows k o r c [] os = same
  picks_grows k o r c (x ∷ xs) os = after (after (and_grows opsAt _ _ os) (and_grows opsAt _ _ _)) (picks_grows (suc k) _ _ _ xs _)

  pub lower_grows : (c : Form) (ts : List StatusBits) (os : List Op) → Grows os (lower_seq pairs opsAt c ts os).ops
  unfolding lower_seq
  lower_grows c ts os = after (after (after (gates_grows c 0 ts os) (clears_grows _ _ _)) (stops_grows _ _ _)) (picks_grows 0 _ _ _ _ _)

-- a list of things, one a child, held against the walk: k is the child's position, and g says that no child before it stopped the walk
pub data Along {X : Type 0} (start : ℕ) (R : ℕ → Bool → X → Status → Type 0) : ℕ → Bool → List X → List Status → Type 0 where
  nil : {k : ℕ} {g : Bool} → Along start R k g [] []
  cons : {k : ℕ} {g : Bool} {x : X} {s : Status} {xs : List X} {ss : List Status}
      → R k g x s → Along start R (suc k) (g && not (blk start k s)) xs ss → Along start R k g (x ∷ xs) (s ∷ ss)

abbrev pub Given : (ℕ → ℕ) → ℕ → Bool → StatusBits → Status → Type 0
Given ρ k g t s = BitsAre ρ t s

module _ (opsAt : ℕ) (ρ : ℕ → ℕ) (start : ℕ) where
  record R1 (k : ℕ) (g : Bool) (x : GatedChild) (st : Status) : Type 0 where
    status : BitsAre ρ x.status st
    before : Bit ρ x.before (leb (suc k) start)
    blocked : Bit ρ x.blocked (blk start k st)

  record R2 (k : ℕ) (g : Bool) (x : ClearedChild) (st : Status) : Type 0 where
    child : R1 k g x.child st
    clear : Bit ρ x.clear g

  pub record R3 (k : ℕ) (g : Bool) (x : ArbitratedChild) (st : Status) : Type 0 where
    pub status : BitsAre ρ x.status st
    pub reach : Bit ρ x.reach (g && not (leb (suc k) start))
    pub stop : Bit ρ x.stop (g && blk start k st)
    pub after_stop : Bit ρ x.after_stop (not g)

  gates_val : (c : Form) {k : ℕ} {g : Bool} {ts : List StatusBits} {ss : List Status} (os : List Op) → Val ρ c start → Along start (Given ρ) k g ts ss
      → Sat opsAt ρ (gates pairs opsAt c k ts os).ops → Along start R1 k g (gates pairs opsAt c k ts os).items ss
  unfolding gates
  gates_val c os v nil s = nil
  gates_val c os v (cons {k = k} {g = g} {x = t} {s = st} {xs = ts} h hs) s =
      let later = at_least pairs opsAt c (suc k) os in
      let pass = or pairs opsAt later.form t.success later.ops in
      let s₂ : Sat opsAt ρ pass.ops = back opsAt ρ (gates_grows opsAt c (suc k) ts pass.ops) s in
      let s₁ : Sat opsAt ρ later.ops = back opsAt ρ (or_grows opsAt later.form t.success later.ops) s₂ in
      let b : Bit ρ later.form (leb (suc k) start) = at_least_val opsAt ρ c (suc k) start os v s₁ in
      let p : Bit ρ pass.form (leb (suc k) start || is_success st) = or_val opsAt ρ later.form t.success (leb (suc k) start) (is_success st) later.ops b h.is_s s₂ in
      cons (record { status = h; before = b; blocked = not_val opsAt ρ pass.form (leb (suc k) start || is_success st) p })
      (gates_val c pass.ops v hs s)

  clears_val : (pre : Form) (n : ℕ) {k : ℕ} {g : Bool} {xs : List GatedChild} {ss : List Status} (os : List Op) → Val ρ pre n → is_z n ≡ g → Along start R1 k g xs ss
      → Sat opsAt ρ (clears pairs opsAt pre xs os).ops → Along start R2 k g (clears pairs opsAt pre xs os).items ss
  unfolding clears
  clears_val pre n os v e nil s = nil
  clears_val pre n os v e (cons {k = k} {g = g} {x = x} {s = st} {xs = xs} h hs) s =
      let z = is_zero pairs opsAt pre os in
      let s₁ : Sat opsAt ρ z.ops = back opsAt ρ (clears_grows opsAt (plus pre x.blocked) xs z.ops) s in
      cons (record { child = h; clear = rw e at (is_zero_val opsAt ρ pre n os v s₁) })
      (clears_val (plus pre x.blocked) (n + bit (blk start k st)) z.ops
      (plus_val ρ pre x.blocked n (bit (blk start k st)) v h.blocked)
      (clear_step n (blk start k st) ∙ rw e refl) hs s)

  stops_val : (acc : Form) {k : ℕ} {g : Bool} {xs : List ClearedChild} {ss : List Status} (os : List Op) → Bit ρ acc (not g) → Along start R2 k g xs ss
      → Sat opsAt ρ (stops pairs opsAt acc xs os).ops → Along start R3 k g (stops pairs opsAt acc xs os).items ss
  unfolding stops
  stops_val acc os v nil s = nil
  stops_val acc os v (cons {k = k} {g = g} {x = x} {s = st} {xs = xs} h hs) s =
      let r = and pairs opsAt x.clear (not' pairs x.child.before) os in
      let p = and pairs opsAt x.clear x.child.blocked r.ops in
      let acc' = plus acc p.form in
      let s₂ : Sat opsAt ρ p.ops = back opsAt ρ (stops_grows opsAt acc' xs p.ops) s in
      let s₁ : Sat opsAt ρ r.ops = back opsAt ρ (and_grows opsAt x.clear x.child.blocked r.ops) s₂ in
      let br : Bit ρ r.form (g && not (leb (suc k) start)) = and_val opsAt ρ x.clear (not' pairs x.child.before) g (not (leb (suc k) start)) os h.clear
      (not_val opsAt ρ x.child.before (leb (suc k) start) h.child.before) s₁ in
      let bp : Bit ρ p.form (g && blk start k st) = and_val opsAt ρ x.clear x.child.blocked g (blk start k st) r.ops h.clear h.child.blocked s₂ in
      cons (record { status = h.child.status; reach = br; stop = bp; after_stop = v })
      (stops_val acc' p.ops (rw (after_step g (blk start k st)) at (plus_val ρ acc p.form (bit (not g)) (bit (g && blk start k st)) v bp)) hs s)

  total_val : (acc : Form) {k : ℕ} {g : Bool} {xs : List ArbitratedChild} {ss : List Status} → Bit ρ acc (not g) → Along start R3 k g xs ss
      → Bit ρ (total pairs acc xs) (not (g && is_success (walked start k ss)))
  unfolding total walked
  total_val acc v (nil {g = g}) = rw (and-true g) v
  total_val acc v (cons {k = k} {g = g} {x = x} {s = st} {ss = ss} h hs) =
      rw (← end_step g (leb (suc k) start) st (walked start (suc k) ss))
      (total_val (plus acc x.stop) (rw (after_step g (blk start k st)) at (plus_val ρ acc x.stop (bit (not g)) (bit (g && blk start k st)) v h.stop)) hs)

  pub record Picks (o : ℕ) (r : ℕ) (c : ℕ) (g : Bool) (st : Status) (n : ℕ) (p : Picked) : Type 0 where
    pub other : Val ρ p.other (o + bit (g && is_failure st))
    pub run : Val ρ p.run (r + bit (g && is_running_status st))
    pub cursor : Val ρ p.cursor (c + bit g * n)

  picks_val : (fo fr fc : Form) (o r c : ℕ) {k : ℕ} {g : Bool} {xs : List ArbitratedChild} {ss : List Status} (os : List Op) → Val ρ fo o → Val ρ fr r → Val ρ fc c
      → Along start R3 k g xs ss → Sat opsAt ρ (picks pairs opsAt k fo fr fc xs os).ops
      → Picks o r c g (walked start k ss) (resumed start k ss) (picks pairs opsAt k fo fr fc xs os)
  unfolding picks walked resumed
  picks_val fo fr fc o r c os vo vr vc (nil {g = g}) s = record { other = rw (and-false g) (omega arith); run = rw (and-false g) (omega arith); cursor = omega arith }
  picks_val fo fr fc o r c os vo vr vc (cons {k = k} {g = g} {x = x} {s = st} {xs = xs} {ss = ss} h hs) s =
      let a = and pairs opsAt x.stop x.status.failure os in
      let b = and pairs opsAt x.stop x.status.running a.ops in
      let q : Bool = g && blk start k st in
      let s₂ : Sat opsAt ρ b.ops = back opsAt ρ (picks_grows opsAt (suc k) (plus fo a.form) (plus fr b.form) (plus fc (scaled k b.form)) xs b.ops) s in
      let s₁ : Sat opsAt ρ a.ops = back opsAt ρ (and_grows opsAt x.stop x.status.running a.ops) s₂ in
      let va : Bit ρ a.form (q && is_failure st) = and_val opsAt ρ x.stop x.status.failure q (is_failure st) os h.stop h.status.is_f s₁ in
      let vb : Bit ρ b.form (q && is_running_status st) = and_val opsAt ρ x.stop x.status.running q (is_running_status st) a.ops h.stop h.status.is_r s₂ in
      let i = picks_val (plus fo a.form) (plus fr b.form) (plus fc (scaled k b.form))
      (o + bit (q && is_failure st)) (r + bit (q && is_running_status st)) (c + k * bit (q && is_running_status st)) b.ops
      (plus_val ρ fo a.form o (bit (q && is_failure st)) vo va) (plus_val ρ fr b.form r (bit (q && is_running_status st)) vr vb)
      (plus_val ρ fc (scaled k b.form) c (k * bit (q && is_running_status st)) vc (scaled_val ρ k b.form (bit (q && is_running_status st)) vb)) hs s in
      record {
        other = omega (arith, i.other, add_oth g (blk start k st) st (walked start (suc k) ss));
        run = omega (arith, i.run, add_run g (blk start k st) st (walked start (suc k) ss));
        cursor = omega (arith, i.cursor, add_cur g (blk start k st) k (resumed start (suc k) ss) st);
      }

  -- lower_ordered: the status bits, each child's reach, stop and after_stop, and the next cursor
  pub record Lowered (o : Ordered) (ss : List Status) : Type 0 where
    pub status : BitsAre ρ o.status (walked start 0 ss)
    pub kids : Along start R3 0 true o.kids ss
    pub cursor : Val ρ o.cursor (resumed start 0 ss)

  pub lower_val : (c : Form) {ts : List StatusBits} {ss : List Status} (os : List Op) → Val ρ c start → Along start (Given ρ) 0 true ts ss
      → Sat opsAt ρ (lower_seq pairs opsAt c ts os).ops → Lowered (lower_seq pairs opsAt c ts os) ss
  unfolding lower_seq
  lower_val c {ts} {ss} os v h s =
      let z = constant 0 in
      let a = gates pairs opsAt c 0 ts os in
      let b = clears pairs opsAt z a.items a.ops in
      let d = stops pairs opsAt z b.items b.ops in
      let v0 : Val ρ z 0 = constant_val ρ 0 in
      let s₃ : Sat opsAt ρ d.ops = back opsAt ρ (picks_grows opsAt 0 z z z d.items d.ops) s in
      let s₂ : Sat opsAt ρ b.ops = back opsAt ρ (stops_grows opsAt z b.items b.ops) s₃ in
      let s₁ : Sat opsAt ρ a.ops = back opsAt ρ (clears_grows opsAt z a.items a.ops) s₂ in
      let h₁ = gates_val c os v h s₁ in
      let h₂ = clears_val z 0 a.ops v0 refl h₁ s₂ in
      let h₃ = stops_val z b.ops v0 h₂ s₃ in
      let p = picks_val z z z 0 0 0 d.ops v0 v0 v0 h₃ s in
      record {
        status = record {
          is_s = rw (← not-not (is_success (walked start 0 ss))) (not_val opsAt ρ (total pairs z d.items) (not (is_success (walked start 0 ss))) (total_val z v0 h₃));
          is_f = omega (arith, p.other);
          is_r = omega (arith, p.run);
        };
        kids = h₃;
        cursor = omega (arith, p.cursor);
      }
