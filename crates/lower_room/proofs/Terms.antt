-- How many terms lower_ordered makes, and how long its forms are.
use Prim.Native.Nat.{◌*◌, ◌+◌, ◌≤◌, suc, ℕ}
use native.Mathlib.Omega.{arith}
use mathlib.Core.Bool.{Bool, false, true}
use mathlib.Core.List.{List, [], ◌∷◌}
use mathlib.Core.Path.{◌≡◌, refl}
use lib.Dec.{eqb}
use lib.ListN.{length}
use Rattle.construct.proofs.Bits.{eq→eqb, is_true}
use Rattle.construct.specs.Builder.{and, and_at, at_least, at_least_at, is_zero, is_zero_at, not', or, or_at, push, relu, step}
use Rattle.construct.specs.Forms.{Known, No, Open, Yes}
use Rattle.construct.specs.Lower.{clears, gates, picks, stops}
use Rattle.construct.specs.Pairs.{Form, GatedChild, ClearedChild, ArbitratedChild, Op, Picked, StatusBits, constant, empty, known, known_at, len, offset, pairs, plus, scaled, wire'}
use Rattle.lower_room.proofs.Sets.{Ins, Set, card, minus_len, negate_len, not_len, plus_len, scaled_len}
use Rattle.lower_room.proofs.Rises.{Rises, at_least_rises, not_rises, or_rises}
use Rattle.lists.specs.Every.{All2, both, none}

unfoldable pub op_terms : List Op → ℕ
op_terms [] = 0
op_terms (o ∷ os) = len o.left + len o.gate + op_terms os

unfoldable pub sum_l : List ℕ → ℕ
sum_l [] = 0
sum_l (m ∷ ms) = m + sum_l ms

unfoldable pub sq_l : List ℕ → ℕ
sq_l [] = 0
sq_l (m ∷ ms) = m * m + sq_l ms

-- for each child, the sizes of those before it
unfoldable pub crossed : ℕ → List ℕ → ℕ
crossed a [] = 0
crossed a (m ∷ ms) = a + crossed (a + m) ms

module _ (opsAt : ℕ) where
  -- and
  and_cost_at : (t u : Known) (f g : Form) (os : List Op) → op_terms (and_at pairs opsAt t u f g os).ops ≤ op_terms os + len f + len g
  unfolding and_at push op_terms
  and_cost_at Yes u f g os = omega arith
  and_cost_at No Yes f g os = omega arith
  and_cost_at No No f g os = omega arith
  and_cost_at No Open f g os = omega arith
  and_cost_at Open Yes f g os = omega arith
  and_cost_at Open No f g os = omega arith
  and_cost_at Open Open f g os = omega arith

  pub and_cost : (f g : Form) (os : List Op) → op_terms (and pairs opsAt f g os).ops ≤ op_terms os + len f + len g
  unfolding and
  and_cost f g os = and_cost_at (known f) (known g) f g os

  and_len_at : (t u : Known) (f g : Form) (os : List Op) (a : ℕ) → len f + 1 ≤ a → len g + 1 ≤ a → 2 ≤ a → len (and_at pairs opsAt t u f g os).form + 1 ≤ a
  unfolding and_at push wire' constant
  and_len_at Yes u f g os a h k l = k
  and_len_at No Yes f g os a h k l = h
  and_len_at No No f g os a h k l = omega arith
  and_len_at No Open f g os a h k l = omega arith
  and_len_at Open Yes f g os a h k l = h
  and_len_at Open No f g os a h k l = omega arith
  and_len_at Open Open f g os a h k l = omega arith

  pub and_len : (f g : Form) (os : List Op) (a : ℕ) → len f + 1 ≤ a → len g + 1 ≤ a → 2 ≤ a → len (and pairs opsAt f g os).form + 1 ≤ a
  unfolding and
  and_len f g os a h k l = and_len_at (known f) (known g) f g os a h k l

  -- with a thin left form: what the op costs, and twice the result
  and_thin_at : (t u : Known) (f g : Form) (os : List Op) → len f ≤ 2 → op_terms (and_at pairs opsAt t u f g os).ops + 2 * len (and_at pairs opsAt t u f g os).form ≤ op_terms os + 2 * len g + 4
  unfolding and_at push wire' constant op_terms
  and_thin_at Yes u f g os h = omega arith
  and_thin_at No Yes f g os h = omega arith
  and_thin_at No No f g os h = omega arith
  and_thin_at No Open f g os h = omega arith
  and_thin_at Open Yes f g os h = omega arith
  and_thin_at Open No f g os h = omega arith
  and_thin_at Open Open f g os h = omega arith

  pub and_thin : (f g : Form) (os : List Op) → len f ≤ 2 → op_terms (and pairs opsAt f g os).ops + 2 * len (and pairs opsAt f g os).form ≤ op_terms os + 2 * len g + 4
  unfolding and
  and_thin f g os h = and_thin_at (known f) (known g) f g os h

  -- or
  pub open_len : (f g : Form) (os : List Op) → known f ≡ Open → known g ≡ Open → len (and pairs opsAt f g os).form ≡ 1
  unfolding and and_at push wire'
  open_len f g os e d = rw (e, d) refl

  or_cost_at : (t u : Known) (f g : Form) (os : List Op) → known f ≡ t → known g ≡ u
      → (op_terms (or_at pairs opsAt t u f g os).ops ≤ op_terms os + len f + len g) × (len (or_at pairs opsAt t u f g os).form ≤ len f + len g + 1)
  unfolding or_at constant
  or_cost_at Yes u f g os e d = (omega arith, omega arith)
  or_cost_at No Yes f g os e d = (omega arith, omega arith)
  or_cost_at No No f g os e d = (omega arith, omega arith)
  or_cost_at No Open f g os e d = (omega arith, omega arith)
  or_cost_at Open Yes f g os e d = (omega arith, omega arith)
  or_cost_at Open No f g os e d = (omega arith, omega arith)
  or_cost_at Open Open f g os e d = (and_cost f g os, omega (arith, minus_len (plus f g) (and pairs opsAt f g os).form, plus_len f g, open_len f g os e d))

  pub or_cost : (f g : Form) (os : List Op) → (op_terms (or pairs opsAt f g os).ops ≤ op_terms os + len f + len g) × (len (or pairs opsAt f g os).form ≤ len f + len g + 1)
  unfolding or
  or_cost f g os = or_cost_at (known f) (known g) f g os refl refl

  -- is_zero, at_least
  pub is_zero_cost : (t : Known) (c : Form) (os : List Op) → (op_terms (is_zero_at pairs opsAt t c os).ops ≤ op_terms os + len c) × (len (is_zero_at pairs opsAt t c os).form ≤ 1)
  unfolding is_zero_at relu push op_terms constant wire' offset
  is_zero_cost No c os = (omega arith, omega arith)
  is_zero_cost Yes c os = (omega arith, omega arith)
  is_zero_cost Open c os = (omega (arith, negate_len c), omega arith)

  pub at_least_cost : (t : Known) (c : Form) (k : ℕ) (os : List Op) → len c ≤ 1 → (op_terms (at_least_at pairs opsAt t c k os).ops ≤ op_terms os + 2) × (len (at_least_at pairs opsAt t c k os).form ≤ 2)
  unfolding at_least_at step relu push op_terms constant wire' offset
  at_least_cost No c k os h = (omega arith, omega arith)
  at_least_cost Yes c k os h = (omega arith, omega arith)
  at_least_cost Open c k os h = (omega arith, minus_len (wire' (opsAt + length os)) (wire' (opsAt + suc (length os))))

-- a status triple of a subtree of m nodes
pub record BitsFit (t : StatusBits) (m : ℕ) : Type 0 where
  pub pos : 1 ≤ m
  pub set : Set
  pub small : (n : ℕ) → card n set + 2 ≤ 4 * m
  pub in_s : Ins set t.success.terms
  pub in_f : Ins set t.failure.terms
  pub rise_s : Rises t.success
  pub rise_f : Rises t.failure
  pub len_s : len t.success + 3 ≤ 4 * m
  pub len_f : len t.failure + 3 ≤ 4 * m
  pub len_r : len t.running ≤ m
  pub zero_r : t.running.bp ≡ t.running.bn

pub record K1 (x : GatedChild) (m : ℕ) : Type 0 where
  pub status : BitsFit x.status m
  pub before : len x.before ≤ 2
  pub blocked : len x.blocked ≤ 4 * m
  pub rise : Rises x.blocked

pub record K2 (x : ClearedChild) (m : ℕ) : Type 0 where
  pub child : K1 x.child m
  pub clear : len x.clear ≤ 1

pub record K3 (x : ArbitratedChild) (m : ℕ) : Type 0 where
  pub status : BitsFit x.status m
  pub reach : len x.reach ≤ 2
  pub stop : len x.stop ≤ 4 * m

-- what reach will pay for the children
unfoldable pub afters : List ArbitratedChild → ℕ
afters [] = 0
afters (x ∷ xs) = 2 * len x.after_stop + 11 + afters xs

module _ (opsAt : ℕ) where
  pub gates_cost : (c : Form) (k : ℕ) {ts : List StatusBits} {ms : List ℕ} (os : List Op) → len c ≤ 1 → All2 BitsFit ts ms
      → (op_terms (gates pairs opsAt c k ts os).ops ≤ op_terms os + 6 * sum_l ms) × All2 K1 (gates pairs opsAt c k ts os).items ms
  unfolding gates at_least sum_l
  gates_cost c k os l none = (omega arith, none)
  gates_cost c k os l (both {a = t} {b = m} {xs = ts} {ys = ms} h hs) =
      let o₁ = at_least pairs opsAt c (suc k) os in
      let o₂ = or pairs opsAt o₁.form t.success o₁.ops in
      let a = at_least_cost opsAt (known c) c (suc k) os l in
      let b = or_cost opsAt o₁.form t.success o₁.ops in
      let r = gates_cost c (suc k) o₂.ops l hs in
      let bl : len (not' pairs o₂.form) ≤ 4 * m = omega (arith, not_len o₂.form, b.1, a.1, h.len_s) in
      let ri = not_rises o₂.form (or_rises opsAt o₁.form t.success o₁.ops (at_least_rises opsAt c (suc k) os) h.rise_s) in
      (omega (arith, a.0, a.1, b.0, r.0, h.len_s), both (record { status = h; before = a.1; blocked = bl; rise = ri }) r.1)

  pub clears_cost : (p : Form) (a : ℕ) {xs : List GatedChild} {ms : List ℕ} (os : List Op) → len p ≤ 4 * a → All2 K1 xs ms
      → (op_terms (clears pairs opsAt p xs os).ops ≤ op_terms os + 4 * crossed a ms) × All2 K2 (clears pairs opsAt p xs os).items ms
  unfolding clears is_zero crossed
  clears_cost p a os l none = (omega arith, none)
  clears_cost p a os l (both {a = x} {b = m} {xs = xs} {ys = ms} h hs) =
      let z = is_zero_cost opsAt (known p) p os in
      let r = clears_cost (plus p x.blocked) (a + m) (is_zero pairs opsAt p os).ops (omega (arith, plus_len p x.blocked, h.blocked)) hs in
      (omega (arith, z.0, r.0), both (record { child = h; clear = z.1 }) r.1)

  pub stops_cost : (p : Form) (a : ℕ) {xs : List ClearedChild} {ms : List ℕ} (os : List Op) → len p ≤ 4 * a → All2 K2 xs ms
      → (op_terms (stops pairs opsAt p xs os).ops ≤ op_terms os + 6 * sum_l ms + 3 * length ms) × All2 K3 (stops pairs opsAt p xs os).items ms
      × (afters (stops pairs opsAt p xs os).items ≤ 8 * crossed a ms + 11 * length ms)
  unfolding stops sum_l crossed afters
  stops_cost p a os l none = (omega arith, none, omega arith)
  stops_cost p a os l (both {a = x} {b = m} {xs = xs} {ys = ms} h hs) =
      let o₁ = and pairs opsAt x.clear (not' pairs x.child.before) os in
      let o₂ = and pairs opsAt x.clear x.child.blocked o₁.ops in
      let b₁ = h.child.before in
      let b₂ = h.child.blocked in
      let c = h.clear in
      let n = not_len x.child.before in
      let q = h.child.status.pos in
      let e₁ = and_cost opsAt x.clear (not' pairs x.child.before) os in
      let e₂ = and_cost opsAt x.clear x.child.blocked o₁.ops in
      let l₁ = and_len opsAt x.clear (not' pairs x.child.before) os 3 (omega arith) (omega arith) (omega arith) in
      let l₂ = and_len opsAt x.clear x.child.blocked o₁.ops (4 * m + 1) (omega arith) (omega arith) (omega arith) in
      let r = stops_cost (plus p o₂.form) (a + m) o₂.ops (omega (arith, plus_len p o₂.form, l₂)) hs in
      let re : len o₁.form ≤ 2 = omega (arith, l₁) in
      let st : len o₂.form ≤ 4 * m = omega (arith, l₂) in
      (omega (arith, e₁, e₂, r.0), both (record { status = h.child.status; reach = re; stop = st }) r.1, omega (arith, r.2))

abbrev pub NotYes : Known → Type 0
NotYes Yes = ⊥
NotYes No = Unit {0}
NotYes Open = Unit {0}

pub not_yes : (f : Form) → f.bp ≡ f.bn → NotYes (known f)
unfolding known known_at
not_yes f e = rw (is_true (eqb f.bp f.bn) (eq→eqb f.bp f.bn e)) (go (empty f.terms))
  where
    go : (b : Bool) → NotYes (known_at b true)
    go true = tt
    go false = tt

module _ (opsAt : ℕ) where
  -- the running pick
  and_run_at : (t u : Known) (f g : Form) (os : List Op) (m : ℕ) → NotYes u → 1 ≤ m → len g ≤ m → g.bp ≡ g.bn
      → (len (and_at pairs opsAt t u f g os).form ≤ m) × ((and_at pairs opsAt t u f g os).form.bp ≡ (and_at pairs opsAt t u f g os).form.bn)
  unfolding and_at push wire' constant
  and_run_at Yes u f g os m y l h z = (h, z)
  and_run_at No Yes f g os m y l h z = absurd y
  and_run_at No No f g os m y l h z = (omega arith, refl)
  and_run_at No Open f g os m y l h z = (omega arith, refl)
  and_run_at Open Yes f g os m y l h z = absurd y
  and_run_at Open No f g os m y l h z = (omega arith, refl)
  and_run_at Open Open f g os m y l h z = (omega arith, refl)

  pub and_run : (f g : Form) (os : List Op) (m : ℕ) → 1 ≤ m → len g ≤ m → g.bp ≡ g.bn
      → (len (and pairs opsAt f g os).form ≤ m) × ((and pairs opsAt f g os).form.bp ≡ (and pairs opsAt f g os).form.bn)
  unfolding and
  and_run f g os m l h z = and_run_at (known f) (known g) f g os m (not_yes g z) l h z

  plus_zero : (f g : Form) → f.bp ≡ f.bn → g.bp ≡ g.bn → (plus f g).bp ≡ (plus f g).bn
  unfolding plus
  plus_zero f g p q = omega arith

  pub record PickCost (a b : ℕ) (ms : List ℕ) (os : List Op) (p : Picked) : Type 0 where
    pub cost : op_terms p.ops ≤ op_terms os + 19 * sum_l ms
    pub run : len p.run ≤ a + sum_l ms
    pub zero_run : p.run.bp ≡ p.run.bn
    pub cursor : len p.cursor ≤ b + sum_l ms

  pub picks_cost : (k : ℕ) (o r c : Form) (a b : ℕ) {xs : List ArbitratedChild} {ms : List ℕ} (os : List Op) → len r ≤ a → r.bp ≡ r.bn → len c ≤ b → All2 K3 xs ms
      → PickCost a b ms os (picks pairs opsAt k o r c xs os)
  unfolding picks sum_l
  picks_cost k o r c a b os lr z lc none = record { cost = omega arith; run = omega arith; zero_run = z; cursor = omega arith }
  picks_cost k o r c a b os lr z lc (both {a = x} {b = m} {xs = xs} {ys = ms} h hs) =
      let o₁ = and pairs opsAt x.stop x.status.failure os in
      let o₂ = and pairs opsAt x.stop x.status.running o₁.ops in
      let t = h.status in
      let s = h.stop in
      let e₁ = and_cost opsAt x.stop x.status.failure os in
      let e₂ = and_cost opsAt x.stop x.status.running o₁.ops in
      let g = and_run x.stop x.status.running o₁.ops m t.pos t.len_r t.zero_r in
      let i = picks_cost (suc k) (plus o o₁.form) (plus r o₂.form) (plus c (scaled k o₂.form)) (a + m) (b + m) o₂.ops
      (omega (arith, plus_len r o₂.form, g.0)) (plus_zero r o₂.form z g.1) (omega (arith, plus_len c (scaled k o₂.form), scaled_len k o₂.form, g.0)) hs in
      record { cost = omega (arith, i.cost, e₁, e₂, t.len_f, t.len_r); run = omega (arith, i.run); zero_run = i.zero_run; cursor = omega (arith, i.cursor) }
