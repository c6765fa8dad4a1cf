-- How long a composite's status is. The stops' sum and the other pick have their wires in one set. A stop has more than one term only where the
-- sum of the blocked bits before it has none: then what that sum had from the stop before is gone, and as many terms have paid for it.
--
use Prim.Native.Nat.{◌*◌, ◌+◌, ◌≤◌, suc, ℕ}
use native.Mathlib.Omega.{arith}
use mathlib.Core.Bool.{Bool}
use mathlib.Core.List.{List, [], ◌∷◌}
use mathlib.Core.Path.{◌∙◌, ◌≡◌, refl, sym}
use lib.Dec.{eqb}
use lib.ListN.{length}
use Rattle.construct.proofs.Builds.{wire_open}
use Rattle.construct.specs.Builder.{and, and_at, is_zero, is_zero_at, not', push, relu}
use Rattle.construct.specs.Forms.{Known, No, Open, Yes}
use Rattle.construct.specs.Lower.{clears, picks, stops, total}
use Rattle.construct.specs.Pairs.{Form, GatedChild, ClearedChild, ArbitratedChild, Op, Term, constant, empty, known, known_at, len, pairs, plus, scaled, wire'}
use Rattle.lower_room.proofs.Rises.{Rises, plus_least, plus_least_right, plus_rises}
use Rattle.lower_room.proofs.Sets.{Ins, Set, ◌∪◌, card, in_left, in_none, in_right, nothing, nothing_card, own, own_card, own_in, plus_in_lem, single, single_card, union_card, wire_in_lem}
use Rattle.lower_room.proofs.Terms.{K1, K3, is_zero_cost, sum_l}
use Rattle.lists.specs.Every.{All2, both, none}

yes_no : Yes ≡ No → ⊥
yes_no e = let q : ◌≡◌ {A = ℕ} 0 1 = cc in absurd (omega arith)

pub yes_open : Yes ≡ Open → ⊥
yes_open e = let q : ◌≡◌ {A = ℕ} 0 1 = cc in absurd (omega arith)

no_open : No ≡ Open → ⊥
no_open e = let q : ◌≡◌ {A = ℕ} 0 1 = cc in absurd (omega arith)

pub no_terms_lem : (t : Known) (f : Form) → known f ≡ t → (t ≡ Open → ⊥) → len f ≡ 0
unfolding known known_at empty
no_terms_lem t f e k = go f.terms (eqb f.bp f.bn) e
  where
    go : (ts : List Term) (b : Bool) → known_at (empty ts) b ≡ t → length ts ≡ 0
    go [] b e = refl
    go (u ∷ ts) b e = absurd (k (sym e))

zero_known : known (constant 0) ≡ No
unfolding known known_at empty constant
zero_known = refl

-- ---- none earlier

module _ (opsAt : ℕ) where
  -- the sum of the blocked bits is the constant 0 where none is surely earlier
  clear_at : (t : Known) (p : Form) (os : List Op) → known p ≡ t → known (is_zero_at pairs opsAt t p os).form ≡ Yes → len p ≡ 0
  unfolding is_zero_at relu push
  clear_at No p os e k = no_terms_lem No p e no_open
  clear_at Yes p os e k = absurd (yes_no (sym k ∙ zero_known))
  clear_at Open p os e k = absurd (yes_open (sym k ∙ wire_open (opsAt + length os)))

  clear_yes : (p : Form) (os : List Op) → known (is_zero pairs opsAt p os).form ≡ Yes → len p ≡ 0
  unfolding is_zero
  clear_yes p os k = clear_at (known p) p os refl k

  -- the children after none_earlier; P is how many terms the sum of the blocked bits before them has
  pub data Cleared : ℕ → List ClearedChild → List ℕ → Type 0 where
    cnil : {P : ℕ} → Cleared P [] []
    ccons : {P Q m : ℕ} {x : ClearedChild} {xs : List ClearedChild} {ms : List ℕ} → K1 x.child m → len x.clear ≤ 1 → (known x.clear ≡ Yes → P ≡ 0) → P ≤ Q + len x.child.blocked → len x.child.blocked ≤ Q + P
        → Cleared Q xs ms → Cleared P (x ∷ xs) (m ∷ ms)

  pub clears_traced : (p : Form) {xs : List GatedChild} {ms : List ℕ} (os : List Op) → Rises p → All2 K1 xs ms → Cleared (len p) (clears pairs opsAt p xs os).items ms
  unfolding clears is_zero
  clears_traced p os r none = cnil
  clears_traced p os r (both {a = x} h hs) =
      let z = is_zero pairs opsAt p os in
      ccons h (is_zero_cost opsAt (known p) p os).1 (clear_yes p os) (plus_least p x.blocked r) (plus_least_right p x.blocked) (clears_traced (plus p x.blocked) z.ops (plus_rises p x.blocked r h.rise) hs)

  -- ---- stops

  -- a stop: one term at most, and not surely so; or as many as its blocked bit, where P is 0
  pub data Stopped (P b : ℕ) (f : Form) : Type 0 where
    short : len f ≤ 1 → (known f ≡ Yes → ⊥) → Stopped P b f
    long : len f ≤ b → P ≡ 0 → Stopped P b f

  stop_at : (t u : Known) (P : ℕ) (f g : Form) (os : List Op) → known f ≡ t → len f ≤ 1 → (known f ≡ Yes → P ≡ 0) → Stopped P (len g) (and_at pairs opsAt t u f g os).form
  unfolding and_at push
  stop_at Yes u P f g os e l z = long (omega arith) (z e)
  stop_at No Yes P f g os e l z = short l (λ k. yes_no (sym k ∙ e))
  stop_at No No P f g os e l z = short (unfold constant in omega arith) (λ k. yes_no (sym k ∙ zero_known))
  stop_at No Open P f g os e l z = short (unfold constant in omega arith) (λ k. yes_no (sym k ∙ zero_known))
  stop_at Open Yes P f g os e l z = short l (λ k. yes_open (sym k ∙ e))
  stop_at Open No P f g os e l z = short (unfold constant in omega arith) (λ k. yes_no (sym k ∙ zero_known))
  stop_at Open Open P f g os e l z = short (unfold wire' in omega arith) (λ k. yes_open (sym k ∙ wire_open (opsAt + length os)))

  stop_of : (P : ℕ) (f g : Form) (os : List Op) → len f ≤ 1 → (known f ≡ Yes → P ≡ 0) → Stopped P (len g) (and pairs opsAt f g os).form
  unfolding and
  stop_of P f g os l z = stop_at (known f) (known g) P f g os refl l z

  pub data Traced : ℕ → List ArbitratedChild → List ℕ → Type 0 where
    tnil : {P : ℕ} → Traced P [] []
    tcons : {P Q b m : ℕ} {x : ArbitratedChild} {xs : List ArbitratedChild} {ms : List ℕ} → b ≤ 4 * m → P ≤ Q + b → b ≤ Q + P → Stopped P b x.stop → Traced Q xs ms → Traced P (x ∷ xs) (m ∷ ms)

  pub stops_traced : {P : ℕ} (acc : Form) {xs : List ClearedChild} {ms : List ℕ} (os : List Op) → Cleared P xs ms → Traced P (stops pairs opsAt acc xs os).items ms
  unfolding stops
  stops_traced acc os cnil = tnil
  stops_traced {P = P} acc os (ccons {x = x} k l z s s' hs) =
      let o₁ = and pairs opsAt x.clear (not' pairs x.child.before) os in
      let o₂ = and pairs opsAt x.clear x.child.blocked o₁.ops in
      tcons k.blocked s s' (stop_of P x.clear x.child.blocked o₁.ops l z) (stops_traced (plus acc o₂.form) o₂.ops hs)

  -- ---- a stop and its other pick, in one set

  -- where the stop is sure the pick is the child's own bit
  record Both (x : ArbitratedChild) (g : Form) (m : ℕ) : Type 0 where
    set : Set
    stop : Ins set x.stop.terms
    pick : Ins set g.terms
    sure : known x.stop ≡ Yes → (n : ℕ) → card n set ≤ 4 * m
    else : (known x.stop ≡ Yes → ⊥) → (n : ℕ) → card n set ≤ len x.stop + 1

  both_at : (t u : Known) (x : ArbitratedChild) (m : ℕ) (os : List Op) → known x.stop ≡ t → K3 x m → Both x (and_at pairs opsAt t u x.stop x.status.failure os).form m
  unfolding and_at push constant wire'
  both_at Yes u x m os e h = record {
    set = h.status.set;
    stop = in_none h.status.set x.stop.terms (no_terms_lem Yes x.stop e yes_open);
    pick = h.status.in_f;
    sure = λ k n. omega (arith, h.status.small n);
    else = λ k n. absurd (k e);
  }
  both_at No u x m os e h =
      let q = own x.stop.terms in
      record {
        set = q;
        stop = own_in x.stop.terms;
        pick = go u;
        sure = λ k n. absurd (yes_no (sym k ∙ e));
        else = λ k n. omega (arith, own_card n x.stop.terms);
      }
    where
      go : (u : Known) → Ins (own x.stop.terms) (and_at pairs opsAt No u x.stop x.status.failure os).form.terms
      go Yes = own_in x.stop.terms
      go No = tt
      go Open = tt
  both_at Open Yes x m os e h = record {
    set = own x.stop.terms;
    stop = own_in x.stop.terms;
    pick = own_in x.stop.terms;
    sure = λ k n. absurd (yes_open (sym k ∙ e));
    else = λ k n. omega (arith, own_card n x.stop.terms);
  }
  both_at Open No x m os e h = record {
    set = own x.stop.terms;
    stop = own_in x.stop.terms;
    pick = tt;
    sure = λ k n. absurd (yes_open (sym k ∙ e));
    else = λ k n. omega (arith, own_card n x.stop.terms);
  }
  both_at Open Open x m os e h =
      let p = own x.stop.terms in
      let w = opsAt + length os in
      record {
        set = p ∪ single w;
        stop = in_left p (single w) x.stop.terms (own_in x.stop.terms);
        pick = in_right p (single w) (wire' w).terms (wire_in_lem w);
        sure = λ k n. absurd (yes_open (sym k ∙ e));
        else = λ k n. omega (arith, own_card n x.stop.terms, union_card n p (single w), single_card n w);
      }

  both_of : (x : ArbitratedChild) (m : ℕ) (os : List Op) → K3 x m → Both x (and pairs opsAt x.stop x.status.failure os).form m
  unfolding and
  both_of x m os h = both_at (known x.stop) (known x.status.failure) x m os refl h

  -- ---- the account of the terms c of both: those of the last long stop are paid twice, of those before it once; `since` are those after it
  record Account (P a : ℕ) (c : ℕ → ℕ) : Type 0 where
    count : ℕ
    before : ℕ
    last : ℕ
    since : ℕ
    size : ℕ
    begun : ℕ
    some : ℕ
    sures : ℕ
    small : (n : ℕ) → 2 * c n + 2 * begun ≤ 2 * sures + before + 2 * last + 4 * count
    spread : before + last + since ≤ 4 * some
    back : last ≤ P + since
    high : last ≤ 4 * size
    few : size + count ≤ some + begun
    once : begun ≤ 1
    fewer : count ≤ some
    whole : sures + 4 * some ≤ 4 * a

  module _ {P Q b m a : ℕ} {c d e : ℕ → ℕ} (one : 1 ≤ m) (big : b ≤ 4 * m) (sum : (n : ℕ) → e n ≤ c n + d n) (s : Account P a c) where
    short_step : P ≤ Q + b → ((n : ℕ) → d n ≤ 2) → Account Q (a + m) e
    short_step near l = record {
      count = s.count + 1;
      before = s.before;
      last = s.last;
      since = s.since + b;
      size = s.size;
      begun = s.begun;
      some = s.some + m;
      sures = s.sures;
      small = λ n. omega (arith, sum n, s.small n, l n);
      spread = omega (arith, s.spread);
      back = omega (arith, s.back);
      high = s.high;
      few = omega (arith, s.few);
      once = s.once;
      fewer = omega (arith, s.fewer);
      whole = omega (arith, s.whole);
    }

    long_step : P ≡ 0 → b ≤ Q + P → ((n : ℕ) → d n ≤ b + 1) → Account Q (a + m) e
    long_step z far l = record {
      count = s.count + 1;
      before = s.before + s.last + s.since;
      last = b;
      since = 0;
      size = m;
      begun = 1;
      some = s.some + m;
      sures = s.sures;
      small = λ n. omega (arith, sum n, s.small n, l n, s.back);
      spread = omega (arith, s.spread);
      back = omega arith;
      high = big;
      few = omega (arith, s.fewer);
      once = omega arith;
      fewer = omega (arith, s.fewer);
      whole = omega (arith, s.whole);
    }

    sure_step : P ≡ 0 → ((n : ℕ) → d n ≤ 4 * m) → Account Q (a + m) e
    sure_step z l = record {
      count = s.count;
      before = s.before;
      last = s.last;
      since = s.since;
      size = s.size;
      begun = s.begun;
      some = s.some;
      sures = s.sures + 4 * m;
      small = λ n. omega (arith, sum n, s.small n, l n);
      spread = s.spread;
      back = omega (arith, s.back);
      high = s.high;
      few = s.few;
      once = s.once;
      fewer = s.fewer;
      whole = omega (arith, s.whole);
    }

  -- a sum of stops and one of other picks, with their set and its account
  record Sums (P a : ℕ) (f g : Form) : Type 0 where
    set : Set
    in_f : Ins set f.terms
    in_g : Ins set g.terms
    account : Account P a (λ n. card n set)

  paid : {P Q b m a : ℕ} {c : ℕ → ℕ} {e : ℕ → ℕ} (g : Form) (x : ArbitratedChild) → 1 ≤ m → b ≤ 4 * m → P ≤ Q + b → b ≤ Q + P → (j : Both x g m) → ((n : ℕ) → e n ≤ c n + card n j.set)
      → Account P a c → Stopped P b x.stop → Account Q (a + m) e
  paid g x one big near far j sum s (short l unsure) = short_step one big sum s near (λ n. omega (arith, j.else unsure n))
  paid {Q = Q} {m = m} {a = a} {e = e} g x one big near far j sum s (long l z) = go (known x.stop) refl
    where
      go : (t : Known) → known x.stop ≡ t → Account Q (a + m) e
      go Yes k = sure_step one big sum s z (j.sure k)
      go No k = long_step one big sum s z far (λ n. omega (arith, j.else (λ i. yes_no (sym i ∙ k)) n))
      go Open k = long_step one big sum s z far (λ n. omega (arith, j.else (λ i. yes_open (sym i ∙ k)) n))

  step : {P Q b m a : ℕ} (acc o g : Form) (x : ArbitratedChild) → 1 ≤ m → b ≤ 4 * m → P ≤ Q + b → b ≤ Q + P → Both x g m → Sums P a acc o → Stopped P b x.stop → Sums Q (a + m) (plus acc x.stop) (plus o g)
  step acc o g x one big near far j s st =
      let p = s.set in
      let q = j.set in
      record {
        set = p ∪ q;
        in_f = plus_in_lem (p ∪ q) acc x.stop (in_left p q acc.terms s.in_f) (in_right p q x.stop.terms j.stop);
        in_g = plus_in_lem (p ∪ q) o g (in_left p q o.terms s.in_g) (in_right p q g.terms j.pick);
        account = paid g x one big near far j (λ n. union_card n p q) s.account st;
      }

  pub record Shared (a : ℕ) (f g : Form) : Type 0 where
    pub set : Set
    pub small : (n : ℕ) → card n set ≤ 4 * a + 1
    pub in_f : Ins set f.terms
    pub in_g : Ins set g.terms

  settled : {P a : ℕ} {f g : Form} → Sums P a f g → Shared a f g
  settled s =
      let t = s.account in
      record { set = s.set; small = λ n. omega (arith, t.small n, t.spread, t.high, t.few, t.once, t.whole); in_f = s.in_f; in_g = s.in_g }

  loop : {P : ℕ} (k : ℕ) (acc o r c : Form) (a : ℕ) {xs : List ArbitratedChild} {ms : List ℕ} (os : List Op) → Sums P a acc o → All2 K3 xs ms → Traced P xs ms
      → Shared (a + sum_l ms) (total pairs acc xs) (picks pairs opsAt k o r c xs os).other
  unfolding picks total sum_l
  loop k acc o r c a os s none tnil = let q = settled s in record { set = q.set; small = λ n. omega (arith, q.small n); in_f = q.in_f; in_g = q.in_g }
  loop k acc o r c a os s (both {a = x} {b = m} {xs = xs} {ys = ms} h hs) (tcons big back forth st ts) =
      let o₁ = and pairs opsAt x.stop x.status.failure os in
      let o₂ = and pairs opsAt x.stop x.status.running o₁.ops in
      let i = loop (suc k) (plus acc x.stop) (plus o o₁.form) (plus r o₂.form) (plus c (scaled k o₂.form)) (a + m) o₂.ops
      (step acc o o₁.form x h.status.pos big back forth (both_of x m os h) s st) hs ts in
      record { set = i.set; small = λ n. omega (arith, i.small n); in_f = i.in_f; in_g = i.in_g }

  pub shared : {xs : List ArbitratedChild} {ms : List ℕ} (os : List Op) → All2 K3 xs ms → Traced 0 xs ms → Shared (sum_l ms) (total pairs (constant 0) xs) (picks pairs opsAt 0 (constant 0) (constant 0) (constant 0) xs os).other
  unfolding constant
  shared {ms = ms} os h t =
      let z = constant 0 in
      let blank : Account 0 0 (λ n. card n nothing) = record {
        count = 0;
        before = 0;
        last = 0;
        since = 0;
        size = 0;
        begun = 0;
        some = 0;
        sures = 0;
        small = λ n. omega (arith, nothing_card n);
        spread = omega arith;
        back = omega arith;
        high = omega arith;
        few = omega arith;
        once = omega arith;
        fewer = omega arith;
        whole = omega arith;
      } in
      let i = loop 0 z z z z 0 os (record { set = nothing; in_f = tt; in_g = tt; account = blank }) h t in
      record { set = i.set; small = λ n. omega (arith, i.small n); in_f = i.in_f; in_g = i.in_g }
