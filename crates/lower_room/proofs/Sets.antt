-- Sets of wires as tests, and how many wires of a set lie below n. A form's wires rise strictly, so it has at most as many terms as a set
-- that holds them all. Sets are shared by several forms: so the sum of two forms of one set is no longer than the set.
use Prim.Native.Nat.{Ordering, ◌+◌, ◌<◌, ◌≤◌, compare, suc, zero, ℕ}
use native.Mathlib.Omega.{arith}
use mathlib.Core.Bool.{Bool, ◌||◌, false, not, true}
use mathlib.Core.List.{List, [], ◌∷◌}
use mathlib.Core.Path.{◌≡◌, ap, refl}
use lib.Dec.{T, eqb, eqb_refl, eqb→eq, leb, leb→le, nleb→lt}
use lib.ListN.{length}
use Rattle.construct.specs.Builder.{minus, not'}
use Rattle.construct.specs.Pairs.{Form, Term, constant, flip, insert, insert_at, keep, len, merge, negate, offset, pairs, plus, scaled, summed, times, wire'}
use Rattle.construct.specs.Scope.{Reads, Within}
use Rattle.walk.specs.Kind.{bit}

abbrev pub Set : Type 0
Set = ℕ → Bool

unfoldable pub card : ℕ → Set → ℕ
card zero p = 0
card (suc n) p = bit (p n) + card n p

infixl 20 ◌∪◌
abbrev pub ◌∪◌ : Set → Set → Set
(p ∪ q) w = p w || q w

unfoldable pub nothing : Set
nothing w = false

unfoldable pub single : ℕ → Set
single v w = eqb v w

pub nothing_card : (n : ℕ) → card n nothing ≡ 0
unfolding card nothing
nothing_card zero = refl
nothing_card (suc n) = omega (arith, nothing_card n)

or_bit : (a b : Bool) → bit (a || b) ≤ bit a + bit b
or_bit true b = omega arith
or_bit false b = omega arith

pub union_card : (n : ℕ) (p q : Set) → card n (p ∪ q) ≤ card n p + card n q
unfolding card
union_card zero p q = omega arith
union_card (suc n) p q = omega (arith, union_card n p q, or_bit (p n) (q n))

below : (n v : ℕ) → n ≤ v → card n (single v) ≡ 0
unfolding card single
below zero v h = refl
below (suc n) v h = go (eqb v n) (eqb→eq v n) (below n v (omega arith))
  where
    go : (b : Bool) → (T b → v ≡ n) → card n (single v) ≡ 0 → bit b + card n (single v) ≡ 0
    go true f e = absurd (omega (arith, f tt))
    go false f e = omega arith

pub single_card : (n v : ℕ) → card n (single v) ≤ 1
unfolding card single
single_card zero v = omega arith
single_card (suc n) v = go (eqb v n) (eqb→eq v n) (single_card n v) (λ h. below n v h)
  where
    go : (b : Bool) → (T b → v ≡ n) → card n (single v) ≤ 1 → (n ≤ v → card n (single v) ≡ 0) → bit b + card n (single v) ≤ 1
    go true f l z = omega (arith, f tt, z (omega (arith, f tt)))
    go false f l z = omega arith

card_up : (n m : ℕ) (p : Set) → n ≤ m → card n p ≤ card m p
unfolding card
card_up n zero p h = let e : n ≡ 0 = omega arith in rw e (omega arith)
card_up n (suc m) p h = go (leb n m) (leb→le n m) (nleb→lt n m) (λ l. card_up n m p l)
  where
    go : (b : Bool) → (T b → n ≤ m) → (T (not b) → m < n) → (n ≤ m → card n p ≤ card m p) → card n p ≤ bit (p m) + card m p
    go true f g r = omega (arith, r (f tt))
    go false f g r = let e : n ≡ suc m = omega (arith, g tt) in rw e (omega arith)

-- all wires of a list of op_terms are in the set
abbrev pub Ins : Set → List Term → Type 0
Ins p [] = Unit {0}
Ins p (t ∷ ts) = T (p t.wire) × Ins p ts

is_one : (b : Bool) → T b → bit b ≡ 1
is_one true t = refl
is_one false t = absurd t

pub held : (p : Set) (b n : ℕ) (ts : List Term) → b ≤ n → Within b n ts → Ins p ts → length ts + card b p ≤ card n p
unfolding card
held p b n [] h w i = omega (arith, card_up b n p h)
held p b n (t ∷ ts) h w i = step (card_up b t.wire p w.0) (is_one (p t.wire) i.0) (held p (suc t.wire) n ts w.1 w.3 i.1)
  where
    step : card b p ≤ card t.wire p → bit (p t.wire) ≡ 1 → length ts + card (suc t.wire) p ≤ card n p → suc (length ts) + card b p ≤ card n p
    step a e r = omega arith

-- the operations of wire.rs keep to a set
module _ (p : Set) where
  keep_in : (b : Bool) (t : Term) (ts : List Term) → T (p t.wire) → Ins p ts → Ins p (keep b t ts)
  unfolding keep
  keep_in true t ts h k = k
  keep_in false t ts h k = (h, k)

  insert_at_in : (o : Ordering) (t u : Term) (us r : List Term) → T (p t.wire) → Ins p (u ∷ us) → Ins p r → Ins p (insert_at o t u us r)
  unfolding insert_at
  insert_at_in Ordering.lt t u us r h k i = (h, k)
  insert_at_in Ordering.eq t u us r h k i = keep_in (eqb (t.cp + u.cp) (t.cn + u.cn)) (summed t u) us k.0 k.1
  insert_at_in Ordering.gt t u us r h k i = (k.0, i)

  insert_in : (t : Term) (us : List Term) → T (p t.wire) → Ins p us → Ins p (insert t us)
  unfolding insert
  insert_in t [] h k = (h, tt)
  insert_in t (u ∷ us) h k = insert_at_in (compare t.wire u.wire) t u us (insert t us) h k (insert_in t us h k.1)

  pub merge_in : (ts us : List Term) → Ins p ts → Ins p us → Ins p (merge ts us)
  unfolding merge
  merge_in [] us h k = k
  merge_in (t ∷ ts) us h k = insert_in t (merge ts us) h.0 (merge_in ts us h.1 k)

  flip_in : (ts : List Term) → Ins p ts → Ins p (flip ts)
  unfolding flip
  flip_in [] h = tt
  flip_in (t ∷ ts) h = (h.0, flip_in ts h.1)

  pub plus_in_lem : (f g : Form) → Ins p f.terms → Ins p g.terms → Ins p (plus f g).terms
  unfolding plus
  plus_in_lem f g h k = merge_in f.terms g.terms h k

  pub not_in : (f : Form) → Ins p f.terms → Ins p (not' pairs f).terms
  unfolding not' offset negate
  not_in f h = flip_in f.terms h

pub in_left : (p q : Set) (ts : List Term) → Ins p ts → Ins (p ∪ q) ts
in_left p q [] h = tt
in_left p q (t ∷ ts) h = (go (p t.wire) h.0, in_left p q ts h.1)
  where
    go : (b : Bool) → T b → T (b || q t.wire)
    go true h = tt
    go false h = absurd h

pub in_right : (p q : Set) (ts : List Term) → Ins q ts → Ins (p ∪ q) ts
in_right p q [] h = tt
in_right p q (t ∷ ts) h = (go (p t.wire) h.0, in_right p q ts h.1)
  where
    go : (b : Bool) → T (q t.wire) → T (b || q t.wire)
    go true h = tt
    go false h = h

pub in_none : (p : Set) (ts : List Term) → length ts ≡ 0 → Ins p ts
in_none p [] e = tt
in_none p (t ∷ ts) e = absurd (omega arith)

pub wire_in_lem : (w : ℕ) → Ins (single w) (wire' w).terms
unfolding single wire'
wire_in_lem w = (eqb_refl w, tt)

-- lengths
keep_len : (b : Bool) (t : Term) (ts : List Term) → length (keep b t ts) ≤ 1 + length ts
unfolding keep
keep_len true t ts = omega arith
keep_len false t ts = omega arith

insert_at_len : (o : Ordering) (t u : Term) (us r : List Term) → length r ≤ 1 + length us → length (insert_at o t u us r) ≤ 2 + length us
unfolding insert_at
insert_at_len Ordering.lt t u us r h = omega arith
insert_at_len Ordering.eq t u us r h = omega (arith, keep_len (eqb (t.cp + u.cp) (t.cn + u.cn)) (summed t u) us)
insert_at_len Ordering.gt t u us r h = omega arith

insert_len : (t : Term) (us : List Term) → length (insert t us) ≤ 1 + length us
unfolding insert
insert_len t [] = omega arith
insert_len t (u ∷ us) = omega (arith, insert_at_len (compare t.wire u.wire) t u us (insert t us) (insert_len t us))

merge_len : (ts us : List Term) → length (merge ts us) ≤ length ts + length us
unfolding merge
merge_len [] us = omega arith
merge_len (t ∷ ts) us = omega (arith, insert_len t (merge ts us), merge_len ts us)

flip_len : (ts : List Term) → length (flip ts) ≡ length ts
unfolding flip
flip_len [] = refl
flip_len (t ∷ ts) = ap suc (flip_len ts)

times_len : (k : ℕ) (ts : List Term) → length (times k ts) ≡ length ts
unfolding times
times_len k [] = refl
times_len k (t ∷ ts) = ap suc (times_len k ts)

pub plus_len : (f g : Form) → len (plus f g) ≤ len f + len g
unfolding plus
plus_len f g = merge_len f.terms g.terms

pub negate_len : (f : Form) → len (negate f) ≡ len f
unfolding negate
negate_len f = flip_len f.terms

pub minus_len : (f g : Form) → len (minus pairs f g) ≤ len f + len g
unfolding minus
minus_len f g = omega (arith, plus_len f (negate g), negate_len g)

pub not_len : (f : Form) → len (not' pairs f) ≡ len f
unfolding not' offset
not_len f = negate_len f

pub scaled_len : (k : ℕ) (f : Form) → len (scaled k f) ≤ len f
unfolding scaled constant
scaled_len zero f = omega arith
scaled_len (suc k) f = omega (arith, times_len (suc k) f.terms)

-- a list's own wires
unfoldable pub own : List Term → Set
own [] = nothing
own (t ∷ ts) = single t.wire ∪ own ts

pub own_card : (n : ℕ) (ts : List Term) → card n (own ts) ≤ length ts
unfolding own
own_card n [] = omega (arith, nothing_card n)
own_card n (t ∷ ts) = omega (arith, union_card n (single t.wire) (own ts), single_card n t.wire, own_card n ts)

pub own_in : (ts : List Term) → Ins (own ts) ts
unfolding own single
own_in [] = tt
own_in (t ∷ ts) = (go (eqb t.wire t.wire) (eqb_refl t.wire), in_right (single t.wire) (own ts) ts (own_in ts))
  where
    go : (b : Bool) → T b → T (b || own ts t.wire)
    go true h = tt
    go false h = absurd h

-- a form all of whose wires are in a set
pub set_len : (p : Set) (n : ℕ) (f : Form) → Reads n f → Ins p f.terms → len f ≤ card n p
set_len p n f r i = omega (arith, held p 0 n f.terms (omega arith) r i)
