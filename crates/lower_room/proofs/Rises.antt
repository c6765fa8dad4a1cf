-- Forms whose wires rise strictly. A sum lacks at most as many terms of one part as the other part has.
use Prim.Native.Nat.{Ordering, ◌+◌, ◌<◌, ◌≤◌, compare, suc, ℕ}
use native.Mathlib.Omega.{arith}
use mathlib.Core.Bool.{Bool, ◌||◌, false, true}
use mathlib.Core.List.{List, [], ◌∷◌}
use mathlib.Core.Path.{◌≡◌, refl, subst, sym}
use lib.Dec.{T, eqb, eqb_refl, eqb→eq, leb}
use lib.ListN.{length}
use Rattle.construct.proofs.Values.{eq_of}
use Rattle.construct.proofs.Scope.{constant_reads, minus_reads, not_reads, plus_reads, reads_up, wire_reads}
use Rattle.construct.specs.Builder.{and, and_at, at_least, at_least_at, minus, not', or, or_at, push, relu, step}
use Rattle.construct.specs.Forms.{Known, No, Open, Yes}
use Rattle.construct.specs.Pairs.{Form, Op, Term, constant, insert, insert_at, keep, known, len, merge, pairs, plus, summed, wire'}
use Rattle.construct.specs.Scope.{Reads, Within}
use Rattle.lower_room.proofs.Sets.{Ins, Set, ◌∪◌, in_left, in_right, merge_in, nothing, own, own_card, own_in, set_len, single, union_card}
use Rattle.walk.specs.Kind.{bit}

abbrev pub Rises : Form → Type 0
Rises f = (n : ℕ) × Reads n f

pub constant_rises : (b : ℕ) → Rises (constant b)
constant_rises b = (0, constant_reads 0 b)

pub wire_rises : (w : ℕ) → Rises (wire' w)
wire_rises w = (suc w, wire_reads (suc w) w (omega arith))

pub plus_rises : (f g : Form) → Rises f → Rises g → Rises (plus f g)
plus_rises f g h k =
    let n = h.0 + k.0 in
    (n, plus_reads n f g (reads_up h.0 n f (omega arith) h.1) (reads_up k.0 n g (omega arith) k.1))

minus_rises : (f g : Form) → Rises f → Rises g → Rises (minus pairs f g)
minus_rises f g h k =
    let n = h.0 + k.0 in
    (n, minus_reads n f g (reads_up h.0 n f (omega arith) h.1) (reads_up k.0 n g (omega arith) k.1))

pub not_rises : (f : Form) → Rises f → Rises (not' pairs f)
not_rises f h = (h.0, not_reads h.0 f h.1)

module _ (opsAt : ℕ) where
  or_rises_at : (t u : Known) (f g : Form) (os : List Op) → known f ≡ t → known g ≡ u → Rises f → Rises g → Rises (or_at pairs opsAt t u f g os).form
  unfolding or_at and and_at push
  or_rises_at Yes u f g os i j h k = constant_rises 1
  or_rises_at No Yes f g os i j h k = constant_rises 1
  or_rises_at No No f g os i j h k = k
  or_rises_at No Open f g os i j h k = k
  or_rises_at Open Yes f g os i j h k = constant_rises 1
  or_rises_at Open No f g os i j h k = h
  or_rises_at Open Open f g os i j h k = rw (i, j) (minus_rises (plus f g) (wire' (opsAt + length os)) (plus_rises f g h k) (wire_rises (opsAt + length os)))

  pub or_rises : (f g : Form) (os : List Op) → Rises f → Rises g → Rises (or pairs opsAt f g os).form
  unfolding or
  or_rises f g os h k = or_rises_at (known f) (known g) f g os refl refl h k

  at_least_rises_at : (t : Known) (c : Form) (k : ℕ) (os : List Op) → Rises (at_least_at pairs opsAt t c k os).form
  unfolding at_least_at step relu push
  at_least_rises_at No c k os = constant_rises (bit (leb (c.bn + k) c.bp))
  at_least_rises_at Yes c k os = constant_rises (bit (leb (c.bn + k) c.bp))
  at_least_rises_at Open c k os = minus_rises (wire' (opsAt + length os)) (wire' (opsAt + suc (length os))) (wire_rises (opsAt + length os)) (wire_rises (opsAt + suc (length os)))

  pub at_least_rises : (c : Form) (k : ℕ) (os : List Op) → Rises (at_least pairs opsAt c k os).form
  unfolding at_least
  at_least_rises c k os = at_least_rises_at (known c) c k os

-- ---- a wire of one part is left, or is one of the other part's

-- in one list of wires or in another
left : (a b : Bool) → T a → T (a || b)
left true b h = tt
left false b h = absurd h

right : (a b : Bool) → T b → T (a || b)
right true b h = tt
right false b h = h

either : {R : Type 0} (a b : Bool) → T (a || b) → (T a → R) → (T b → R) → R
either true b h f g = f tt
either false b h f g = g h

own_head : (t : Term) (ts : List Term) → T (own (t ∷ ts) t.wire)
unfolding own single
own_head t ts = left (eqb t.wire t.wire) (own ts t.wire) (eqb_refl t.wire)

own_tail : (t : Term) (ts : List Term) (v : ℕ) → T (own ts v) → T (own (t ∷ ts) v)
unfolding own single
own_tail t ts v h = right (eqb t.wire v) (own ts v) h

own_split : {R : Type 0} (t : Term) (ts : List Term) (v : ℕ) → T (own (t ∷ ts) v) → (t.wire ≡ v → R) → (T (own ts v) → R) → R
unfolding own single
own_split t ts v h f g = either (eqb t.wire v) (own ts v) h (λ e. f (eqb→eq t.wire v e)) g

-- a later wire stays where a term is put in
keep_later : (b : Bool) (t : Term) (us : List Term) (v : ℕ) → T (own us v) → T (own (keep b t us) v)
unfolding keep
keep_later true t us v h = h
keep_later false t us v h = own_tail t us v h

insert_at_later : (o : Ordering) (t u : Term) (us r : List Term) (v : ℕ) → (o ≡ Ordering.eq → t.wire ≡ u.wire) → t.wire < v → T (own (u ∷ us) v) → (T (own us v) → T (own r v))
    → T (own (insert_at o t u us r) v)
unfolding insert_at
insert_at_later Ordering.lt t u us r v e l h k = own_tail t (u ∷ us) v h
insert_at_later Ordering.eq t u us r v e l h k = own_split u us v h (λ d. absurd (omega (arith, e refl))) (λ i. keep_later (eqb (t.cp + u.cp) (t.cn + u.cn)) (summed t u) us v i)
insert_at_later Ordering.gt t u us r v e l h k = own_split u us v h (λ d. subst (λ (w : ℕ). T (own (u ∷ r) w)) d (own_head u r)) (λ i. own_tail u r v (k i))

insert_later : (t : Term) (us : List Term) (v : ℕ) → t.wire < v → T (own us v) → T (own (insert t us) v)
unfolding insert
insert_later t [] v l h = own_tail t [] v h
insert_later t (u ∷ us) v l h = insert_at_later (compare t.wire u.wire) t u us (insert t us) v (eq_of t.wire u.wire) l h (insert_later t us v l)

-- the term's own wire stands, or stood
insert_at_own : (o : Ordering) (t u : Term) (us r : List Term) → (o ≡ Ordering.eq → t.wire ≡ u.wire) → T (own r t.wire || own us t.wire) → T (own (insert_at o t u us r) t.wire || own (u ∷ us) t.wire)
unfolding insert_at
insert_at_own Ordering.lt t u us r e h = left (own (t ∷ u ∷ us) t.wire) (own (u ∷ us) t.wire) (own_head t (u ∷ us))
insert_at_own Ordering.eq t u us r e h =
    right (own (keep (eqb (t.cp + u.cp) (t.cn + u.cn)) (summed t u) us) t.wire) (own (u ∷ us) t.wire) (subst (λ (w : ℕ). T (own (u ∷ us) w)) (sym (e refl)) (own_head u us))
insert_at_own Ordering.gt t u us r e h =
    either (own r t.wire) (own us t.wire) h
    (λ k. left (own (u ∷ r) t.wire) (own (u ∷ us) t.wire) (own_tail u r t.wire k))
    (λ k. right (own (u ∷ r) t.wire) (own (u ∷ us) t.wire) (own_tail u us t.wire k))

insert_own : (t : Term) (us : List Term) → T (own (insert t us) t.wire || own us t.wire)
unfolding insert
insert_own t [] = left (own (t ∷ []) t.wire) (own [] t.wire) (own_head t [])
insert_own t (u ∷ us) = insert_at_own (compare t.wire u.wire) t u us (insert t us) (eq_of t.wire u.wire) (insert_own t us)

own_none : (v : ℕ) → T (own [] v) → ⊥
unfolding own nothing
own_none v k = k

-- a wire that stands in a list is in every set that holds the list
own_means : (p : Set) (ts : List Term) (v : ℕ) → Ins p ts → T (own ts v) → T (p v)
own_means p [] v h k = absurd (own_none v k)
own_means p (t ∷ ts) v h k = own_split t ts v k (λ e. subst (λ (w : ℕ). T (p w)) e h.0) (λ i. own_means p ts v h.1 i)

own_above : (b n : ℕ) (ts : List Term) (v : ℕ) → Within b n ts → v < b → T (own ts v) → ⊥
own_above b n [] v w l k = own_none v k
own_above b n (t ∷ ts) v w l k = own_split t ts v k (λ e. omega (arith, w.0)) (λ i. own_above (suc t.wire) n ts v w.3 (omega (arith, w.0)) i)

module _ (us : List Term) where
  lifted : (t : Term) (ms : List Term) (b n : ℕ) (ts : List Term) → t.wire < b → Within b n ts → Ins (own ms ∪ own us) ts → Ins (own (insert t ms) ∪ own us) ts
  lifted t ms b n [] l w h = tt
  lifted t ms b n (u ∷ ts) l w h = (
    either (own ms u.wire) (own us u.wire) h.0
        (λ k. left (own (insert t ms) u.wire) (own us u.wire) (insert_later t ms u.wire (omega (arith, w.0)) k))
        (λ k. right (own (insert t ms) u.wire) (own us u.wire) k),
    lifted t ms (suc u.wire) n ts (omega (arith, w.0)) w.3 h.1,
  )

  left_in : (b n : ℕ) (ts : List Term) → Within b n ts → Ins (own (merge ts us) ∪ own us) ts
  unfolding merge
  left_in b n [] w = tt
  left_in b n (t ∷ ts) w =
      let ms = merge ts us in
      let all : Ins (own ts ∪ own us) ms = merge_in (own ts ∪ own us) ts us (in_left (own ts) (own us) ts (own_in ts)) (in_right (own ts) (own us) us (own_in us)) in
      let other = right (own (insert t ms) t.wire) (own us t.wire) in (
        either (own (insert t ms) t.wire) (own ms t.wire) (insert_own t ms)
            (λ k. left (own (insert t ms) t.wire) (own us t.wire) k)
            (λ k. either (own ts t.wire) (own us t.wire) (own_means (own ts ∪ own us) ms t.wire all k) (λ i. absurd (own_above (suc t.wire) n ts t.wire w.3 (omega arith) i)) other),
        lifted t ms (suc t.wire) n ts (omega arith) w.3 (left_in (suc t.wire) n ts w.3),
      )

pub plus_least : (f g : Form) → Rises f → len f ≤ len (plus f g) + len g
unfolding plus
plus_least f g h =
    let m = merge f.terms g.terms in
    let q = own m ∪ own g.terms in
    omega (arith, set_len q h.0 f h.1 (left_in g.terms 0 h.0 f.terms h.1), union_card h.0 (own m) (own g.terms), own_card h.0 m, own_card h.0 g.terms)

-- and of the second part, whether or not wires rise
keep_least : (b : Bool) (t : Term) (us : List Term) → length us ≤ length (keep b t us)
unfolding keep
keep_least true t us = omega arith
keep_least false t us = omega arith

insert_at_least : (o : Ordering) (t u : Term) (us r : List Term) → length us ≤ length r + 1 → suc (length us) ≤ length (insert_at o t u us r) + 1
unfolding insert_at
insert_at_least Ordering.lt t u us r h = omega arith
insert_at_least Ordering.eq t u us r h = omega (arith, keep_least (eqb (t.cp + u.cp) (t.cn + u.cn)) (summed t u) us)
insert_at_least Ordering.gt t u us r h = omega arith

insert_least : (t : Term) (us : List Term) → length us ≤ length (insert t us) + 1
unfolding insert
insert_least t [] = omega arith
insert_least t (u ∷ us) = insert_at_least (compare t.wire u.wire) t u us (insert t us) (insert_least t us)

merge_least : (ts us : List Term) → length us ≤ length (merge ts us) + length ts
unfolding merge
merge_least [] us = omega arith
merge_least (t ∷ ts) us = omega (arith, insert_least t (merge ts us), merge_least ts us)

pub plus_least_right : (f g : Form) → len g ≤ len (plus f g) + len f
unfolding plus
plus_least_right f g = merge_least f.terms g.terms
