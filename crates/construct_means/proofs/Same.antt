-- The direct walk over a tree is the walk over its nodes in pre-order.
use Prim.Native.Nat.{◌+◌, suc, ℕ}
use native.Mathlib.Omega.{arith}
use mathlib.Core.Bool.{Bool, ◌&&◌, cond, false, true}
use mathlib.Core.List.{List, [], ◌++◌, ◌∷◌, append_assoc, append-nil}
use mathlib.Core.Path.{◌∙◌, ◌≡◌, ap, refl, sym}
use lib.ListN.{drop, get_or, length, take}
use Rattle.construct.proofs.ListWalk.{Lot, Mark, Sem, Would, idle, lots, marks, next_c, start_at, tell, turned, would_step, woulds}
use Rattle.construct.proofs.Right.{State, list_walk}
use Rattle.construct.specs.Circuit.{flats}
use Rattle.construct.specs.Lower.{Flat, cell_after, fixed, flags, flat_of, force, invert, leaf, ordered, slot_after, top}
use Rattle.construct_means.proofs.Stop.{calls_are, resume_is, tab, tab_length, walked_is}
use Rattle.construct_means.specs.Means.{Shaped, cursors_of}
use Rattle.tree_laws.proofs.Folds.{fold_down, fold_up}
use Rattle.tree.specs.Fold.{Tells, answers, falls, first, lefts, spreads, stack_lefts, stacked}
use Rattle.tree.specs.Forest.{Counted, Forest, counts, node, none, preorder, size, width}
use Rattle.walk.proofs.Laws.{would_width}
use Rattle.walk.specs.Kind.{Composite, Constant, Force, Inverter, Kind, Leaf, arity, cells, has_cursor, kind_of, slots}
use Rattle.walk.specs.Status.{Status, Success, status_of}
use Rattle.walk.specs.Walk.{Call, Fate, Own, as_read, cells_in, each, fates, fates_of, is_running, only, owned, resume, root_call, slots_in, start_of, tells, would, would_be}

-- The direct walk over a tree is the walk over its nodes in pre-order.

-- the nodes in pre-order, as the construction takes them
unfoldable pub nodes_of : Forest ℕ → List Flat
nodes_of none = []
nodes_of (node k kids rest) = flat_of (kind_of k) (width kids) ∷ (nodes_of kids ++ nodes_of rest)

-- the forest's nodes are those of its kind numbers and child counts
flats_append : (f : Forest ℕ) (ks cs : List ℕ) → flats (preorder f ++ ks) (counts f ++ cs) ≡ nodes_of f ++ flats ks cs
unfolding nodes_of
flats_append none ks cs = refl
flats_append (node k kids rest) ks cs =
    rw (
      append_assoc (preorder kids) (preorder rest) ks,
      append_assoc (counts kids) (counts rest) cs,
      append_assoc (nodes_of kids) (nodes_of rest) (flats ks cs),
      flats_append kids (preorder rest ++ ks) (counts rest ++ cs),
      flats_append rest ks cs,
    )

pub flats_are : (f : Forest ℕ) → flats (preorder f) (counts f) ≡ nodes_of f
flats_are f = rw (append-nil (preorder f), append-nil (counts f), append-nil (nodes_of f)) at (flats_append f [] [])

abbrev family_of : Flat → Kind
family_of leaf = Leaf
family_of (fixed b) = Constant b
family_of invert = Inverter
family_of (force b) = Force b
family_of (ordered m q n) = Composite m q

abbrev count_of : Flat → ℕ
count_of leaf = 0
count_of (fixed b) = 0
count_of invert = 1
count_of (force b) = 1
count_of (ordered m q n) = n

kind_again : (k : Kind) (n : ℕ) → family_of (flat_of k n) ≡ k
kind_again Leaf n = refl
kind_again (Constant b) n = refl
kind_again Inverter n = refl
kind_again (Force b) n = refl
kind_again (Composite m q) n = refl

count_again : (k : Kind) (n : ℕ) → count_of (flat_of k n) ≡ arity k n
count_again Leaf n = refl
count_again (Constant b) n = refl
count_again Inverter n = refl
count_again (Force b) n = refl
count_again (Composite m q) n = refl

node_again : (x : Flat) → flat_of (family_of x) (count_of x) ≡ x
node_again leaf = refl
node_again (fixed b) = refl
node_again invert = refl
node_again (force b) = refl
node_again (ordered m q n) = refl

pub cells_is : (k : Kind) (n c : ℕ) → cell_after (flat_of k n) c ≡ c + cells k
cells_is Leaf n c = omega arith
cells_is (Constant b) n c = omega arith
cells_is Inverter n c = omega arith
cells_is (Force b) n c = omega arith
cells_is (Composite true q) n c = omega arith
cells_is (Composite false q) n c = omega arith

pub slots_is : (k : Kind) (n s : ℕ) → slot_after (flat_of k n) s ≡ s + slots k
slots_is Leaf n s = omega arith
slots_is (Constant b) n s = omega arith
slots_is Inverter n s = omega arith
slots_is (Force b) n s = omega arith
slots_is (Composite m q) n s = omega arith

-- a node with its own state and its number of children
record Seat : Type 0 where
  own : Own
  count : ℕ

seated : Forest Own → Forest Seat
seated none = none
seated (node x kids rest) = node (record { own = x; count = arity x.kind (width kids) }) (seated kids) (seated rest)

-- what the bottom-up pass leaves of a node
record Bound : Type 0 where
  own : Own
  sem : Sem

marks_of : Kind → ℕ → List Status → List Mark
marks_of Leaf cursor ss = []
marks_of (Constant b) cursor ss = []
marks_of Inverter cursor ss = []
marks_of (Force b) cursor ss = []
marks_of (Composite m q) cursor ss = marks (start_of m cursor) 0 true (turned q ss)

abbrev answer : Seat → List Status → Status
answer x ss = would x.own.kind x.own.cursor x.own.given ss

abbrev left_of : Seat → List Status → Bound
left_of x ss = record { own = x.own; sem = record { node = flat_of x.own.kind x.count; raw = answer x ss; kids = marks_of x.own.kind x.own.cursor ss; cursor = resume x.own.kind x.own.cursor ss } }

abbrev count : Seat → ℕ
count x = x.count

sems : List Bound → List Sem
sems [] = []
sems (b ∷ bs) = b.sem ∷ sems bs

top_only : (r : List Status) → top Success r ≡ only (take 1 r)
top_only [] = refl
top_only (s ∷ ss) = refl

module _ (flags cursors row : List ℕ) where
  -- the state as the walk over lists has it
  abbrev pub fl : ℕ → Bool
  fl i = is_running (get_or flags i 0)

  abbrev pub read : ℕ → ℕ
  read c = as_read (get_or cursors c 0)

  abbrev pub given : ℕ → Status
  given s = status_of (get_or row s 0)

  abbrev seat_of : ℕ → ℕ → ℕ → Flat → Seat
  seat_of i c s n = record { own = record { kind = family_of n; running = fl i; cursor = read c; given = given s }; count = count_of n }

  seats : ℕ → ℕ → ℕ → List Flat → List Seat
  seats i c s [] = []
  seats i c s (n ∷ ns) = seat_of i c s n ∷ seats (suc i) (cell_after n c) (slot_after n s) ns

  seat_again : (i c s n : ℕ) (k : Kind) → seat_of i c s (flat_of k n) ≡ record { own = record { kind = k; running = fl i; cursor = read c; given = given s }; count = arity k n }
  seat_again i c s n k = rw (kind_again k n, count_again k n) refl

  owned_width : (i c s : ℕ) (f : Forest ℕ) → width (owned flags cursors row i c s f) ≡ width f
  unfolding owned
  owned_width i c s none = refl
  owned_width i c s (node k kids rest) = ap suc (owned_width (suc i + size kids) (c + cells (kind_of k) + cells_in kids) (s + slots (kind_of k) + slots_in kids) rest)

  seats_append : (i c s : ℕ) (f : Forest ℕ) (ys : List Flat)
      → seats i c s (nodes_of f ++ ys) ≡ preorder (seated (owned flags cursors row i c s f)) ++ seats (i + size f) (c + cells_in f) (s + slots_in f) ys
  unfolding seats nodes_of owned seated
  seats_append i c s none ys =
      let p : i ≡ i + 0 = omega arith in
      let q : c ≡ c + 0 = omega arith in
      let r : s ≡ s + 0 = omega arith in
      λ j. seats (p j) (q j) (r j) ys
  seats_append i c s (node k kids rest) ys =
      let c' = c + cells (kind_of k) in
      let s' = s + slots (kind_of k) in
      let a = owned flags cursors row (suc i) c' s' kids in
      let b = owned flags cursors row (suc i + size kids) (c' + cells_in kids) (s' + slots_in kids) rest in
      let p : suc i + size kids + size rest ≡ i + suc (size kids + size rest) = omega arith in
      let q : c' + cells_in kids + cells_in rest ≡ c + (cells (kind_of k) + cells_in kids + cells_in rest) = omega arith in
      let r : s' + slots_in kids + slots_in rest ≡ s + (slots (kind_of k) + slots_in kids + slots_in rest) = omega arith in
      let e : seats (suc i) c' s' ((nodes_of kids ++ nodes_of rest) ++ ys)
      ≡ (preorder (seated a) ++ preorder (seated b)) ++ seats (i + suc (size kids + size rest)) (c + (cells (kind_of k) + cells_in kids + cells_in rest)) (s + (slots (kind_of k) + slots_in kids + slots_in rest)) ys
      = rw (append_assoc (nodes_of kids) (nodes_of rest) ys, append_assoc (preorder (seated a)) (preorder (seated b)) (seats (i + suc (size kids + size rest)) (c + (cells (kind_of k) + cells_in kids + cells_in rest)) (s + (slots (kind_of k) + slots_in kids + slots_in rest)) ys))
      (seats_append (suc i) c' s' kids (nodes_of rest ++ ys)
      ∙ ap (λ (l : List Seat). preorder (seated a) ++ l) (seats_append (suc i + size kids) (c' + cells_in kids) (s' + slots_in kids) rest ys)
      ∙ (λ j. preorder (seated a) ++ (preorder (seated b) ++ seats (p j) (q j) (r j) ys))) in
      rw (seat_again i c s (width kids) (kind_of k), cells_is (kind_of k) (width kids) c, slots_is (kind_of k) (width kids) s, e, owned_width (suc i) c' s' kids) refl

  -- the bottom-up pass
  abbrev ups : ℕ → ℕ → ℕ → List Flat → List Status
  ups i c s ns = stacked answer count (seats i c s ns)

  abbrev bounds : ℕ → ℕ → ℕ → List Flat → List Bound
  bounds i c s ns = stack_lefts answer left_of count (seats i c s ns)

  start_same : (m : Bool) (c : ℕ) → start_at given read m c ≡ start_of m (read c)
  start_same true c = refl
  start_same false c = refl

  step_same : (n : Flat) (i c s : ℕ) (u : Would) (r : List Status) (bs : List Bound) → u.stack ≡ r → u.sems ≡ sems bs
      → ((would_step given read n s c u).stack ≡ answer (seat_of i c s n) (take (count_of n) r) ∷ drop (count_of n) r)
      × ((would_step given read n s c u).sems ≡ sems (left_of (seat_of i c s n) (take (count_of n) r) ∷ bs))
  unfolding would_step sems marks_of
  step_same leaf i c s u r bs e d = rw (e, d) (refl, refl)
  step_same (fixed b) i c s u r bs e d = rw (e, d) (refl, refl)
  step_same invert i c s u r bs e d = rw (e, d, top_only r) (refl, refl)
  step_same (force b) i c s u r bs e d = rw (e, d, top_only r) (refl, refl)
  step_same (ordered m q n) i c s u r bs e d =
      rw (e, d, start_same m c, walked_is q (start_of m (read c)) 0 (take n r), resume_is q (start_of m (read c)) 0 (take n r)) (refl, refl)

  ups_same : (i c s : ℕ) (ns : List Flat) → ((woulds given read s c ns).stack ≡ ups i c s ns) × ((woulds given read s c ns).sems ≡ sems (bounds i c s ns))
  unfolding woulds seats sems
  ups_same i c s [] = (refl, refl)
  ups_same i c s (n ∷ ns) =
      let h = ups_same (suc i) (cell_after n c) (slot_after n s) ns in
      step_same n i c s (woulds given read (slot_after n s) (cell_after n c) ns) (ups (suc i) (cell_after n c) (slot_after n s) ns) (bounds (suc i) (cell_after n c) (slot_after n s) ns) h.0 h.1

-- the tree with what the bottom-up pass leaves
bound : Forest Own → Forest Bound
bound none = none
bound (node x kids rest) = node (left_of (record { own = x; count = arity x.kind (width kids) }) (would_be kids)) (bound kids) (bound rest)

answers_are : (f : Forest Own) → answers answer (seated f) ≡ would_be f
unfolding seated would_be
answers_are none = refl
answers_are (node x kids rest) = rw (answers_are kids, answers_are rest) refl

lefts_are : (f : Forest Own) → lefts answer left_of (seated f) ≡ preorder (bound f)
unfolding seated bound
lefts_are none = refl
lefts_are (node x kids rest) = rw (answers_are kids, lefts_are kids, lefts_are rest) refl

seated_width : (f : Forest Own) → width (seated f) ≡ width f
unfolding seated
seated_width none = refl
seated_width (node x kids rest) = ap suc (seated_width rest)

bound_width : (f : Forest Own) → width (bound f) ≡ width f
unfolding bound
bound_width none = refl
bound_width (node x kids rest) = ap suc (bound_width rest)

abbrev kind_in : Own → Kind
kind_in x = x.kind

counted : (f : Forest Own) → Shaped kind_in f → Counted count (seated f)
unfolding seated
counted none h = tt
counted (node x kids rest) h = (sym h.0 ∙ sym (seated_width kids), counted kids h.1, counted rest h.2)

-- the top-down pass
abbrev tell_all : Bound → Call → List Call
tell_all b e = tell b.sem.node e.ticked (e.called && b.own.running) b.sem.kids

abbrev fate_of : Bound → Call → Fate
fate_of b e = record { own = b.own; would = b.sem.raw; ticked = e.ticked; halted = e.called && b.own.running; resume = b.sem.cursor }

tell_tab : (k : Kind) (cursor w : ℕ) (ss : List Status) (t h : Bool) → length ss ≡ w → w ≡ arity k w
    → tell (flat_of k (arity k w)) t h (marks_of k cursor ss) ≡ tab (tells k cursor ss t h) 0 w
unfolding tell marks_of
tell_tab Leaf cursor w ss t h l e = rw e refl
tell_tab (Constant b) cursor w ss t h l e = rw e refl
tell_tab Inverter cursor w ss t h l e = rw e refl
tell_tab (Force b) cursor w ss t h l e = rw e refl
tell_tab (Composite m q) cursor w ss t h l e = rw (← l) (calls_are q (start_of m cursor) t h ss)

all_tell : (f : Forest Own) → Shaped kind_in f → Tells tell_all (bound f)
unfolding bound
all_tell none h = tt
all_tell (node x kids rest) h = (
  (λ (e : Call). ap length (tell_tab x.kind x.cursor (width kids) (would_be kids) e.ticked (e.called && x.running) (would_width kids) h.0)
      ∙ tab_length (tells x.kind x.cursor (would_be kids) e.ticked (e.called && x.running)) 0 (width kids) ∙ sym (bound_width kids)),
  all_tell kids h.1,
  all_tell rest h.2,
)

spreads_are : (call : ℕ → Call) (place : ℕ) (f : Forest Own) → Shaped kind_in f → spreads tell_all fate_of idle (bound f) (tab call place (width f)) ≡ fates call place f
unfolding bound fates
spreads_are call place none h = refl
spreads_are call place (node x kids rest) h =
    let t = (call place).ticked in
    let a = (call place).called && x.running in
    rw (
      tell_tab x.kind x.cursor (width kids) (would_be kids) t a (would_width kids) h.0,
      spreads_are (tells x.kind x.cursor (would_be kids) t a) 0 kids h.1,
      spreads_are call (suc place) rest h.2,
    ) refl

first_top : (st : List Call) → top idle st ≡ first idle st
first_top [] = refl
first_top (e ∷ st) = refl

-- an answer as the walk over lists has it
abbrev pub out_of : Fate → Lot
out_of x = record { raw = x.would; ticked = x.ticked; halted = x.halted; flag = x.own.running }

unfoldable pub outs_of : List Fate → List Lot
outs_of [] = []
outs_of (x ∷ xs) = out_of x ∷ outs_of xs

next_same : (n : Flat) (t h : Bool) (x y : ℕ) → next_c n t h x y ≡ cond (has_cursor (family_of n)) (cond t x (cond h 0 y) ∷ []) []
unfolding next_c
next_same leaf t h x y = refl
next_same (fixed b) t h x y = refl
next_same invert t h x y = refl
next_same (force b) t h x y = refl
next_same (ordered true q n) t h x y = refl
next_same (ordered false q n) t h x y = refl

module _ (flags cursors row : List ℕ) where
  falls_same : (i c s : ℕ) (ns : List Flat) (st : List Call)
      → ((lots (fl flags cursors row) (read flags cursors row) i c (sems (bounds flags cursors row i c s ns)) st).outs ≡ outs_of (falls tell_all fate_of idle (bounds flags cursors row i c s ns) st))
      × ((lots (fl flags cursors row) (read flags cursors row) i c (sems (bounds flags cursors row i c s ns)) st).cursors ≡ cursors_of (falls tell_all fate_of idle (bounds flags cursors row i c s ns) st))
  unfolding lots seats sems outs_of each
  falls_same i c s [] st = (refl, refl)
  falls_same i c s (n ∷ ns) st =
      let b = left_of (seat_of flags cursors row i c s n) (take (count_of n) (ups flags cursors row (suc i) (cell_after n c) (slot_after n s) ns)) in
      let e = first idle st in
      let h = falls_same (suc i) (cell_after n c) (slot_after n s) ns (tell n e.ticked (e.called && fl flags cursors row i) b.sem.kids ++ drop 1 st) in
      rw (first_top st, node_again n) (rw h.0 refl, rw (h.1, next_same n e.ticked (e.called && fl flags cursors row i) b.sem.cursor (read flags cursors row c)) refl)

  owned_shaped : (i c s : ℕ) (f : Forest ℕ) → Shaped kind_of f → Shaped kind_in (owned flags cursors row i c s f)
  unfolding owned
  owned_shaped i c s none h = tt
  owned_shaped i c s (node k kids rest) h = (
    rw (owned_width flags cursors row (suc i) (c + cells (kind_of k)) (s + slots (kind_of k)) kids) h.0,
    owned_shaped (suc i) (c + cells (kind_of k)) (s + slots (kind_of k)) kids h.1,
    owned_shaped (suc i + size kids) (c + cells (kind_of k) + cells_in kids) (s + slots (kind_of k) + slots_in kids) rest h.2,
  )

seats_all : (flags cursors row : List ℕ) (f : Forest ℕ) → seats flags cursors row 0 0 0 (nodes_of f) ≡ preorder (seated (owned flags cursors row 0 0 0 f))
unfolding seats
seats_all flags cursors row f = rw (append-nil (nodes_of f), append-nil (preorder (seated (owned flags cursors row 0 0 0 f)))) at (seats_append flags cursors row 0 0 0 f [])

-- the state that the lists hold
abbrev pub state_of : List ℕ → List ℕ → List ℕ → State
state_of flags cursors row = record { flag = fl flags cursors row; cursor = read flags cursors row; leafs = given flags cursors row }

pub walk_same : (f : Forest ℕ) → Shaped kind_of f → width f ≡ 1 → (flags cursors row : List ℕ)
    → ((list_walk (nodes_of f) (state_of flags cursors row)).outs ≡ outs_of (fates_of f flags cursors row))
    × ((list_walk (nodes_of f) (state_of flags cursors row)).cursors ≡ cursors_of (fates_of f flags cursors row))
unfolding list_walk fates_of
walk_same f shaped one flags cursors row =
    let g = owned flags cursors row 0 0 0 f in
    let sh : Shaped kind_in g = owned_shaped flags cursors row 0 0 0 f shaped in
    let told : List Call = root_call 0 ∷ [] in
    let e : seats flags cursors row 0 0 0 (nodes_of f) ≡ preorder (seated g) = seats_all flags cursors row f in
    let b : bounds flags cursors row 0 0 0 (nodes_of f) ≡ preorder (bound g) = rw e ((fold_up answer count left_of (seated g) (counted g sh)).1 ∙ lefts_are g) in
    let w : width g ≡ 1 = owned_width flags cursors row 0 0 0 f ∙ one in
    let d : falls tell_all fate_of idle (preorder (bound g)) told ≡ fates root_call 0 g
    = fold_down tell_all fate_of idle (bound g) told (all_tell g sh) (sym (bound_width g ∙ w)) ∙ rw w at (spreads_are root_call 0 g sh) in
    let s = falls_same flags cursors row 0 0 0 (nodes_of f) told in
    rw ((ups_same flags cursors row 0 0 0 (nodes_of f)).1, s.0, s.1, b, d) (refl, refl)
