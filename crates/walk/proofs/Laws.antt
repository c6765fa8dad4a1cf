-- Laws of the walk: no node is both ticked and halted; how long the answers are; next cursors are at most 65,535.
use Prim.Native.Nat.{◌+◌, ◌≤◌, suc, ℕ}
use native.Mathlib.Omega.{arith}
use mathlib.Core.Bool.{Bool, ◌&&◌, ◌||◌, cond, false, not, true, true≢false}
use mathlib.Core.List.{List, [], ◌++◌, ◌∷◌}
use mathlib.Core.Path.{◌∙◌, ◌≡◌, ap, refl}
use lib.Dec.{T, leb, leb→le}
use lib.ListN.{get_or, length, length-append, length-map}
use Rattle.tree.specs.Forest.{Forest, node, none, size, width}
use Rattle.lists.proofs.Every.{all_append}
use Rattle.walk.specs.Kind.{Composite, Constant, Force, Inverter, Kind, Leaf, bit, cells, has_cursor, is_leaf, kind_of, slots}
use Rattle.lists.specs.Every.{All}
use Rattle.walk.specs.Status.{Status, advances, is_running_status}
use Rattle.walk.specs.Walk.{Answer, At, Call, Fate, Own, past_stop, answer_of, as_read, cells_in, count_in, each, edge, fates, fates_of, next_cursor, next_flag, owned, resume, resume_at, root_call, slots_in, start_of, stop_from, tells, walk, would_be}

-- ---- no node is both ticked and halted

abbrev pub Apart : Fate → Type 0
Apart x = x.ticked && x.halted ≡ false

-- a child is not ticked and called at once: if its parent was not ticked and halted
composite_apart : (t h from after : Bool) → t && h ≡ false → (t && (from && not after)) && (h || (t && after)) ≡ false
composite_apart false h from after e = refl
composite_apart true true from after e = absurd (true≢false e)
composite_apart true false true true e = refl
composite_apart true false true false e = refl
composite_apart true false false after e = refl

tells_apart : (k : Kind) (cursor : ℕ) (ss : List Status) (t h : Bool) → t && h ≡ false → (place : ℕ)
    → (tells k cursor ss t h place).ticked && (tells k cursor ss t h place).called ≡ false
tells_apart Leaf cursor ss t h e place = e
tells_apart (Constant own) cursor ss t h e place = e
tells_apart (Composite memory on) cursor ss t h e place =
    composite_apart t h (leb (start_of memory cursor) place) (past_stop (stop_from on (start_of memory cursor) 0 ss) place) e
tells_apart Inverter cursor ss t h e place = e
tells_apart (Force own) cursor ss t h e place = e

called_apart : (t called running : Bool) → t && called ≡ false → t && (called && running) ≡ false
called_apart false called running e = refl
called_apart true true running e = absurd (true≢false e)
called_apart true false running e = refl

fates_apart : (call : ℕ → Call) → ((p : ℕ) → (call p).ticked && (call p).called ≡ false) → (place : ℕ) (f : Forest Own) → All Apart (fates call place f)
unfolding fates
fates_apart call h place none = tt
fates_apart call h place (node x kids rest) =
    let t = (call place).ticked in
    let e : t && ((call place).called && x.running) ≡ false = called_apart t (call place).called x.running (h place) in
    let told = tells x.kind x.cursor (would_be kids) t ((call place).called && x.running) in (
      e,
      all_append Apart (fates told 0 kids) (fates call (suc place) rest)
          (fates_apart told (tells_apart x.kind x.cursor (would_be kids) t ((call place).called && x.running) e) 0 kids)
          (fates_apart call h (suc place) rest),
    )

pub never_both : (f : Forest ℕ) (flags cursors row : List ℕ) → All Apart (fates_of f flags cursors row)
unfolding fates_of
never_both f flags cursors row = fates_apart root_call (λ p. refl) 0 (owned flags cursors row 0 0 0 f)

-- ---- lengths

fates_length : (call : ℕ → Call) (place : ℕ) (f : Forest Own) → length (fates call place f) ≡ size f
unfolding fates
fates_length call place none = refl
fates_length call place (node x kids rest) =
    simp length-append (omega (arith, fates_length (tells x.kind x.cursor (would_be kids) (call place).ticked ((call place).called && x.running)) 0 kids, fates_length call (suc place) rest))

-- how many nodes of a forest have something, by kind
abbrev pub having : (Kind → Bool) → Forest Own → ℕ
having has none = 0
having has (node x kids rest) = bit (has x.kind) + having has kids + having has rest

one_length : (b : Bool) (n : ℕ) → length (cond b (n ∷ []) []) ≡ bit b
one_length true n = refl
one_length false n = refl

each_append : (has : Fate → Bool) (answer : Fate → ℕ) (xs ys : List Fate) → length (each has answer (xs ++ ys)) ≡ length (each has answer xs) + length (each has answer ys)
unfolding each
each_append has answer [] ys = omega arith
each_append has answer (x ∷ xs) ys = simp length-append (omega (arith, each_append has answer xs ys))

each_length : (has : Kind → Bool) (answer : Fate → ℕ) (call : ℕ → Call) (place : ℕ) (f : Forest Own)
    → length (each (λ x. has x.own.kind) answer (fates call place f)) ≡ having has f
unfolding fates each
each_length has answer call place none = refl
each_length has answer call place (node x kids rest) =
    let told = tells x.kind x.cursor (would_be kids) (call place).ticked ((call place).called && x.running) in
    simp (length-append, one_length, each_append) (omega (arith, each_length has answer told 0 kids, each_length has answer call (suc place) rest))

module _ (flags cursors row : List ℕ) where
  owned_size : (i c s : ℕ) (f : Forest ℕ) → size (owned flags cursors row i c s f) ≡ size f
  unfolding owned
  owned_size i c s none = refl
  owned_size i c s (node k kids rest) =
      omega (arith, owned_size (suc i) (c + cells (kind_of k)) (s + slots (kind_of k)) kids, owned_size (suc i + size kids) (c + cells (kind_of k) + cells_in kids) (s + slots (kind_of k) + slots_in kids) rest)

  owned_having : (has : Kind → Bool) (i c s : ℕ) (f : Forest ℕ) → having has (owned flags cursors row i c s f) ≡ count_in has f
  unfolding owned
  owned_having has i c s none = refl
  owned_having has i c s (node k kids rest) =
      omega (arith, owned_having has (suc i) (c + cells (kind_of k)) (s + slots (kind_of k)) kids, owned_having has (suc i + size kids) (c + cells (kind_of k) + cells_in kids) (s + slots (kind_of k) + slots_in kids) rest)

-- an answer with an entry for each node, for each cursor cell, for each leaf
pub record Whole (f : Forest ℕ) (a : Answer) : Type 0 where
  pub statuses : length a.statuses ≡ size f
  pub halts : length a.halts ≡ size f
  pub flags : length a.flags ≡ size f
  pub cursors : length a.cursors ≡ cells_in f
  pub edges : length a.edges ≡ slots_in f

pub lengths : (f : Forest ℕ) (flags cursors row : List ℕ) → Whole f (walk f flags cursors row)
unfolding walk fates_of answer_of
lengths f flags cursors row =
    let g = owned flags cursors row 0 0 0 f in
    let n : length (fates root_call 0 g) ≡ size f = fates_length root_call 0 g ∙ owned_size flags cursors row 0 0 0 f in
    record {
      statuses = simp length-map n;
      halts = simp length-map n;
      flags = simp length-map n;
      cursors = each_length has_cursor next_cursor root_call 0 g ∙ owned_having flags cursors row has_cursor 0 0 0 f;
      edges = each_length is_leaf (λ x. edge x.own.running (next_flag x)) root_call 0 g ∙ owned_having flags cursors row is_leaf 0 0 0 f;
    }

-- ---- next cursors

pub would_width : (f : Forest Own) → length (would_be f) ≡ width f
unfolding would_be
would_width none = refl
would_width (node x kids rest) = ap suc (would_width rest)

width_size : {X : Type 0} (f : Forest X) → width f ≤ size f
width_size none = omega arith
width_size (node x kids rest) = omega (arith, width_size rest)

-- a stop's position is below the number of children
resume_low : (on : Bool) (start place : ℕ) (ss : List Status) (n : ℕ) → place + length ss ≤ suc n → resume_at (stop_from on start place ss) ≤ n
unfolding stop_from
resume_low on start place [] n h = omega arith
resume_low on start place (s ∷ ss) n h = go (leb start place && not (advances on s)) (is_running_status s) (resume_low on start (suc place) ss n (omega arith))
  where
    at_low : (r : Bool) → cond r place 0 ≤ n
    at_low true = omega arith
    at_low false = omega arith

    go : (b r : Bool) → resume_at (stop_from on start (suc place) ss) ≤ n → resume_at (cond b (At place s) (stop_from on start (suc place) ss)) ≤ n
    go true r i = at_low (is_running_status s)
    go false r i = i

kind_low : (k : Kind) (cursor : ℕ) (ss : List Status) (n : ℕ) → length ss ≤ suc n → resume k cursor ss ≤ n
kind_low Leaf cursor ss n h = omega arith
kind_low (Constant own) cursor ss n h = omega arith
kind_low (Composite memory on) cursor ss n h = resume_low on (start_of memory cursor) 0 ss n (omega arith)
kind_low Inverter cursor ss n h = omega arith
kind_low (Force own) cursor ss n h = omega arith

pub read_low : (c : ℕ) → as_read c ≤ 65535
read_low c = go (leb c 65535) (leb→le c 65535)
  where
    go : (b : Bool) → (T b → c ≤ 65535) → cond b c 65535 ≤ 65535
    go true h = h tt
    go false h = omega arith

abbrev ReadLow : Forest Own → Type 0
ReadLow none = Unit {0}
ReadLow (node x kids rest) = (x.cursor ≤ 65535) × ReadLow kids × ReadLow rest

abbrev Low : Fate → Type 0
Low x = (x.own.cursor ≤ 65535) × (x.resume ≤ 65535)

fates_low : (call : ℕ → Call) (place : ℕ) (f : Forest Own) → ReadLow f → size f ≤ 65536 → All Low (fates call place f)
unfolding fates
fates_low call place none r h = tt
fates_low call place (node x kids rest) r h =
    let told = tells x.kind x.cursor (would_be kids) (call place).ticked ((call place).called && x.running) in (
      (r.0, kind_low x.kind x.cursor (would_be kids) 65535 (omega (arith, would_width kids, width_size kids))),
      all_append Low (fates told 0 kids) (fates call (suc place) rest) (fates_low told 0 kids r.1 (omega arith)) (fates_low call (suc place) rest r.2 (omega arith)),
    )

owned_low : (flags cursors row : List ℕ) (i c s : ℕ) (f : Forest ℕ) → ReadLow (owned flags cursors row i c s f)
unfolding owned
owned_low flags cursors row i c s none = tt
owned_low flags cursors row i c s (node k kids rest) = (
  read_low (get_or cursors c 0),
  owned_low flags cursors row (suc i) (c + cells (kind_of k)) (s + slots (kind_of k)) kids,
  owned_low flags cursors row (suc i + size kids) (c + cells (kind_of k) + cells_in kids) (s + slots (kind_of k) + slots_in kids) rest,
)

next_low : (x : Fate) → Low x → next_cursor x ≤ 65535
next_low x h = go x.ticked x.halted
  where
    go : (t u : Bool) → cond t x.resume (cond u 0 x.own.cursor) ≤ 65535
    go true u = h.1
    go false true = omega arith
    go false false = h.0

each_low : (has : Fate → Bool) (xs : List Fate) → All Low xs → All (λ (n : ℕ). n ≤ 65535) (each has next_cursor xs)
unfolding each
each_low has [] h = tt
each_low has (x ∷ xs) h = go (has x) (each_low has xs h.1)
  where
    go : (b : Bool) → All (λ (n : ℕ). n ≤ 65535) (each has next_cursor xs) → All (λ (n : ℕ). n ≤ 65535) (cond b (next_cursor x ∷ []) [] ++ each has next_cursor xs)
    go true i = (next_low x h.0, i)
    go false i = i

pub cursors_low : (f : Forest ℕ) (flags cursors row : List ℕ) → size f ≤ 65536 → All (λ (n : ℕ). n ≤ 65535) (walk f flags cursors row).cursors
unfolding walk fates_of answer_of
cursors_low f flags cursors row few =
    let g = owned flags cursors row 0 0 0 f in
    each_low (λ x. has_cursor x.own.kind) (fates root_call 0 g)
    (fates_low root_call 0 g (owned_low flags cursors row 0 0 0 f) (omega (arith, owned_size flags cursors row 0 0 0 f)))
