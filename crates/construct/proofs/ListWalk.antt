-- The walk as two folds over nodes in pre-order, in the construction's shape: what the construction is proved to compute. That it is the
-- direct walk over the tree is a law of its own, one crate up.
use Prim.Native.Nat.{◌*◌, suc, ℕ}
use mathlib.Core.Bool.{Bool, ◌&&◌, ◌||◌, cond, false, not, true}
use mathlib.Core.List.{List, [], ◌++◌, ◌∷◌}
use lib.Dec.{leb}
use lib.ListN.{drop, take}
use Rattle.construct.specs.Lower.{Flat, cell_after, fixed, force, invert, leaf, ordered, slot_after, top}
use Rattle.walk.specs.Kind.{bit}
use Rattle.walk.specs.Status.{Status, Success, done, exchanged, forced_to, is_running_status, is_success}
use Rattle.walk.specs.Walk.{Call}

-- the walk of a sequence from the child `start`: child k blocks it; the status; the next cursor
abbrev pub blk : ℕ → ℕ → Status → Bool
blk start k s = not (leb (suc k) start || is_success s)

unfoldable pub walked : ℕ → ℕ → List Status → Status
walked start k [] = Success
walked start k (s ∷ ss) = cond (blk start k s) s (walked start (suc k) ss)

unfoldable pub resumed : ℕ → ℕ → List Status → ℕ
resumed start k [] = 0
resumed start k (s ∷ ss) = cond (blk start k s) (k * bit (is_running_status s)) (resumed start (suc k) ss)

unfoldable pub flips : List Status → List Status
flips [] = []
flips (s ∷ ss) = exchanged s ∷ flips ss

-- the walk's view of a composite: the children's statuses turned so that it advances on success
abbrev pub turned : Bool → List Status → List Status
turned true ss = ss
turned false ss = flips ss

abbrev pub turn : Bool → Status → Status
turn true s = s
turn false s = exchanged s

-- ---- bottom-up: would-be statuses, with what each node keeps of its children
pub record Mark : Type 0 where
  pub reached : Bool
  pub stopped : Bool

unfoldable pub marks : ℕ → ℕ → Bool → List Status → List Mark
marks start k g [] = []
marks start k g (s ∷ ss) = record { reached = g && not (leb (suc k) start); stopped = not g } ∷ marks start (suc k) (g && not (blk start k s)) ss

pub record Sem : Type 0 where
  pub node : Flat
  pub raw : Status
  pub kids : List Mark
  pub cursor : ℕ

pub record Would : Type 0 where
  pub stack : List Status
  pub sems : List Sem

abbrev pub plain_s : Flat → Status → List Status → Would → Would
plain_s n t ts u = record { stack = t ∷ ts; sems = record { node = n; raw = t; kids = []; cursor = 0 } ∷ u.sems }

module _ (leaves : ℕ → Status) (cursors : ℕ → ℕ) where
  abbrev pub start_at : Bool → ℕ → ℕ
  start_at true c = cursors c
  start_at false c = 0

  unfoldable pub would_step : Flat → ℕ → ℕ → Would → Would
  would_step leaf s c u = plain_s leaf (leaves s) u.stack u
  would_step (fixed b) s c u = plain_s (fixed b) (done b) u.stack u
  would_step invert s c u = plain_s invert (exchanged (top Success u.stack)) (drop 1 u.stack) u
  would_step (force b) s c u = plain_s (force b) (forced_to b (top Success u.stack)) (drop 1 u.stack) u
  would_step (ordered m q n) s c u =
      let ss = turned q (take n u.stack) in
      let t = turn q (walked (start_at m c) 0 ss) in
      record { stack = t ∷ drop n u.stack; sems = record { node = ordered m q n; raw = t; kids = marks (start_at m c) 0 true ss; cursor = resumed (start_at m c) 0 ss } ∷ u.sems }

  unfoldable pub woulds : ℕ → ℕ → List Flat → Would
  woulds s c [] = record { stack = []; sems = [] }
  woulds s c (n ∷ ns) = would_step n s c (woulds (slot_after n s) (cell_after n c) ns)

-- ---- top-down: what is told to the children, and what becomes of each node and cursor
pub record Lot : Type 0 where
  pub raw : Status
  pub ticked : Bool
  pub halted : Bool
  pub flag : Bool

pub record Lots : Type 0 where
  pub outs : List Lot
  pub cursors : List ℕ

unfoldable pub calls : Bool → Bool → List Mark → List Call
calls t h [] = []
calls t h (m ∷ ms) = record { ticked = t && m.reached; called = h || (t && m.stopped) } ∷ calls t h ms

unfoldable pub tell : Flat → Bool → Bool → List Mark → List Call
tell leaf t h ms = []
tell (fixed b) t h ms = []
tell invert t h ms = record { ticked = t; called = h } ∷ []
tell (force b) t h ms = record { ticked = t; called = h } ∷ []
tell (ordered m q n) t h ms = calls t h ms

-- the next cursor: ticked, where the stop left it; halted, 0; else as it was
unfoldable pub next_c : Flat → Bool → Bool → ℕ → ℕ → List ℕ
next_c leaf t h x y = []
next_c (fixed b) t h x y = []
next_c invert t h x y = []
next_c (force b) t h x y = []
next_c (ordered true q n) t h x y = cond t x (cond h 0 y) ∷ []
next_c (ordered false q n) t h x y = []

-- the next flag: ticked, whether it runs; halted, 0; else as it was
abbrev pub next_f : Lot → Bool
next_f f = cond f.ticked (is_running_status f.raw) (cond f.halted false f.flag)

abbrev pub idle : Call
idle = record { ticked = false; called = false }

unfoldable pub lots : (ℕ → Bool) → (ℕ → ℕ) → ℕ → ℕ → List Sem → List Call → Lots
lots fl cu i c [] st = record { outs = []; cursors = [] }
lots fl cu i c (x ∷ xs) st =
    let e = top idle st in
    let h = e.called && fl i in
    let rest = lots fl cu (suc i) (cell_after x.node c) xs (tell x.node e.ticked h x.kids ++ drop 1 st) in
    record {
      outs = record { raw = x.raw; ticked = e.ticked; halted = h; flag = fl i } ∷ rest.outs;
      cursors = next_c x.node e.ticked h x.cursor (cu c) ++ rest.cursors;
    }
