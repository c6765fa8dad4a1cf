-- The direct walk over a tree, in document 01's words and order. Each node first gets its own flag, cursor and given status, so that the walk
-- looks nothing up. Answers are lists in pre-order.
use Rattle.std.specs.Prelude.{ℕ, suc, ◌+◌, Bool, true, false, not, cond, ◌&&◌, ◌||◌, List, [], ◌∷◌, ◌++◌, map, leb, ltb, get_or}
use Rattle.plan.specs.Plan.{report_in}
use Rattle.tree.specs.Forest.{Forest, none, node, size}
use Rattle.walk.specs.Status.{Status, Success, code_of, not_ticked, status_of, is_running_status, done, exchanged, forced_to, advances}
use Rattle.walk.specs.Kind.{Kind, Leaf, Constant, Composite, Inverter, Force, kind_of, bit, is_leaf, has_cursor, cells, slots}

-- ---- what is given

-- how many nodes of a forest are of certain kinds: those with a cursor cell, the leaves
abbrev pub count_in : (Kind → Bool) → Forest ℕ → ℕ
count_in has none = 0
count_in has (node k kids rest) = bit (has (kind_of k)) + count_in has kids + count_in has rest

abbrev pub cells_in : Forest ℕ → ℕ
cells_in f = count_in has_cursor f

abbrev pub slots_in : Forest ℕ → ℕ
slots_in f = count_in is_leaf f

-- the one way that a flag is read: whether the node was running
abbrev pub is_running : ℕ → Bool
is_running flag = ltb 0 flag

-- "the cursor, read as 65,535 if larger"
abbrev pub as_read : ℕ → ℕ
as_read cursor = cond (leb cursor 65535) cursor 65535

-- a node with what is its own
pub record Own : Type 0 where
  pub kind : Kind
  pub running : Bool
  pub cursor : ℕ
  pub given : Status

-- flags by node, cursors by cell, the row by slot, each numbered in pre-order from i, c and s on
module _ (flags cursors row : List ℕ) where
  unfoldable pub owned : ℕ → ℕ → ℕ → Forest ℕ → Forest Own
  owned i c s none = none
  owned i c s (node k kids rest) =
      let kind = kind_of k in
      node
      (record { kind = kind; running = is_running (get_or flags i 0); cursor = as_read (get_or cursors c 0); given = status_of (get_or row s 0) })
      (owned (suc i) (c + cells kind) (s + slots kind) kids)
      (owned (suc i + size kids) (c + cells kind + cells_in kids) (s + slots kind + slots_in kids) rest)

-- ---- start and stop

-- "start at 0 if reactive, else at the cursor"
abbrev pub start_of : Bool → ℕ → ℕ
start_of memory cursor = cond memory cursor 0

pub data Stop : Type 0 where
  Nowhere : Stop
  -- the child's position and would-be status
  At : ℕ → Status → Stop

-- "The stop is the first child from there on whose would-be status is not the advance one."
unfoldable pub stop_from : Bool → ℕ → ℕ → List Status → Stop
stop_from on start place [] = Nowhere
stop_from on start place (s ∷ ss) = cond (leb start place && not (advances on s)) (At place s) (stop_from on start (suc place) ss)

-- whether a child stands after the stop
abbrev pub past_stop : Stop → ℕ → Bool
past_stop Nowhere place = false
past_stop (At p s) place = ltb p place

-- ---- would-be status

-- "The status is the stop's, or the advance status if there is none."
abbrev pub stop_status : Bool → Stop → Status
stop_status on Nowhere = done on
stop_status on (At p s) = s

-- a decorator's one child
abbrev pub only : List Status → Status
only [] = Success
only (s ∷ ss) = s

-- "Would-be status: a leaf's given one; constants; .."
abbrev pub would : Kind → ℕ → Status → List Status → Status
would Leaf cursor given ss = given
would (Constant own) cursor given ss = done own
would (Composite memory on) cursor given ss = stop_status on (stop_from on (start_of memory cursor) 0 ss)
would Inverter cursor given ss = exchanged (only ss)
would (Force own) cursor given ss = forced_to own (only ss)

unfoldable pub would_be : Forest Own → List Status
would_be none = []
would_be (node x kids rest) = would x.kind x.cursor x.given (would_be kids) ∷ would_be rest

-- ---- ticked and halted

-- what a node is told by its parent
pub record Call : Type 0 where
  pub ticked : Bool
  pub called : Bool

-- "Ticked: .. a decorator's child when it is ticked; a ticked composite's children from start through the stop, or to the end."
-- "Halt called: on children of a halted node, and on children after the stop of a ticked composite, memory composites too."
abbrev pub tells : Kind → ℕ → List Status → Bool → Bool → ℕ → Call
tells Leaf cursor ss ticked halted place = record { ticked = ticked; called = halted }
tells (Constant own) cursor ss ticked halted place = record { ticked = ticked; called = halted }
tells (Composite memory on) cursor ss ticked halted place =
    let start = start_of memory cursor in
    let after = past_stop (stop_from on start 0 ss) place in
    record { ticked = ticked && (leb start place && not after); called = halted || (ticked && after) }
tells Inverter cursor ss ticked halted place = record { ticked = ticked; called = halted }
tells (Force own) cursor ss ticked halted place = record { ticked = ticked; called = halted }

-- the cursor that a ticked node leaves: "the stop's position if the stop is running, else 0"
abbrev pub resume_at : Stop → ℕ
resume_at Nowhere = 0
resume_at (At p s) = cond (is_running_status s) p 0

abbrev pub resume : Kind → ℕ → List Status → ℕ
resume Leaf cursor ss = 0
resume (Constant own) cursor ss = 0
resume (Composite memory on) cursor ss = resume_at (stop_from on (start_of memory cursor) 0 ss)
resume Inverter cursor ss = 0
resume (Force own) cursor ss = 0

-- what becomes of a node
pub record Fate : Type 0 where
  pub own : Own
  pub would : Status
  pub ticked : Bool
  pub halted : Bool
  pub resume : ℕ

-- the trees of a forest from the child at `place` on, each told what `call` tells it.
-- "Halted: called, and the flag was 1. A called node with flag 0 passes nothing down."
unfoldable pub fates : (ℕ → Call) → ℕ → Forest Own → List Fate
fates call place none = []
fates call place (node x kids rest) =
    let ss = would_be kids in
    let ticked = (call place).ticked in
    let halted = (call place).called && x.running in
    record { own = x; would = would x.kind x.cursor x.given ss; ticked = ticked; halted = halted; resume = resume x.kind x.cursor ss }
    ∷ (fates (tells x.kind x.cursor ss ticked halted) 0 kids ++ fates call (suc place) rest)

-- "Ticked: the root"
abbrev pub root_call : ℕ → Call
root_call place = record { ticked = true; called = false }

-- ---- answers

abbrev pub status : Fate → ℕ
status x = cond x.ticked (code_of x.would) not_ticked

-- "Next flag: ticked, 1 exactly if running; halted, 0; else as it was."
abbrev pub next_flag : Fate → Bool
next_flag x = cond x.ticked (is_running_status x.would) (cond x.halted false x.own.running)

-- "Next cursor: ticked, the stop's position if the stop is running, else 0; halted, 0; else the cursor as read."
abbrev pub next_cursor : Fate → ℕ
next_cursor x = cond x.ticked x.resume (cond x.halted 0 x.own.cursor)

-- "Edge of a leaf: 1 when its flag goes 0 to 1, 2 when 1 to 0, else 0."
abbrev pub edge : Bool → Bool → ℕ
edge was is = cond was (cond is 0 2) (cond is 1 0)

-- an answer for each node of which `has` holds
unfoldable pub each : (Fate → Bool) → (Fate → ℕ) → List Fate → List ℕ
each has answer [] = []
each has answer (x ∷ xs) = cond (has x) (answer x ∷ []) [] ++ each has answer xs

pub record Answer : Type 0 where
  pub statuses : List ℕ
  pub halts : List ℕ
  pub flags : List ℕ
  pub cursors : List ℕ
  pub edges : List ℕ

unfoldable pub answer_of : List Fate → Answer
answer_of xs = record {
  statuses = map status xs;
  halts = map (λ x. bit x.halted) xs;
  flags = map (λ x. bit (next_flag x)) xs;
  cursors = each (λ x. has_cursor x.own.kind) next_cursor xs;
  edges = each (λ x. is_leaf x.own.kind) (λ x. edge x.own.running (next_flag x)) xs;
}

-- the fates of a tree's nodes
unfoldable pub fates_of : Forest ℕ → List ℕ → List ℕ → List ℕ → List Fate
unfolding owned fates would_be stop_from
fates_of f flags cursors row = fates root_call 0 (owned flags cursors row 0 0 0 f)

-- the tree's answer to its flags, cursors and leaf row
unfoldable pub walk : Forest ℕ → List ℕ → List ℕ → List ℕ → Answer
unfolding fates_of answer_of each
walk f flags cursors row = answer_of (fates_of f flags cursors row)

-- "Report order: post-order, for ticks and halts alike." It is the plan's.
abbrev pub report_order : Forest ℕ → List ℕ
report_order f = report_in f
