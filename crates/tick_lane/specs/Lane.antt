-- One tick of a circuit that has passed its check, on parts of the right lengths: refusals 15, 16 and 18, and what an accepted tick leaves. Definitions only.
use Rattle.std.specs.Prelude.{ℕ, suc, List, [], ◌∷◌, Bool, Result, Ok, Err, ⊤, is_ok, cond, length, ltb, eqb, Float}
use Rattle.tick_verdict.specs.Verdict.{Verdict, tick_verdict, node_of}
use Rattle.tick_verdict.specs.Refusal as broken
use Rattle.wire.specs.declared.Counts.{Counts}
use Rattle.lists.specs.Fill.{prefix}
use Rattle.tick_lane.specs.Answers.{status_at, halt_at, flag_at, edge_at, cursor_at}
use Rattle.tick_check.specs.Check.{Stored}
use Rattle.tick_lane.specs.Evaluate.{table_of, outs_of}
use Rattle.tick_lane.specs.declared.TickError.{TickError}
use Rattle.tick_lane.specs.declared.TickError.TheVariants as is

-- ---- the answer: document 01's number and place for each case

-- that a tick is accepted, or why it is refused
abbrev pub Ticked : Type 0
Ticked = Result ⊤ TickError

abbrev pub number_of : Ticked → ℕ
number_of (Ok done) = 0
number_of (Err is.BadCircuit) = 17
number_of (Err (is.LeafCount given)) = 11
number_of (Err (is.StateShape given)) = 12
number_of (Err (is.CursorCount given)) = 13
number_of (Err is.ShortRoom) = 14
number_of (Err (is.BadStatus slot)) = 15
number_of (Err (is.BadFlag node)) = 16
number_of (Err (is.BadInvariant what)) = 18

abbrev pub place_of : Ticked → ℕ
place_of (Ok done) = 0
place_of (Err is.BadCircuit) = 0
place_of (Err (is.LeafCount given)) = given
place_of (Err (is.StateShape given)) = given
place_of (Err (is.CursorCount given)) = given
place_of (Err is.ShortRoom) = 0
place_of (Err (is.BadStatus slot)) = slot
place_of (Err (is.BadFlag node)) = node.0
place_of (Err (is.BadInvariant what)) = broken.place_of what

abbrev pub accepted : Ticked → Bool
accepted t = is_ok t

-- the next answer where a test holds, and a refusal where it does not
abbrev pub unless : Bool → TickError → Ticked → Ticked
unless test refusal next = cond test next (Err refusal)

-- ---- what is lent to be written, and what a tick makes of it

pub record Lent : Type 0 where
  pub flags : List ℕ
  pub cursors : List ℕ
  pub values : List Float
  pub statuses : List ℕ
  pub halts : List ℕ
  pub edges : List ℕ

pub record Outcome : Type 0 where
  pub answer : Ticked
  pub left : Lent

abbrev pub lent : List ℕ → List ℕ → List Float → List ℕ → List ℕ → List ℕ → Lent
lent flags cursors values statuses halts edges =
    record { flags = flags; cursors = cursors; values = values; statuses = statuses; halts = halts; edges = edges }

abbrev pub outcome : Ticked → Lent → Outcome
outcome t l = record { answer = t; left = l }

-- "Ticking refusals write nothing"
abbrev pub after : Ticked → Lent → Outcome → Outcome
after t l next = cond (accepted t) next (outcome t l)

-- ---- 15 and 16

-- the first entry above a number, or the length where there is none
unfoldable pub first_above : ℕ → List ℕ → ℕ
first_above most [] = 0
first_above most (x ∷ xs) = cond (ltb most x) 0 (suc (first_above most xs))

-- "15 BadStatus, 16 BadFlag: a leaf status above 2; a flag above 1 (first one)"
unfoldable pub inputs_of : List ℕ → List ℕ → Ticked
unfolding first_above
inputs_of row flags =
    unless (eqb (first_above 2 row) (length row)) (is.BadStatus (first_above 2 row))
    (unless (eqb (first_above 1 flags) (length flags)) (is.BadFlag (node_of (first_above 1 flags))) (Ok tt))

-- ---- 18, and an accepted tick

-- "An accepted tick writes the needed prefix of each output and nothing past it."
unfoldable pub written : Counts → List ℕ → List Float → Lent → Lent
written n nums outs l =
    record {
      flags = prefix (flag_at outs) n.nodes l.flags;
      cursors = prefix (cursor_at outs n.nodes) n.cursors l.cursors;
      values = l.values;
      statuses = prefix (status_at outs) n.nodes l.statuses;
      halts = prefix (halt_at outs) n.nodes l.halts;
      edges = prefix (edge_at nums l.flags outs) n.leaves l.edges;
    }

-- of the verdict on the output values, with the value table computed
abbrev pub judged : Verdict → Lent → Lent → Outcome
judged (Ok sound) made l = outcome (Ok tt) made
judged (Err what) made l = outcome (Err (is.BadInvariant what)) l

-- "18 leaves the value table computed" and writes nothing else
unfoldable pub settle_of : Counts → List ℕ → List Float → Lent → Outcome
unfolding written
settle_of n nums outs l = judged (tick_verdict outs n.nodes n.cursors) (written n nums outs l) l

abbrev pub computed : Lent → List Float → Lent
computed l table = lent l.flags l.cursors table l.statuses l.halts l.edges

unfoldable pub lane_of : Stored → List ℕ → Lent → Outcome
unfolding inputs_of settle_of
lane_of s row l =
    let table = table_of s row l.flags l.cursors l.values in
    after (inputs_of row l.flags) l (settle_of s.counts s.nums (outs_of s table) (computed l table))
