-- A tick: its answer, and what it leaves in everything lent, for every circuit, state and row. Definitions only.
use Rattle.std.specs.Prelude.{ℕ, ◌+◌, List, Ok, Bool, ◌&&◌, length, eqb, leb}
use Rattle.wire.specs.declared.Counts.{Counts}
use Rattle.tick_check.specs.Check.{Stored, circuit_ok}
use Rattle.tick_lane.specs.declared.TickError.TheVariants as is
use Rattle.tick_lane.specs.Lane.{Ticked, unless, Lent, Outcome, after, lane_of}

-- not "value table shorter than cells and ops together, or status, halt or edge output shorter than needed (N, N, L)"
abbrev pub room_for : Counts → ℕ → ℕ → ℕ → ℕ → Bool
room_for n values statuses halts edges =
    leb (n.cells + n.ops) values && (leb n.nodes statuses && (leb n.nodes halts && leb n.leaves edges))

-- of the lengths of what is lent: "17 BadCircuit; 11 LeafCount, 12 StateShape, 13 CursorCount: leaf row, flags, cursors not of the plan's length; 14 ShortRoom"
unfoldable pub shapes_of : Stored → ℕ → ℕ → ℕ → ℕ → ℕ → ℕ → ℕ → Ticked
shapes_of s row flags cursors values statuses halts edges =
    let n = s.counts in
    unless (circuit_ok s) is.BadCircuit
    (unless (eqb row n.leaves) (is.LeafCount row)
    (unless (eqb flags n.nodes) (is.StateShape flags)
    (unless (eqb cursors n.cursors) (is.CursorCount cursors)
    (unless (room_for n values statuses halts edges) is.ShortRoom (Ok tt)))))

abbrev pub gate_of : Stored → List ℕ → Lent → Ticked
gate_of s row l =
    shapes_of s (length row) (length l.flags) (length l.cursors) (length l.values) (length l.statuses) (length l.halts) (length l.edges)

-- in this order: 17, 11, 12, 13, 14; then 15, 16, 18 of the one part that there is
unfoldable pub tick_of : Stored → List ℕ → Lent → Outcome
unfolding shapes_of lane_of
tick_of s row l = after (gate_of s row l) l (lane_of s row l)
