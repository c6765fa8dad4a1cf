-- The cursors' cells below the index are written.
use Rattle.std.proofs.Common.{◌≡◌}
use Rattle.lists.specs.Fill.{fill_at}
use Rattle.tick_lane.specs.Evaluate.{cursor_cell}
use Rattle.tick_lane.proofs.evaluate.put_cursors.Given as goal

abbrev pub invariant-loop-i : goal.invariant-loop-i
invariant-loop-i l = l.table ≡ fill_at l.base (cursor_cell l.cursors) l.initial.table l.i
