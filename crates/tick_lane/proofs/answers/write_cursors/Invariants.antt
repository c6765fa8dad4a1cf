-- The cursors below the index are written.
use Rattle.std.proofs.Common.{◌≡◌}
use Rattle.lists.specs.Fill.{fill_at}
use Rattle.tick_lane.specs.Answers.{cursor_at}
use Rattle.tick_lane.proofs.answers.write_cursors.Given as goal

abbrev pub invariant-loop-i : goal.invariant-loop-i
invariant-loop-i l = l.cursors ≡ fill_at 0 (cursor_at l.outs l.nodes) l.initial.cursors l.i
