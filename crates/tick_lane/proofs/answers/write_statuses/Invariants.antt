-- The statuses below the index are written.
use Rattle.std.proofs.Common.{◌≡◌}
use Rattle.lists.specs.Fill.{fill_at}
use Rattle.tick_lane.specs.Answers.{status_at}
use Rattle.tick_lane.proofs.answers.write_statuses.Given as goal

abbrev pub invariant-loop-i : goal.invariant-loop-i
invariant-loop-i l = l.statuses ≡ fill_at 0 (status_at l.outs) l.initial.statuses l.i
