-- The flags' cells below the index are written.
use Rattle.std.proofs.Common.{◌≡◌}
use Rattle.lists.specs.Fill.{fill_at}
use Rattle.tick_lane.specs.Evaluate.{flag_cell}
use Rattle.tick_lane.proofs.evaluate.put_flags.Given as goal

abbrev pub invariant-loop-i : goal.invariant-loop-i
invariant-loop-i l = l.table ≡ fill_at 0 (flag_cell l.flags) l.initial.table l.i
