-- The leaves' cells below the index are written.
use Rattle.std.proofs.Common.{◌≡◌}
use Rattle.tick_lane.specs.Evaluate.{leaves_at}
use Rattle.tick_lane.proofs.evaluate.put_leaves.Given as goal

abbrev pub invariant-loop-i : goal.invariant-loop-i
invariant-loop-i l = l.table ≡ leaves_at l.base l.row l.initial.table l.i
