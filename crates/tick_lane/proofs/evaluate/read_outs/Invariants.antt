-- The values below the index are written.
use Rattle.std.proofs.Common.{◌≡◌}
use Rattle.lists.specs.Fill.{fill_at}
use Rattle.tick_check.specs.Check.{stored_in}
use Rattle.tick_lane.specs.Evaluate.{out_value}
use Rattle.tick_lane.proofs.evaluate.read_outs.Given as goal

abbrev pub invariant-loop-k : goal.invariant-loop-k
invariant-loop-k l = l.outs ≡ fill_at 0 (out_value (stored_in l.circuit) l.table) l.initial.outs l.k
