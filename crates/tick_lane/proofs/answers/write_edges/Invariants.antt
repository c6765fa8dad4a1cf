-- The edges below the index are written.
use Rattle.std.proofs.Common.{◌≡◌}
use Rattle.lists.specs.Fill.{fill_at}
use Rattle.tick_lane.specs.Answers.{edge_at}
use Rattle.tick_lane.proofs.answers.write_edges.Given as goal

abbrev pub invariant-loop-i : goal.invariant-loop-i
invariant-loop-i l = l.edges ≡ fill_at 0 (edge_at l.nums l.flags l.outs) l.initial.edges l.i
