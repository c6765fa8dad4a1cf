-- The halts below the index are written.
use Rattle.std.proofs.Common.{◌≡◌}
use Rattle.lists.specs.Fill.{fill_at}
use Rattle.tick_lane.specs.Answers.{halt_at}
use Rattle.tick_lane.proofs.answers.write_halts.Given as goal

abbrev pub invariant-loop-i : goal.invariant-loop-i
invariant-loop-i l = l.halts ≡ fill_at 0 (halt_at l.outs) l.initial.halts l.i
