-- The flags below the index are written.
use Rattle.std.proofs.Common.{◌≡◌}
use Rattle.lists.specs.Fill.{fill_at}
use Rattle.tick_lane.specs.Answers.{flag_at}
use Rattle.tick_lane.proofs.answers.write_flags.Given as goal

abbrev pub invariant-loop-i : goal.invariant-loop-i
invariant-loop-i l = l.flags ≡ fill_at 0 (flag_at l.outs) l.initial.flags l.i
