-- The verdicts below the index are sound.
use Rattle.std.proofs.Common.{◌≡◌, Ok}
use Rattle.tick_verdict.specs.Verdict.{first_of, cursor_at}
use Rattle.tick_verdict.proofs.cursors_verdict.Given as goal

abbrev pub invariant-loop-i : goal.invariant-loop-i
invariant-loop-i l = first_of (cursor_at l.outs l.nodes) l.i ≡ Ok tt
