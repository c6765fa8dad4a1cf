-- The verdicts below the index are sound.
use Rattle.std.proofs.Common.{◌≡◌, Ok}
use Rattle.tick_verdict.specs.Verdict.{first_of, low_at}
use Rattle.tick_verdict.proofs.lows_verdict.Given as goal

abbrev pub invariant-loop-i : goal.invariant-loop-i
invariant-loop-i l = first_of (low_at l.outs l.nodes) l.i ≡ Ok tt
