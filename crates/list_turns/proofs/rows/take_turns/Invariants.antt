-- `list_turns::rows::take_turns`: what was read and written so far, and what is still to be.
use Rattle.list_rows.specs.Left.{kept_in}
use Rattle.tick_check.specs.Check.{stored_in}
use Rattle.list_turns.specs.Went.{Goes, Inside, turn_due}
use Rattle.list_turns.proofs.rows.take_turns.Given as goal

abbrev pub invariant-loop : goal.invariant-loop
invariant-loop g l =
    record {
      inside : Inside l.buffer l.turn;
      went : Goes (turn_due (stored_in l.circuit) l.initial.buffer l.fn.first (kept_in l.initial.state))
          (turn_due (stored_in l.circuit) l.buffer l.turn (kept_in l.state))
          (g.R.Read.remaining l.initial.input) (g.R.Read.remaining l.input) (g.W.Write.contents l.initial.output) (g.W.Write.contents l.output);
    }
