-- `list_turns::rows::take_turns`: the last turn.
use Rattle.list_turns.proofs.Went.{lists_then}
use Rattle.list_turns.proofs.rows.take_turns.Goals as goal

pub returns-in_default : goal.returns-in_default
returns-in_default g c = lists_then c.loop.invariant.went (rw c.in_default.is at c.in_ok-next.ensures.went)
