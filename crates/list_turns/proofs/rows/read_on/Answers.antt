-- `list_turns::rows::read_on`: what moved to the front, and what was read behind it.
use Rattle.list_turns.proofs.Went.{grown}
use Rattle.list_turns.proofs.rows.read_on.Goals as goal

pub returns-clause-read : goal.returns-clause-read
returns-clause-read g c =
    let moved = c.move_down-left.ensures in
    let read = c.in_ok-more.ensures in
    let inside = c.requires.inside in
    grown c.args.buffer.now _ _ _ _ _ _ inside.0 inside.1 moved.value moved.buffer_after read.before read.bytes
