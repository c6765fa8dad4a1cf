-- `list_turns::input::front`: a read more.
use Rattle.std.proofs.Common.{arith}
use Rattle.list_turns.proofs.Went.{front_more}
use Rattle.list_turns.proofs.input.front.Goals as goal

pub loop-preserved : goal.loop-preserved
loop-preserved g c =
    let read = c.in-Ok.ensures in
    record { room = omega (arith, read.room); bytes = front_more _ _ _ _ _ _ _ c.loop.invariant.bytes read.before read.bytes }
