-- `list_turns::whole::list`: the front, and by what is due the rows, more or nothing.
use Rattle.std.proofs.Common.{take}
use Rattle.std.proofs.lemmas.Slice.{between_is}
use Rattle.list_ends.specs.Ends.{last_line}
use Rattle.list_start.specs.Left.{rooms_in}
use Rattle.list_turns.proofs.Went.{lists_then}
use Rattle.list_turns.proofs.Begun.{front_read, nothing_follows, more_follows, rows_follow, where_ok}
use Rattle.list_turns.proofs.whole.list.Goals as goal

pub returns-in-Rows : goal.returns-in-Rows
returns-in-Rows g c = λ lent.
    let m = rooms_in c.args.storage.now c.args.work.now in
    let buffer = c.read_whole.new.buffer in
    let bytes = take c.in-Ok.have buffer in
    let front = front_read bytes (g.W.Write.contents c.args.output.now) c.in-Ok.ensures.bytes in
    let rest = between_is buffer c.in_ok-begun.begun.read c.in-Ok.have in
    let rows = rows_follow m bytes c.in_ok-begun.ensures _ lent c.in-Rows.counts c.in-Rows.is _ c.circuit_in-circuit.ensures _ rest in
    where_ok c.list_all.result (λ h. lists_then front (lists_then rows h)) c.list_all.ensures

pub returns-in-More : goal.returns-in-More
unfolding last_line
returns-in-More g c = λ lent.
    let m = rooms_in c.args.storage.now c.args.work.now in
    let bytes = take c.in-Ok.have c.read_whole.new.buffer in
    let front = front_read bytes (g.W.Write.contents c.args.output.now) c.in-Ok.ensures.bytes in
    let more = more_follows m bytes c.in_ok-begun.ensures _ lent c.in-More.is c.in-Ok.ensures.end in
    where_ok c.show_last-in-More.result (λ h. lists_then front (more h)) c.show_last-in-More.ensures

pub returns-in-Nothing : goal.returns-in-Nothing
returns-in-Nothing g c = λ lent.
    let m = rooms_in c.args.storage.now c.args.work.now in
    let bytes = take c.in-Ok.have c.read_whole.new.buffer in
    let front = front_read bytes (g.W.Write.contents c.args.output.now) c.in-Ok.ensures.bytes in
    lists_then front (nothing_follows m bytes c.in_ok-begun.ensures _ lent c.in-Nothing.is)
