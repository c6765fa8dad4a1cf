-- `list_turns::rows::take_turn`: a run over the bytes that are there, and where it read none, bytes more.
use Rattle.std.proofs.Common.{◌≡◌, ◌-◌, length, arith}
use Rattle.std.proofs.lemmas.Grind.{common_steps}
use Rattle.tick_check.specs.Check.{stored_in}
use Rattle.list_rows.specs.Left.{kept_in}
use Rattle.list_turns.specs.Went.{unread_in}
use Rattle.list_turns.proofs.Went.{rows_end, rows_go, rows_cut, rows_more, rows_over, goes_then, lists_then, unread_on}
use Rattle.list_turns.proofs.rows.take_turn.Goals as goal

pub returns-then-run-clause-went : goal.returns-then-run-clause-went
returns-then-run-clause-went g c =
    let here = unread_in c.args.buffer.now c.args.turn in
    rows_end (stored_in c.args.circuit.now) here c.args.turn.number (kept_in c.args.state.now) _ c.in_ok-run.ensures.listed c.if-run.true

pub returns-then-run-ne0-clause-went : goal.returns-then-run-ne0-clause-went
returns-then-run-ne0-clause-went g c =
    let turn = c.args.turn in
    let here = unread_in c.args.buffer.now turn in
    let there = c.in_ok-run.ensures.there in
    rw (← unread_on c.args.buffer.now turn.at c.in_ok-run.run'.read turn.end (grind (arith, common_steps)))
    (rows_go (stored_in c.args.circuit.now) here turn.number (kept_in c.args.state.now) _ c.in_ok-run.ensures.listed c.if-run.false)

pub read_on-requires-clause-room : goal.read_on-requires-clause-room
read_on-requires-clause-room g c =
    let here = unread_in c.args.buffer.now c.args.turn in
    let run = c.in_ok-run.ensures in
    let cut = rows_cut (stored_in c.args.circuit.now) here c.args.turn.number (kept_in c.args.state.now) (g.R.Read.remaining c.args.input.now) run.listed
    c.if-run.false c.if-run-ne0.false in
    omega (arith, run.short cut)

pub returns-in-Ok-Some-clause-went : goal.returns-in-Ok-Some-clause-went
returns-in-Ok-Some-clause-went g c =
    let s = stored_in c.args.circuit.now in
    let turn = c.args.turn in
    let here = unread_in c.args.buffer.now turn in
    let k = kept_in c.args.state.now in
    let known = g.R.Read.remaining c.args.input.now in
    let listed = rw c.if-run-ne0.false at (rows_go s here turn.number k known c.in_ok-run.ensures.listed c.if-run.false) in
    let number = rw c.in-Ok-Some.field-0-is at c.in-Ok-Some.ensures.number in
    let read = rw c.in-Ok-Some.field-0-is at c.in-Ok-Some.ensures.read in
    rw number (goes_then listed (rows_more s here _ _ _ read))

pub returns-in_ok-show_last-in-Ok-None-clause-went : goal.returns-in_ok-show_last-in-Ok-None-clause-went
returns-in_ok-show_last-in-Ok-None-clause-went g c =
    let s = stored_in c.args.circuit.now in
    let turn = c.args.turn in
    let here = unread_in c.args.buffer.now turn in
    let k = kept_in c.args.state.now in
    let known = g.R.Read.remaining c.args.input.now in
    let run = c.in_ok-run.ensures.listed in
    let none = c.if-run-ne0.false in
    let listed = rw none at (rows_go s here turn.number k known run c.if-run.false) in
    let cut = rows_cut s here turn.number k known run c.if-run.false none in
    let left : turn.end - turn.at ≡ length here = grind (arith, common_steps) in
    let over = rw c.in-Ok-None.field-0-is at c.in-Ok-None.ensures.read in
    lists_then listed (rows_over s here _ _ cut over (rw (← left) c.in_ok-show_last-in-Ok-None.ensures))
