-- `list_text::fields::append_marks`: a mark more.
use Rattle.std.proofs.Common.{arith}
use Rattle.std.proofs.lemmas.Grind.{common_steps}
use Rattle.list_text.proofs.Bytes.{marks_more}
use Rattle.list_text.proofs.fields.append_marks.Goals as goal

pub loop-i-preserved : goal.loop-i-preserved
loop-i-preserved c =
    let more = marks_more c.args.statuses.now c.args.halts.now c.loop-i.i c.loop-i-test.true in
    grind (arith, common_steps)
