-- `validate::judge`: the values of the output forms are those that stand first in the room.
use Rattle.std.proofs.Common.{arith, replicate}
use Rattle.std.proofs.lemmas.List.{length-replicate}
use Rattle.exact.specs.Whole.{zero32}
use Rattle.tick_check.specs.Check.{stored_in}
use Rattle.tick_lane.proofs.Cells.{outs_part}
use Rattle.validate.proofs.judge.Goals as goal

pub returns : goal.returns
returns c =
    let first = outs_part (stored_in c.args.circuit.now) c.args.table.now (replicate 896 zero32) (omega (arith, length-replicate 896 zero32)) in
    cc
