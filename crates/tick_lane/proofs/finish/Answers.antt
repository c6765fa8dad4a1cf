-- The values that are settled are those that were read.
use Rattle.std.proofs.Common.{◌≡◌, ap, ◌∙◌, take, List, Float}
use Rattle.wire.specs.Storage.{output_count}
use Rattle.tick_check.specs.Check.{stored_in}
use Rattle.tick_lane.specs.Lane.{settle_of}
use Rattle.tick_lane.specs.Loans.{lent_in}
use Rattle.tick_lane.specs.Evaluate.{outs_of}
use Rattle.tick_lane.proofs.Cells.{outs_part}
use Rattle.tick_lane.proofs.finish.Goals as goal

pub returns-clause-outcome : goal.returns-clause-outcome
returns-clause-outcome c =
    let circuit = c.args.circuit.now in
    let lane = c.args.lane.now in
    let n = output_count circuit.counts in
    let read : take n c.read_outs.new.outs ≡ outs_of (stored_in circuit) lane.values.now =
    ap (take n) c.read_outs.ensures ∙ outs_part (stored_in circuit) lane.values.now c.args.room.now c.requires.1 in
    c.settle.ensures.outcome ∙ ap (λ (outs : List Float). settle_of circuit.counts circuit.nums.now outs (lent_in lane)) read
