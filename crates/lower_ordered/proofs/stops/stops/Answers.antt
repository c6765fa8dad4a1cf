-- `lower_ordered::stops::stops`: a turn makes the first of the children still to come.
use Rattle.std.proofs.Common.{rules, arith, ap, ◌∙◌, ◌≡◌, suc, ◌+◌, ◌-◌}
use Rattle.builder_table.specs.Work.{Stood}
use Rattle.lower_passes.specs.Stops.{reach_in, stops_in}
use Rattle.lower_ordered.proofs.stops.stops.Goals as goal

pub loop-k-preserved : goal.loop-k-preserved
unfolding stops_in
loop-k-preserved c =
    let one_more : c.args.n - c.loop-k.k ≡ suc (c.args.n - (c.loop-k.k + 1)) = omega arith in
    let reached = c.reach_one.ensures.left ∙ ap (λ (s : Stood). reach_in s.mem s.builder c.loop-k.k (c.args.row + c.loop-k.k)) c.save.ensures.left in
    record { lent = search rules; rest = rw (one_more, stops_in, ← reached, ← c.stop_one-sum.ensures.made) at c.loop-k.invariant.rest }
