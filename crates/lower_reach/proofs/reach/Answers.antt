-- `lower_reach::reach`: a turn visits the first of the nodes still to come.
use Rattle.std.proofs.Common.{rules, arith, ◌≡◌, suc, ◌+◌, ◌-◌}
use Rattle.lower_passes.specs.Reach.{reach_in}
use Rattle.lower_reach.proofs.reach.Goals as goal

pub loop-i-preserved : goal.loop-i-preserved
unfolding reach_in
loop-i-preserved c =
    let one_more : c.args.nodes - c.loop-i.i ≡ suc (c.args.nodes - (c.loop-i.i + 1)) = omega arith in
    record {
      lent = search rules;
      bounded = c.step-v.ensures.bounded;
      rest = rw (one_more, reach_in, ← c.of-node.ensures, ← c.step-v.ensures.lowered.made) at c.loop-i.invariant.rest;
    }
