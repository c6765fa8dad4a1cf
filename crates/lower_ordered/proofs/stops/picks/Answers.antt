-- `lower_ordered::stops::picks`: a turn makes the first of the children still to come.
use Rattle.std.proofs.Common.{rules, arith, ◌≡◌, suc, ◌+◌, ◌-◌}
use Rattle.lower_passes.specs.Stops.{picks_in}
use Rattle.lower_ordered.proofs.stops.picks.Goals as goal

pub loop-k-preserved : goal.loop-k-preserved
unfolding picks_in
loop-k-preserved c =
    let one_more : c.args.n - c.loop-k.k ≡ suc (c.args.n - (c.loop-k.k + 1)) = omega arith in
    record {
      lent = search rules;
      rest = rw (one_more, picks_in, ← c.load.ensures, ← c.load-in-loop-k.ensures, ← c.pick_one-picks.ensures.made) at c.loop-k.invariant.rest;
    }
