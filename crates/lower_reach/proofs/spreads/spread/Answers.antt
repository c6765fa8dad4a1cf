-- `lower_reach::spreads::spread`: a turn tells the first of the children still to come.
use Rattle.std.proofs.Common.{rules, arith, ◌≡◌, suc, ◌+◌, ◌-◌}
use Rattle.lower_passes.specs.Reach.{spread_in}
use Rattle.lower_reach.proofs.spreads.spread.Goals as goal

pub loop-k-preserved : goal.loop-k-preserved
unfolding spread_in
loop-k-preserved c =
    let one_more : c.args.n - c.loop-k.k ≡ suc (c.args.n - (c.loop-k.k + 1)) = omega arith in
    record { lent = search rules; rest = rw (one_more, spread_in, ← c.spread_one.ensures.left) at c.loop-k.invariant.rest }
