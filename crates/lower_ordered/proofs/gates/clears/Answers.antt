-- `lower_ordered::gates::clears`: a turn makes the first of the children still to come.
use Rattle.std.proofs.Common.{rules, arith, ◌≡◌, suc, ◌+◌, ◌-◌}
use Rattle.lower_passes.specs.Gates.{clears_in}
use Rattle.lower_ordered.proofs.gates.clears.Goals as goal

pub loop-k-preserved : goal.loop-k-preserved
unfolding clears_in
loop-k-preserved c =
    let one_more : c.args.n - c.loop-k.k ≡ suc (c.args.n - (c.loop-k.k + 1)) = omega arith in
    record { lent = search rules; rest = rw (one_more, clears_in, ← c.clear_one-earlier.ensures.made) at c.loop-k.invariant.rest }
