-- `lower_reach_node::flags::next_running`: a turn makes the first of the flags still to be made.
use Rattle.std.proofs.Common.{rules, arith, ◌≡◌, suc, ◌+◌, ◌-◌}
use Rattle.lower_passes.specs.Reach.{flags_in}
use Rattle.lower_reach_node.proofs.flags.next_running.Goals as goal

pub loop-i-preserved : goal.loop-i-preserved
unfolding flags_in
loop-i-preserved c =
    let one_more : c.args.nodes - c.loop-i.i ≡ suc (c.args.nodes - (c.loop-i.i + 1)) = omega arith in
    record { lent = search rules; rest = rw (one_more, flags_in, ← c.flag_one.ensures.left) at c.loop-i.invariant.rest }
