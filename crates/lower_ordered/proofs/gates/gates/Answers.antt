-- `lower_ordered::gates::gates`: a turn makes the first of the children still to come.
use Rattle.std.proofs.Common.{rules, arith, ◌≡◌, suc, ◌+◌, ◌-◌}
use Rattle.lower_passes.specs.Gates.{gates_in}
use Rattle.lower_ordered.proofs.gates.gates.Goals as goal

pub loop-k-preserved : goal.loop-k-preserved
unfolding gates_in
loop-k-preserved c =
    let one_more : c.args.n - c.loop-k.k ≡ suc (c.args.n - (c.loop-k.k + 1)) = omega arith in
    record { lent = search rules; rest = rw (one_more, gates_in, ← c.load.ensures, ← c.gate_one.ensures.left) at c.loop-k.invariant.rest }
