-- The output forms so far pass.
use Rattle.std.proofs.Common.{◌≡◌, ◌+◌, ◌*◌, true}
use Rattle.lists.specs.All.{all}
use Rattle.wire.specs.Storage.{outputs_from}
use Rattle.tick_check.specs.Parts.{range_ok}
use Rattle.tick_check.proofs.outs_ok.Given as goal

abbrev pub invariant-loop-k : goal.invariant-loop-k
invariant-loop-k l =
    let c = l.circuit in
    all (λ i. range_ok c.pools.wires.now c.counts.terms l.table c.nums.now (outputs_from + 2 * i)) l.k ≡ true
