-- The ops so far pass.
use Rattle.std.proofs.Common.{◌≡◌, ◌+◌, ◌*◌, true}
use Rattle.lists.specs.All.{all}
use Rattle.wire.specs.Storage.{ops_from}
use Rattle.tick_check.specs.Parts.{op_ranges}
use Rattle.tick_check.proofs.ops_ok.Given as goal

abbrev pub invariant-loop-i : goal.invariant-loop-i
invariant-loop-i l =
    let c = l.circuit in
    all (λ k. op_ranges c.pools.wires.now c.counts.terms (c.counts.cells + k) c.nums.now (ops_from + 5 * k)) l.i ≡ true
