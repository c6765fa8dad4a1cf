-- `wire_pool::sum` meets its contract.
use mathlib.Core.Path.{◌≡◌}
use Rattle.wire.specs.Terms.{value_in}
use Rattle.wire.specs.Circuit.{meaning_in}
use Rattle.wire_pool.proofs.Sums.{rest}
use Rattle.wire_pool.proofs.sum.Given as goal

abbrev pub invariant-loop-at : goal.invariant-loop-at
invariant-loop-at l = rest l.pools.wires.now l.pools.coefs.now l.table l.fn.f l.at l.total ≡ value_in l.table (meaning_in l.pools l.fn.f)
