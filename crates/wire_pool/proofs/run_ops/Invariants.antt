-- `wire_pool::run_ops` meets its contract.
use mathlib.Core.Path.{◌≡◌}
use Rattle.wire.specs.Circuit.{op_in}
use Rattle.wire_pool.specs.Values.{table_after}
use Rattle.wire_pool.proofs.run_ops.Given as goal

abbrev pub invariant-loop-i : goal.invariant-loop-i
invariant-loop-i l = l.table ≡ table_after (op_in l.circuit) l.circuit.counts.cells l.initial.table l.i
