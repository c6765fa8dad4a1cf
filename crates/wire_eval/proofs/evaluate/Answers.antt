-- `wire_eval::evaluate` meets its contract.
use native.Mathlib.Omega.{arith}
use Rattle.wire_eval.proofs.Running.{bad_high, good_before}
use Rattle.wire_eval.proofs.evaluate.Goals as goal

pub run_ops-requires : goal.run_ops-requires
run_ops-requires c = record {
  ops_in_bounds = omega (arith, bad_high);
  by_index = good_before _ _ _ _ _ _ _ c.first_bad-good.ensures;
}
