-- What a gate that passes tells.
use Rattle.std.proofs.Common.{◌≡◌, ℕ, true, List, Ok, length, arith}
use Rattle.std.proofs.lemmas.Bool.Decides.{nat_tests}
use Rattle.wire.specs.declared.Circuit.{Circuit}
use Rattle.tick_check.specs.Check.{stored_in, circuit_ok}
use Rattle.tick_check.proofs.Checked.{checked}
use Rattle.tick_lane.specs.declared.lent.Lane.{Lane}
use Rattle.tick_lane.specs.Loans.{lent_in, Ready}
use Rattle.tick.specs.Tick.{shapes_of, gate_of}

pub ready : (c : Circuit) (row : List ℕ) (l : Lane) → gate_of (stored_in c) row (lent_in l) ≡ Ok tt → Ready c l
unfolding shapes_of
ready c row l h =
    let ok : circuit_ok (stored_in c) ≡ true = grind (arith, nat_tests) in
    record {
      checked = checked (stored_in c) ok;
      flags = grind (arith, nat_tests);
      cursors = grind (arith, nat_tests);
      values = grind (arith, nat_tests);
      statuses = grind (arith, nat_tests);
      halts = grind (arith, nat_tests);
      edges = grind (arith, nat_tests);
    }

pub row_fits : (c : Circuit) (row : List ℕ) (l : Lane) → gate_of (stored_in c) row (lent_in l) ≡ Ok tt → length row ≡ c.counts.leaves
unfolding shapes_of
row_fits c row l h = grind (arith, nat_tests)
