-- `lower_ordered::stops::stops`: the children still to come, from where it stands, leave what all children leave.
use Rattle.std.proofs.Common.{◌≡◌, ◌-◌}
use Rattle.exact.specs.Whole.{zero32}
use Rattle.wire.specs.Terms.{constant_form}
use Rattle.builder_table.specs.Loans.{memory, standing, LentAs}
use Rattle.lower_passes.specs.Stops.{stops_in}
use Rattle.lower_ordered.proofs.stops.stops.Given as goal

abbrev pub invariant-loop-k : goal.invariant-loop-k
invariant-loop-k l = record {
  lent : LentAs l.initial.b l.b;
  rest : stops_in (memory l.b) (standing l.b) l.sum l.row l.k (l.n - l.k)
      ≡ stops_in (memory l.initial.b) (standing l.initial.b) (constant_form zero32) l.row 0 l.n;
}
