-- `lower_ordered::gates::clears`: the children still to come, from where it stands, leave what all children leave.
use Rattle.std.proofs.Common.{◌≡◌, ◌-◌}
use Rattle.exact.specs.Whole.{zero32}
use Rattle.wire.specs.Terms.{constant_form}
use Rattle.builder_table.specs.Loans.{memory, standing, LentAs}
use Rattle.lower_passes.specs.Gates.{clears_in}
use Rattle.lower_ordered.proofs.gates.clears.Given as goal

abbrev pub invariant-loop-k : goal.invariant-loop-k
invariant-loop-k l = record {
  lent : LentAs l.initial.b l.b;
  rest : clears_in (memory l.b) (standing l.b) l.earlier l.k (l.n - l.k) ≡ clears_in (memory l.initial.b) (standing l.initial.b) (constant_form zero32) 0 l.n;
}
