-- `lower_ordered::gates::gates`: the children still to come, from where it stands, leave what all children leave.
use Rattle.std.proofs.Common.{◌≡◌, ◌-◌}
use Rattle.builder_table.specs.Loans.{memory, standing, LentAs}
use Rattle.lower_passes.specs.Gates.{gates_in}
use Rattle.lower_ordered.proofs.gates.gates.Given as goal

abbrev pub invariant-loop-k : goal.invariant-loop-k
invariant-loop-k l = record {
  lent : LentAs l.initial.b l.b;
  rest : gates_in (memory l.b) (standing l.b) l.cursor l.top l.k (l.n - l.k) ≡ gates_in (memory l.initial.b) (standing l.initial.b) l.cursor l.top 0 l.n;
}
