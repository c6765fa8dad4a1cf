-- `lower_arbitrate::arbitrate`: the nodes still to come, from where it stands, leave what all nodes leave.
use Rattle.std.proofs.Common.{◌≡◌}
use Rattle.builder_table.specs.Loans.{memory, standing, LentAs}
use Rattle.lower_passes.specs.Marks.{up_at}
use Rattle.lower_passes.specs.Arbitrate.{Bounded, arbitrate_in}
use Rattle.lower_arbitrate.proofs.arbitrate.Given as goal

abbrev pub invariant-loop-i : goal.invariant-loop-i
invariant-loop-i l = record {
  lent : LentAs l.initial.b l.b;
  bounded : Bounded (up_at (standing l.b) l.u);
  rest : arbitrate_in (memory l.b) (up_at (standing l.b) l.u) l.kinds l.counts l.nodes l.base l.i
      ≡ arbitrate_in (memory l.initial.b) (up_at (standing l.initial.b) l.initial.u) l.kinds l.counts l.nodes l.base l.nodes;
}
