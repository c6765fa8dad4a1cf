-- `lower_reach::reach`: the nodes still to come, from where it stands, leave what all nodes leave.
use Rattle.std.proofs.Common.{◌≡◌, ◌-◌}
use Rattle.builder_table.specs.Loans.{memory, standing, LentAs}
use Rattle.lower_passes.specs.Marks.{down_at}
use Rattle.lower_passes.specs.Reach.{Bounded, reach_in}
use Rattle.lower_reach.proofs.reach.Given as goal

abbrev pub invariant-loop-i : goal.invariant-loop-i
invariant-loop-i l = record {
  lent : LentAs l.initial.b l.b;
  bounded : Bounded (down_at (standing l.b) l.v);
  rest : reach_in (memory l.b) (down_at (standing l.b) l.v) l.kinds l.counts l.nodes l.i (l.nodes - l.i)
      ≡ reach_in (memory l.initial.b) (down_at (standing l.initial.b) l.initial.v) l.kinds l.counts l.nodes 0 l.nodes;
}
