-- `lower_reach_node::flags::next_running`: the flags still to be made, from where it stands, leave what all flags leave.
use Rattle.std.proofs.Common.{◌≡◌, ◌-◌}
use Rattle.builder_table.specs.Loans.{memory, standing, LentAs}
use Rattle.lower_passes.specs.Reach.{flags_in}
use Rattle.lower_reach_node.proofs.flags.next_running.Given as goal

abbrev pub invariant-loop-i : goal.invariant-loop-i
invariant-loop-i l = record {
  lent : LentAs l.initial.b l.b;
  rest : flags_in (memory l.b) (standing l.b) l.i (l.nodes - l.i) ≡ flags_in (memory l.initial.b) (standing l.initial.b) 0 l.nodes;
}
