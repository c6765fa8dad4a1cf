-- `lower_ordered::stops::picks`: the children still to come, from where it stands, leave what all children leave.
use Rattle.std.proofs.Common.{◌≡◌, ◌-◌}
use Rattle.builder_table.specs.Loans.{memory, standing, LentAs}
use Rattle.lower_passes.specs.Marks.{picked_at}
use Rattle.lower_passes.specs.Ordered.{no_pick}
use Rattle.lower_passes.specs.Stops.{picks_in}
use Rattle.lower_ordered.proofs.stops.picks.Given as goal

abbrev pub invariant-loop-k : goal.invariant-loop-k
invariant-loop-k l = record {
  lent : LentAs l.initial.b l.b;
  rest : picks_in (memory l.b) (picked_at (standing l.b) l.picks) l.others l.runs l.k (l.n - l.k)
      ≡ picks_in (memory l.initial.b) (no_pick (standing l.initial.b)) l.others l.runs 0 l.n;
}
