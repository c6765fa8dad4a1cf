-- `lower_reach::spreads::spread`: the children still to come, from where it stands, leave what all children leave.
use Rattle.std.proofs.Common.{◌≡◌, ◌-◌}
use Rattle.builder_table.specs.Loans.{memory, standing, LentAs}
use Rattle.lower_passes.specs.Reach.{spread_in}
use Rattle.lower_reach.proofs.spreads.spread.Given as goal

abbrev pub invariant-loop-k : goal.invariant-loop-k
invariant-loop-k l = record {
  lent : LentAs l.initial.b l.b;
  rest : spread_in (memory l.b) (standing l.b) l.reached.0 l.halted.0 l.row l.d l.k (l.n - l.k)
      ≡ spread_in (memory l.initial.b) (standing l.initial.b) l.reached.0 l.halted.0 l.row l.d 0 l.n;
}
