-- `list_rows::rows::list_rows`: what is printed so far, then the rest, is what there is to print.
use Rattle.std.proofs.Common.{◌≡◌, ◌-◌, false, length}
use Rattle.tick_check.specs.Check.{stored_in}
use Rattle.list_rows.specs.Left.{kept_in, LentAs}
use Rattle.list_rows.proofs.Going.{Going}
use Rattle.list_rows.proofs.rows.list_rows.Given as goal

abbrev pub invariant-loop-out : goal.invariant-loop-out
invariant-loop-out l =
    record {
      going : Going (stored_in l.circuit) l.bytes l.initial.out l.from l.number (kept_in l.initial.state) l.out l.run (kept_in l.state);
      lent : LentAs l.initial.state l.state;
      due : l.run.ended ≡ false;
    }

abbrev pub decreases-loop-out : goal.decreases-loop-out
decreases-loop-out l = length l.bytes - l.run.read
