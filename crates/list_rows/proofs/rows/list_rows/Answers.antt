-- `list_rows::rows::list_rows`: what is printed so far, then the rest, is what there is to print.
use Rattle.std.proofs.Common.{rules, refl, arith}
use Rattle.tick_check.specs.Check.{stored_in}
use Rattle.list_rows.specs.Left.{kept_in}
use Rattle.list_rows.proofs.Going.{going_none, reads_on, reads_some, writes_on, going_more, going_waits, going_ends, going_full}
use Rattle.list_rows.proofs.rows.list_rows.Goals as goal

pub loop-out-init : goal.loop-out-init
loop-out-init c =
    record {
      going = going_none (stored_in c.args.circuit.now) c.args.bytes.now c.args.out.now c.args.from c.args.number (kept_in c.args.state.now) _ refl refl refl;
      lent = search rules;
      due = refl;
    }

pub overflow_add-run : goal.overflow_add-run
overflow_add-run c =
    let read = reads_on c.loop-out.invariant.going c.step_into-step.ensures.left.read_is in
    omega arith

pub overflow_add-run-in-loop-out : goal.overflow_add-run-in-loop-out
overflow_add-run-in-loop-out c =
    let wrote = writes_on c.loop-out.invariant.going c.loop-out-test.true c.step_into-step.ensures.left.wrote_is in
    omega arith

pub loop-out-smaller : goal.loop-out-smaller
loop-out-smaller c =
    let going = c.loop-out.invariant.going in
    let left = c.step_into-step.ensures.left in
    let read = reads_on going left.read_is in
    let some = reads_some going left.read_is left.next_is c.in-Goes.is in
    omega arith

pub loop-out-preserved : goal.loop-out-preserved
loop-out-preserved c =
    let step = c.step_into-step.ensures in
    record {
      going = going_more c.loop-out.invariant.going _ _ _ c.loop-out-test.true step.left step.before _ refl refl refl c.in-Goes.is;
      lent = search rules;
      due = c.loop-out.invariant.due;
    }

pub returns-in-Waits-clause-left : goal.returns-in-Waits-clause-left
returns-in-Waits-clause-left c =
    let step = c.step_into-step.ensures in
    going_waits c.loop-out.invariant.going _ _ _ c.loop-out-test.true step.left step.before _ refl refl refl c.in-Waits.is c.loop-out.invariant.due

pub returns-in-Ended-clause-left : goal.returns-in-Ended-clause-left
returns-in-Ended-clause-left c =
    let step = c.step_into-step.ensures in
    going_ends c.loop-out.invariant.going _ _ _ c.loop-out-test.true step.left step.before _ refl refl refl c.in-Ended.is refl

pub returns-clause-left : goal.returns-clause-left
returns-clause-left c = going_full c.loop-out.invariant.going c.loop-out-test.false c.loop-out.invariant.due
