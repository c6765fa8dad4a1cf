-- `plan::lists::report_order`: both loops keep `At`, what is reported so far and what is still to be.
use Rattle.std.proofs.Common.{◌-◌, length}
use Rattle.plan.proofs.Reports.{At}
use Rattle.plan.proofs.lists.report_order.Given as goal

abbrev pub invariant-loop-done : goal.invariant-loop-done
invariant-loop-done l = At l.nodes l.initial.report l.report l.stack l.depth l.node l.done

abbrev pub invariant-loop-stack : goal.invariant-loop-stack
invariant-loop-stack l = At l.nodes l.fn.report l.report l.stack l.depth l.node l.done

abbrev pub decreases-loop-stack : goal.decreases-loop-stack
decreases-loop-stack l = length l.nodes - l.node
