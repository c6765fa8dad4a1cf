-- `plan::lists::report_order` meets its contract: a turn of the inner loop opens a node, and one of the outer loop closes one.
use Rattle.std.proofs.Common.{◌∙◌, ◌≡◌, ap, inl, inr, ◌+◌, ◌-◌, ◌<◌, length, set, arith, length-take}
use Rattle.plan.specs.Plan.{report_of}
use Rattle.plan.proofs.Reports.{At, slot, start, closes, opens, ended}
use Rattle.plan.proofs.lists.report_order.Goals as goal
use Rattle.plan.proofs.lists.report_order.Goals.{After-put, then-loop-stack-test+else-node-nodes, else-loop-stack-test}

pub loop-done-init : goal.loop-done-init
loop-done-init c = start _ _ (omega (arith, ap length c.nodes_in-nodes.ensures, length-take 128 c.args.counts.now))

pub loop-stack-preserved : goal.loop-stack-preserved
loop-stack-preserved c = opens c.loop-stack.invariant c.loop-stack-test.true c.if-node-nodes.true

-- the innermost open node is closed
shut : (c : After-put) → (0 < c.loop-stack.depth) × At c.nodes_in-nodes.result.now c.args.report.now
    (set c.loop-done.report c.loop-done.done (slot c.loop-stack.stack c.loop-stack.depth).node)
    c.loop-stack.stack (c.loop-stack.depth - 1) c.loop-stack.node (c.loop-done.done + 1)
shut c =
    closes c.loop-stack.invariant c.loop-done-test.true (elim c.loop-stack-test.branch [
      | then-loop-stack-test+else-node-nodes w ↦ inr w.if-node-nodes.false
      | else-loop-stack-test w ↦ inl w.loop-stack-test.false
    ])

pub overflow_sub-depth : goal.overflow_sub-depth
overflow_sub-depth c = (shut (goal.at.overflow_sub-depth c).After-put).0

pub loop-done-preserved : goal.loop-done-preserved
loop-done-preserved c = rw c.put.ensures (shut (goal.at.loop-done-preserved c).After-put).1

pub returns : goal.returns
unfolding report_of
returns c =
    let reported = rw c.nodes_in-nodes.ensures at (ended c.loop-done.invariant c.loop-done-test.false) in
    let all : length c.nodes_in-nodes.result.now ≡ c.loop-done.done = omega arith in
    record { value = all ∙ reported.0; report_after = reported.1 }
