-- `lower_tree::lower_nodes` meets its contract.
use Rattle.builder_table.specs.Work.{mem, stood}
use Rattle.builder_table.specs.Loans.{memory, standing}
use Rattle.lower_tree.proofs.Lowered.{Settles, settles, lowered}
use Rattle.lower_tree.proofs.lower_nodes.Goals as goal
use Rattle.lower_tree.proofs.lower_nodes.Goals.{After-build}

built : (c : After-build) → Settles (stood (memory c.build.new.b) (standing c.build.new.b)) c.write_lists-plan.result c.args.kinds.now c.args.counts.now
built c =
    let a = c.args in
    let m = mem a.wires.now a.coefs.now a.nums.now a.biases.now in
    settles m a.kinds.now a.counts.now c.requires.builds c.write_lists-plan.ensures.plan c.build.ensures.left

pub settle-requires-clause-ops_inside : goal.settle-requires-clause-ops_inside
settle-requires-clause-ops_inside c = (built (goal.at.settle-requires-clause-ops_inside c).After-build).ops_lie

pub settle-requires-clause-outputs_inside : goal.settle-requires-clause-outputs_inside
settle-requires-clause-outputs_inside c = (built (goal.at.settle-requires-clause-outputs_inside c).After-build).outputs_lie

pub settle-requires-clause-terms_few : goal.settle-requires-clause-terms_few
settle-requires-clause-terms_few c = (built (goal.at.settle-requires-clause-terms_few c).After-build).terms_few

pub returns-clause-outcome : goal.returns-clause-outcome
returns-clause-outcome c =
    let a = c.args in
    let listed = c.write_lists-plan in
    lowered (built (goal.at.returns-clause-outcome c).After-build) a.storage.now listed.new.storage _ _ _ _
    c.requires.zeroed listed.ensures.listed listed.ensures.kept c.settle.ensures.outcome
