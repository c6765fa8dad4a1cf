-- `lower_tree::lower_tree` meets its contract.
use Rattle.std.proofs.Common.{sym, ap, ◌∙◌}
use Rattle.std.proofs.lemmas.Result.{err_from_is_err_and}
use Rattle.tree.specs.Tree.{tree_of, flat_of}
use Rattle.compile.specs.Lending.{lent_in}
use Rattle.compile.specs.Compile.{compile_tree}
use Rattle.builder_table.specs.Work.{mem}
use Rattle.lower_tree.proofs.Lowered.{Ready, ready, refused_is}
use Rattle.lower_tree.proofs.lower_tree.Goals as goal
use Rattle.lower_tree.proofs.lower_tree.Goals.{In_ok-nodes}

pub returns-in_err-nodes-clause-outcome : goal.returns-in_err-nodes-clause-outcome
unfolding flat_of
returns-in_err-nodes-clause-outcome c =
    let a = c.args in
    let z = c.requires.zeroed in
    let e = c.in_err-nodes.ensures.value in
    let p = err_from_is_err_and c.from_residual.result c.from_residual.ensures.1 in
    rw (p.1, p.2) (refused_is (tree_of a.tree.now) (lent_in a.storage.now a.work.now) a.storage.now e z.nums z.biases z.wires z.coefs)

nodes : (c : In_ok-nodes) → let w = c.args.work.now in
    Ready c.args.tree.now c.flatten.new.kinds c.flatten.new.counts c.in_ok-nodes.nodes (mem w.wires.now w.coefs.now w.nums.now w.biases.now)
nodes c =
    let a = c.args in
    let e = c.in_ok-nodes.ensures in
    ready a.storage.now a.work.now c.requires.enough a.tree.now c.type_inv.tree e.value e.kinds_after e.counts_after

pub lower_nodes-requires-clause-builds : goal.lower_nodes-requires-clause-builds
lower_nodes-requires-clause-builds c = (nodes (goal.at.lower_nodes-requires-clause-builds c).In_ok-nodes).builds

pub returns-clause-outcome : goal.returns-clause-outcome
returns-clause-outcome c =
    let lent = lent_in c.args.storage.now c.args.work.now in
    c.lower_nodes.ensures.outcome ∙ ap (compile_tree lent) (sym (nodes (goal.at.returns-clause-outcome c).In_ok-nodes).tree)
