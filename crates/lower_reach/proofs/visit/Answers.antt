-- `lower_reach::visit`: what a leaf, a decorator and a composite without a cursor leave, for these nodes.
use Rattle.std.proofs.Common.{rules, inl, inr}
use Rattle.lower_passes.specs.Reach.{node_in}
use Rattle.lower_reach.proofs.visit.Goals as goal

pub returns-in-Leaf-clause-lowered : goal.returns-in-Leaf-clause-lowered
unfolding node_in
returns-in-Leaf-clause-lowered c =
    let left = c.leaf.ensures.lowered c.args.nodes in
    elim c.in-Leaf.is [ inl e ↦ rw e left | inr e ↦ rw e.1 left ]

pub returns-in-Invert-clause-lowered : goal.returns-in-Invert-clause-lowered
unfolding node_in
returns-in-Invert-clause-lowered c =
    let left = c.decorator.ensures.lowered c.args.nodes in
    elim c.in-Invert.is [ inl e ↦ rw e left | inr e ↦ rw e.1 left ]

pub returns-in-Ordered-false-default-default-clause-lowered : goal.returns-in-Ordered-false-default-default-clause-lowered
unfolding node_in
returns-in-Ordered-false-default-default-clause-lowered c =
    let left = c.reactive.ensures.lowered c.args.nodes in search rules
