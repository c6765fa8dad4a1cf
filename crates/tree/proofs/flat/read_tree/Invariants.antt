-- `tree::flat::read_tree`: the loop keeps `At`, what is left of the parse; the measure counts the nodes that may come and the open ancestors.
use Rattle.std.proofs.Common.{◌+◌, ◌*◌, ◌-◌}
use Rattle.tree.proofs.Turn.{At}
use Rattle.tree.proofs.flat.read_tree.Given as goal

abbrev pub invariant-loop-depth : goal.invariant-loop-depth
invariant-loop-depth l = At l.bytes l.initial.kinds l.initial.counts l.kinds l.counts l.pend l.depth l.at l.node

abbrev pub decreases-loop-depth : goal.decreases-loop-depth
decreases-loop-depth l = 2 * (129 - l.node) + l.depth
