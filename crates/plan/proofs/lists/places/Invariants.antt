-- `plan::lists::places`: the loop keeps `At`, what is listed so far and what is still to be.
use Rattle.plan.specs.Plan.{either_kind}
use Rattle.plan.proofs.Places.{At}
use Rattle.plan.proofs.lists.places.Given as goal

abbrev pub invariant-loop-node : goal.invariant-loop-node
invariant-loop-node l = At (either_kind l.one l.other) l.kind-items l.initial.list l.list l.found l.node
