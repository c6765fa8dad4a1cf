-- `plan::lists::places` meets its contract: the loop keeps `At`, what is listed so far and what is still to be.
use Rattle.std.proofs.Common.{rules, ◌≡◌, ◌∙◌, ap, length, arith, length-take}
use Rattle.plan.specs.Plan.{either_kind, places_from, nodes_in}
use Rattle.plan.proofs.Places.{start, passed, failed, ended, either_true, either_false}
use Rattle.plan.proofs.lists.places.Goals as goal
use Rattle.plan.proofs.lists.places.Goals.{then-kind-one, else-kind-one+else-kind-other}

pub loop-node-init : goal.loop-node-init
loop-node-init c = start _ _ _

pub overflow_cast-node : goal.overflow_cast-node
overflow_cast-node c = omega (arith, ap length c.nodes_in-kind-items.ensures, length-take 128 c.args.kinds.now)

pub loop-node-preserved : goal.loop-node-preserved
loop-node-preserved c =
    elim c.if-kind-one.branch [
      | then-kind-one w ↦
          rw (w.list-is ∙ w.put.ensures, w.found-is)
          (passed _ _ _ _ _ _ c.loop-node.invariant c.loop-node-test.true (either_true _ _ _ w.then-kind-one.either))
      | else-kind-one+else-kind-other w ↦
          rw (w.list-is, w.found-is)
          (failed _ _ _ _ _ _ c.loop-node.invariant c.loop-node-test.true (either_false _ _ _ w.if-kind-one.false w.if-kind-other.false))
    ]

pub returns : goal.returns
returns c =
    let e : places_from (either_kind c.args.one c.args.other) 0 c.nodes_in-kind-items.result.now
    ≡ places_from (either_kind c.args.one c.args.other) 0 (nodes_in c.args.kinds.now)
    = ap (places_from (either_kind c.args.one c.args.other) 0) c.nodes_in-kind-items.ensures in
    let listed = ended _ _ _ _ _ _ c.loop-node.invariant c.loop-node-test.false in
    search rules
