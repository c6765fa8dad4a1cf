-- `wire_layers::depth` meets its contract.
use Rattle.std.proofs.Common.{arith}
use Rattle.wire_layers.proofs.Largest.{largest_next, largest_end}
use Rattle.wire_layers.proofs.depth.Goals as goal
use Rattle.wire_layers.proofs.depth.Goals.{then-most-layer, else-most-layer}

pub loop-layer-preserved : goal.loop-layer-preserved
loop-layer-preserved c = largest_next (λ layer. layer) c.args.layers.now c.loop-layer.layer-index c.loop-layer.most c.loop-layer.invariant _ (omega arith)
    (elim c.if-most-layer.branch [ then-most-layer w ↦ omega arith | else-most-layer w ↦ omega arith ])

pub returns : goal.returns
returns c = largest_end (λ layer. layer) c.args.layers.now c.loop-layer.layer-index c.loop-layer.most c.loop-layer.invariant (omega arith)
