-- `wire_layers::depth`: the largest of what was seen and what is left is the largest.
use Rattle.std.proofs.Common.{◌≡◌, drop}
use Prim.Native.Nat.{max}
use Rattle.wire_layers.specs.Layers.{largest}
use Rattle.wire_layers.proofs.depth.Given as goal

abbrev pub invariant-loop-layer : goal.invariant-loop-layer
invariant-loop-layer l = max l.most (largest (λ layer. layer) (drop l.layer-index l.layers)) ≡ largest (λ layer. layer) l.layers
