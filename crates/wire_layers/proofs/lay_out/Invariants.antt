-- `wire_layers::lay_out` meets its contract.
use mathlib.Core.Path.{◌≡◌}
use Rattle.wire_layers.specs.Layers.{layers_in}
use Rattle.wire_layers.proofs.lay_out.Given as goal

abbrev pub invariant-loop-i : goal.invariant-loop-i
invariant-loop-i l = l.layers ≡ layers_in l.circuit l.i
