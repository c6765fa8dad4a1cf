-- `wire_layers::form_depth` meets its contract.
use mathlib.Core.Path.{◌∙◌, ap}
use Rattle.std.proofs.Common.{rules}
use Rattle.std.proofs.lemmas.Iterator.{YieldsList-from_slice, YieldsList-from_map}
use Rattle.std.proofs.lemmas.Iterator.Consumers.{max_from_yields_List}
use Rattle.wire_layers.specs.Layers.{largest, layer_of, form_depth}
use Rattle.wire_layers.proofs.Largest.{largest_found}
use Rattle.wire_layers.proofs.form_depth.Goals as goal

pub returns : goal.returns
unfolding form_depth
returns c =
    let layers = c.args.layers.now in
    let part = c.part_of.result.now in
    c.unwrap_or.ensures
    ∙ largest_found (layer_of layers) part _
    (max_from_yields_List c.map.result _ c.max.ensures.ran
    (YieldsList-from_map _ (layer_of layers) (YieldsList-from_slice part cc) c.map.ensures.closure (λ x r q k. search rules)))
    ∙ ap (largest (layer_of layers)) c.part_of.ensures
