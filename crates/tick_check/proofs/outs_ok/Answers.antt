-- One form that fails decides.
use Rattle.std.proofs.Common.{sym, ◌∙◌, arith}
use Rattle.lists.proofs.Tests.{all_fails}
use Rattle.wire.specs.Storage.{output_count}
use Rattle.tick_check.specs.Parts.{outs_range}
use Rattle.tick_check.proofs.outs_ok.Goals as goal

pub returns-then-not-range_ok : goal.returns-then-not-range_ok
unfolding outs_range
returns-then-not-range_ok c =
    all_fails _ c.loop-k.k (output_count c.args.circuit.now.counts) (omega arith) (sym c.range_ok.ensures ∙ c.if-not-range_ok.true)
