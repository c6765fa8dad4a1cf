-- `lower_emit::emit::copy_terms`: a turn copies one term more.
use Rattle.std.proofs.Common.{arith, length-set, ◌∙◌}
use Rattle.lower_emit.proofs.Copied.{copied_on}
use Rattle.lower_emit.proofs.emit.copy_terms.Goals as goal

pub loop-k-preserved : goal.loop-k-preserved
loop-k-preserved c =
    let i = c.loop-k.invariant in
    record {
      wires_len = length-set _ _ _ ∙ i.wires_len;
      coefs_len = length-set _ _ _ ∙ i.coefs_len;
      going = copied_on c.args.from.now.wires.now c.args.from.now.coefs.now c.args.f c.args.next c.loop-k.k (omega arith) i.going;
    }
