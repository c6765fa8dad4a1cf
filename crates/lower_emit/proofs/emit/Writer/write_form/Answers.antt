-- `lower_emit::emit::Writer::write_form` meets its contract.
use Rattle.lower_emit.proofs.Copied.{copied_next}
use Rattle.lower_emit.proofs.Made.{form_made}
use Rattle.lower_emit.proofs.emit.Writer.write_form.Goals as goal

pub returns-clause-written : goal.returns-clause-written
returns-clause-written c =
    let s = c.args.self.now.storage.now in
    let from = c.args.from.now in
    let e = c.write_terms.ensures in
    form_made s.nums.now s.biases.now from.wires.now from.coefs.now c.args.f c.args.at c.args.bias e.nums_kept e.biases_kept e.put

pub returns-clause-next : goal.returns-clause-next
returns-clause-next c = copied_next c.args.from.now.wires.now c.args.from.now.coefs.now c.args.f c.write_terms.ensures.put
