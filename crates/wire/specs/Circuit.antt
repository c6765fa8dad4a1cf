-- Lent pools and a lent circuit, by the words of Terms and Storage.
use Rattle.std.specs.Prelude.{ℕ}
use Rattle.wire.specs.declared.Form.{Form}
use Rattle.wire.specs.declared.Pools.{Pools}
use Rattle.wire.specs.declared.Circuit.{Circuit}
use Rattle.wire.specs.Terms.{Affine, meaning}
use Rattle.wire.specs.Storage.{Op, form_at, op_at}

abbrev pub meaning_in : Pools → Form → Affine
meaning_in p f = meaning p.wires.now p.coefs.now f

abbrev pub form_in : Circuit → ℕ → ℕ → Form
form_in c at bias = form_at c.nums.now c.biases.now at bias

abbrev pub op_in : Circuit → ℕ → Op
op_in c i = op_at c.nums.now c.biases.now c.pools.wires.now c.pools.coefs.now i
