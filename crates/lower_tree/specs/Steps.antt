-- What stands between the steps of lowering a tree.
use Rattle.std.specs.Prelude.{◌≡◌}
use Rattle.wire.specs.declared.storage.Storage.{Storage}
use Rattle.lower_emit.specs.Settle.{zeros, zeros32}

-- all slots of a circuit's storage are zero
pub record Zeroed (s : Storage) : Type 0 where
  pub nums : s.nums.now ≡ zeros s.nums.now
  pub biases : s.biases.now ≡ zeros32 s.biases.now
  pub wires : s.wires.now ≡ zeros s.wires.now
  pub coefs : s.coefs.now ≡ zeros32 s.coefs.now
