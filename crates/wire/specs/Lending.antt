-- That a function leaves a circuit's storage lent what it was lent. Inner: what callers learn of the slices behind it; nobody need believe it.
use Rattle.std.specs.Prelude.{◌≡◌, length}
use Rattle.wire.specs.declared.storage.Storage.{Storage}

abbrev pub LentAs : Storage → Storage → Type 0
LentAs a b =
    (b.nums.ghost_name ≡ a.nums.ghost_name) × (b.biases.ghost_name ≡ a.biases.ghost_name)
    × (b.wires.ghost_name ≡ a.wires.ghost_name) × (b.coefs.ghost_name ≡ a.coefs.ghost_name)
    × (length b.nums.now ≡ length a.nums.now) × (length b.biases.now ≡ length a.biases.now)
    × (length b.wires.now ≡ length a.wires.now) × (length b.coefs.now ≡ length a.coefs.now)
