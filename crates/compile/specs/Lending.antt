-- What compiling is lent, as lengths, and that a function leaves the work room lent what it was lent.
use Rattle.std.specs.Prelude.{◌≡◌, length}
use Rattle.wire.specs.declared.storage.Storage.{Storage}
use Rattle.compile.specs.declared.WorkRoom.{WorkRoom}
use Rattle.compile.specs.Compile.{Lent, lent}

abbrev pub lent_in : Storage → WorkRoom → Lent
lent_in s w =
    lent (length s.nums.now) (length s.biases.now) (length s.wires.now) (length s.coefs.now)
    (length w.nums.now) (length w.biases.now) (length w.wires.now) (length w.coefs.now)

-- b is lent what a was
abbrev pub LentAs : WorkRoom → WorkRoom → Type 0
LentAs a b =
    (b.nums.ghost_name ≡ a.nums.ghost_name) × (b.biases.ghost_name ≡ a.biases.ghost_name)
    × (b.wires.ghost_name ≡ a.wires.ghost_name) × (b.coefs.ghost_name ≡ a.coefs.ghost_name)
    × (length b.nums.now ≡ length a.nums.now) × (length b.biases.now ≡ length a.biases.now)
    × (length b.wires.now ≡ length a.wires.now) × (length b.coefs.now ≡ length a.coefs.now)
