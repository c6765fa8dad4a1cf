-- The writer of a circuit: what its storage holds, where it stands, and what it asks for. Inner: the shape of the code; nobody need believe it.
use Rattle.std.specs.Prelude.{ℕ, ◌≡◌, ◌+◌, ◌*◌, ◌≤◌, ◌<◌, List, length}
use Rattle.wire.specs.declared.Term.{Term}
use Rattle.wire.specs.declared.storage.Storage.{Storage}
use Rattle.wire.specs.Lending.{LentAs}
use Rattle.wire.specs.Storage.{ops_from, op_biases_from}
use Rattle.arena_terms.specs.Steps.{Put}
use Rattle.lower_emit.specs.declared.emit.Writer.{Writer}
use Rattle.lower_emit.specs.Emit.{Image, image}

-- ---- a circuit's storage

-- as an image, where the next form's terms go to one index
abbrev pub image_at : Storage → ℕ → Image
image_at s next = image s.nums.now s.biases.now s.wires.now s.coefs.now next

-- it holds what was written
abbrev pub Written : Storage → Image → Type 0
Written s e = (s.nums.now ≡ e.nums) × (s.biases.now ≡ e.biases) × (s.wires.now ≡ e.wires) × (s.coefs.now ≡ e.coefs)

-- it holds so many ops, and the output forms
abbrev pub Holds : Storage → ℕ → Type 0
Holds s ops = (ops_from + 5 * ops ≤ length s.nums.now) × (op_biases_from + 2 * ops ≤ length s.biases.now)

-- n terms from one index on go into its pools, and their indices into its numbers
abbrev pub FitsFrom : Storage → ℕ → ℕ → Type 0
FitsFrom s next n = (next + n ≤ length s.wires.now) × (next + n ≤ length s.coefs.now) × (next + n < 4294967296)

-- ---- the writer

abbrev pub image_of : Writer → Image
image_of w = image_at w.storage.now w.next

abbrev pub Fits : Writer → ℕ → Type 0
Fits w n = FitsFrom w.storage.now w.next n

-- b writes to the storage that a writes to
abbrev pub WritesTo : Writer → Writer → Type 0
WritesTo a b = (b.storage.ghost_name ≡ a.storage.ghost_name) × LentAs a.storage.now b.storage.now

-- from a to b, so many terms were put into the pools
abbrev pub Puts : Writer → List Term → Writer → Type 0
Puts a ts b = Put a.storage.now.wires.now a.storage.now.coefs.now a.next ts b.storage.now.wires.now b.storage.now.coefs.now b.next
