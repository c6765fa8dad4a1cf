-- The layer of every value of a circuit, as wire.rs has it: "An operation's layer is one past the deepest value it reads".
use Rattle.std.specs.Prelude.{ℕ, zero, suc, ◌+◌, min, max, List, [], ◌∷◌, ◌++◌, cond, length, get_or, drop, set, replicate, leb, Float, Option, Some, None, Result, Ok, Err, ⊤}
use Rattle.wire.specs.declared.Form.{Form}
use Rattle.wire.specs.declared.Counts.{Counts}
use Rattle.wire.specs.declared.Circuit.{Circuit}
use Rattle.wire.specs.declared.Op.{Op}
use Rattle.wire.specs.declared.Op.TheVariants.{Affine, Reglu}
use Rattle.wire.specs.Terms.{look_up}
use Rattle.wire_read.specs.Reading.{stored_op}
use Rattle.wire_layers.specs.declared.ShortRoom.{ShortRoom}

-- document 01's number for the answer; 0 where nothing is refused
abbrev pub layered_number : Result ⊤ ShortRoom → ℕ
layered_number (Ok done) = 0
layered_number (Err short) = 14

-- the largest that f gives on a list, 0 where the list is empty
unfoldable pub largest : (ℕ → ℕ) → List ℕ → ℕ
largest f [] = 0
largest f (x ∷ xs) = max (f x) (largest f xs)

-- the layer of a wire, 0 where it is past the values
unfoldable pub layer_of : List ℕ → ℕ → ℕ
layer_of layers wire = get_or layers wire 0

-- the deepest layer that a form reads, of the wires that its look-up gives
unfoldable pub form_depth : List ℕ → List ℕ → Form → ℕ
unfolding largest layer_of look_up
form_depth wires layers f = largest (layer_of layers) (look_up f wires)

-- where there is no op, nothing is read
unfoldable pub op_depth : List ℕ → List ℕ → Option Op → ℕ
unfolding form_depth
op_depth wires layers (Some (Affine form)) = form_depth wires layers form
op_depth wires layers (Some (Reglu left gate)) = max (form_depth wires layers left) (form_depth wires layers gate)
op_depth wires layers None = 0

-- one past a layer, as far as a u32 goes; with fewer than 2^32 ops it is never cut (proofs/Low.antt)
abbrev pub one_past : ℕ → ℕ
one_past layer = min (layer + 1) 4294967295

-- the layers after the first n ops: all 0 at first, and later values still so while an op's layer is found
unfoldable pub layers_after : (ℕ → Option Op) → List ℕ → ℕ → ℕ → ℕ → List ℕ
unfolding op_depth
layers_after op wires cells values zero = replicate values 0
layers_after op wires cells values (suc n) =
    let before = layers_after op wires cells values n in
    set before (cells + n) (one_past (op_depth wires before (op n)))

unfoldable pub layered : Counts → ℕ → Result ⊤ ShortRoom
layered n places = cond (leb (n.cells + n.ops) places) (Ok tt) (Err (record {}))

-- what stands in the slice: the layers, and past them what was there; a short slice stays as it was
unfoldable pub layers_left : Counts → List ℕ → List Float → List ℕ → List ℕ → List ℕ
unfolding layers_after stored_op
layers_left n nums biases wires out =
    cond (leb (n.cells + n.ops) (length out))
    (layers_after (stored_op nums biases) wires n.cells (n.cells + n.ops) n.ops ++ drop (n.cells + n.ops) out)
    out

-- ---- of a lent circuit

abbrev pub layers_in : Circuit → ℕ → List ℕ
layers_in c n = layers_after (stored_op c.nums.now c.biases.now) c.pools.wires.now c.counts.cells (c.counts.cells + c.counts.ops) n

abbrev pub layered_in : Circuit → ℕ → Result ⊤ ShortRoom
layered_in c places = layered c.counts places

abbrev pub layers_left_in : Circuit → List ℕ → List ℕ
layers_left_in c out = layers_left c.counts c.nums.now c.biases.now c.pools.wires.now out
