-- Which forms and ops can be read, for any storage. Document 01, "Cells and forms". Definitions only.
use Rattle.std.specs.Prelude.{ℕ, ◌+◌, List, Bool, false, Option, Some, None, cond, ◌&&◌, length, get_or, leb, ltb, eqb, Float}
use Rattle.wire.specs.declared.Form.{Form}
use Rattle.wire.specs.declared.Op.{Op}
use Rattle.wire.specs.declared.Op.TheVariants.{Affine, Reglu}
use Rattle.lists.specs.All.{all}
use Rattle.wire.specs.Storage.{op_slots, affine_kind, reglu_kind, kind_at, left_form, gate_form}

-- ---- a form

-- wire k of a form that starts at first is below n
unfoldable pub reads_below : List ℕ → ℕ → ℕ → ℕ → Bool
reads_below wires n first k = ltb (get_or wires (first + k) 0) n

-- a form lies in both pools and reads only values below n
unfoldable pub readable : List ℕ → List Float → ℕ → Form → Bool
unfolding all reads_below
readable wires coefs n f =
    leb (f.first + f.len) (length wires) && (leb (f.first + f.len) (length coefs) && all (reads_below wires n f.first) f.len)

-- ---- an op

-- op i in storage, none where there is no such slot, or it is of neither kind
unfoldable pub stored_op : List ℕ → List Float → ℕ → Option Op
stored_op nums biases i =
    cond (ltb i (op_slots (length nums) (length biases)))
    (cond (eqb (kind_at nums i) affine_kind)
    (Some (Affine (left_form nums biases i)))
    (cond (eqb (kind_at nums i) reglu_kind) (Some (Reglu (left_form nums biases i) (gate_form nums biases i))) None))
    None

-- an op's forms read only values below n
unfoldable pub op_reads : List ℕ → List Float → ℕ → Op → Bool
unfolding readable
op_reads wires coefs n (Affine form) = readable wires coefs n form
op_reads wires coefs n (Reglu left gate) = readable wires coefs n left && readable wires coefs n gate

-- there is an op, and its forms do
unfoldable pub slot_reads : List ℕ → List Float → ℕ → Option Op → Bool
unfolding op_reads
slot_reads wires coefs n (Some op) = op_reads wires coefs n op
slot_reads wires coefs n None = false
