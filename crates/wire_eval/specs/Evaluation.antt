-- What evaluation answers, and what it leaves in the table, for any storage. Document 01, "Cells and forms"; "Rust panics on a short table; here 14".
-- Definitions only.
use Rattle.std.specs.Prelude.{ℕ, zero, suc, ◌+◌, List, Bool, true, false, cond, length, leb, ltb, Float, Option, Some, None, ok_or, Result, Ok, Err, ⊤}
use Rattle.std.specs.Float.{binary32}
use Rattle.std.specs.Float.Ieee.{mul}
use Rattle.exact.specs.Tests.{relu}
use Rattle.wire.specs.declared.Form.{Form}
use Rattle.wire.specs.declared.Counts.{Counts}
use Rattle.wire.specs.declared.Circuit.{Circuit}
use Rattle.wire.specs.declared.Op.{Op}
use Rattle.wire.specs.declared.Op.TheVariants.{Affine, Reglu}
use Rattle.wire.specs.Terms.{meaning, value_in}
use Rattle.wire.specs.Storage.{op_at}
use Rattle.wire_pool.specs.Values.{table_after}
use Rattle.wire_read.specs.Reading.{readable, stored_op, slot_reads}
use Rattle.wire_eval.specs.declared.ValueError.{ValueError}
use Rattle.wire_eval.specs.declared.ValueError.TheVariants as value
use Rattle.wire_eval.specs.declared.EvalError.{EvalError}
use Rattle.wire_eval.specs.declared.EvalError.TheVariants as run

-- ---- document 01's numbers for the answers; 0 where nothing is refused

abbrev pub valued_number : Result Float ValueError → ℕ
valued_number (Ok x) = 0
valued_number (Err value.Short) = 14
valued_number (Err value.BadOp) = 17

abbrev pub evaluated_number : Result ⊤ EvalError → ℕ
evaluated_number (Ok done) = 0
evaluated_number (Err run.Short) = 14
evaluated_number (Err (run.BadOp i)) = 17

-- ---- a form

unfoldable pub value_of : List ℕ → List Float → List Float → Form → Option Float
unfolding readable
value_of wires coefs table f = cond (readable wires coefs (length table) f) (Some (value_in table (meaning wires coefs f))) None

-- ---- an op

-- left times max(0, gate), where both have values
unfoldable pub gated : Option Float → Option Float → Option Float
gated (Some x) (Some y) = Some (mul binary32 x (relu y))
gated (Some x) None = None
gated None gate = None

unfoldable pub op_value_of : List ℕ → List Float → List Float → Option Op → Result Float ValueError
unfolding value_of gated
op_value_of wires coefs table (Some (Affine form)) = ok_or (value_of wires coefs table form) value.Short
op_value_of wires coefs table (Some (Reglu left gate)) = ok_or (gated (value_of wires coefs table left) (value_of wires coefs table gate)) value.Short
op_value_of wires coefs table None = Err value.BadOp

-- ---- all ops

-- the first index from i on, of n, at which p is false; the one past them where there is none
unfoldable pub first_false : (ℕ → Bool) → ℕ → ℕ → ℕ
first_false p i zero = i
first_false p i (suc n) = elim (p i) [ true ↦ first_false p (suc i) n | false ↦ i ]

-- op i can be valued: it is there, and reads values before its own only
unfoldable pub can_value : List ℕ → List Float → List ℕ → List Float → ℕ → ℕ → Bool
unfolding slot_reads stored_op
can_value nums biases wires coefs cells i = slot_reads wires coefs (cells + i) (stored_op nums biases i)

-- the first op that cannot
unfoldable pub first_bad : List ℕ → List Float → List ℕ → List Float → ℕ → ℕ → ℕ
unfolding first_false can_value
first_bad nums biases wires coefs cells ops = first_false (can_value nums biases wires coefs cells) 0 ops

unfoldable pub evaluated : Counts → List ℕ → List Float → List ℕ → List Float → ℕ → Result ⊤ EvalError
unfolding first_bad
evaluated n nums biases wires coefs places =
    let good = first_bad nums biases wires coefs n.cells n.ops in
    cond (leb (n.cells + n.ops) places) (cond (ltb good n.ops) (Err (run.BadOp good)) (Ok tt)) (Err run.Short)

-- what stands in the table: the values of the ops before the first that cannot be valued, each past the cells; a short table stays as it was
unfoldable pub table_left : Counts → List ℕ → List Float → List ℕ → List Float → List Float → List Float
unfolding first_bad table_after op_at
table_left n nums biases wires coefs table =
    cond (leb (n.cells + n.ops) (length table))
    (table_after (op_at nums biases wires coefs) n.cells table (first_bad nums biases wires coefs n.cells n.ops))
    table

-- ---- of a lent circuit

abbrev pub can_value_in : Circuit → ℕ → Bool
can_value_in c i = can_value c.nums.now c.biases.now c.pools.wires.now c.pools.coefs.now c.counts.cells i

abbrev pub first_bad_in : Circuit → ℕ
first_bad_in c = first_bad c.nums.now c.biases.now c.pools.wires.now c.pools.coefs.now c.counts.cells c.counts.ops

abbrev pub evaluated_in : Circuit → ℕ → Result ⊤ EvalError
evaluated_in c places = evaluated c.counts c.nums.now c.biases.now c.pools.wires.now c.pools.coefs.now places

abbrev pub table_left_in : Circuit → List Float → List Float
table_left_in c table = table_left c.counts c.nums.now c.biases.now c.pools.wires.now c.pools.coefs.now table
