-- What stands around building in compile: the plan's lists are written, and when all is built the circuit is refused for want of slots or written.
-- Inner: the shape of the code; nobody need believe it.
use Rattle.std.specs.Prelude.{ℕ, ◌≡◌, ◌+◌, ◌*◌, cond, List, ltb, length, replicate, Float, Ok, Err}
use Rattle.std.proofs.lemmas.List.Edits.{sets}
use Rattle.exact.specs.Whole.{zero32}
use Rattle.tree_record.specs.declared.refusal.Cause.{Cause}
use Rattle.tree_record.specs.declared.refusal.Cause.TheVariants.{NoOpRoom, NoTermRoom}
use Rattle.plan.specs.declared.cells.Plan.{Plan}
use Rattle.plan.specs.Plan.{leaves_of, cursors_of, report_of}
use Rattle.wire.specs.Storage.{leaves_from, cursors_from, report_from, op_slots, term_slots}
use Rattle.wire.specs.declared.storage.Storage.{Storage}
use Rattle.compile.specs.Answer.{Compiled}
use Rattle.compile.specs.Compile.{Outcome}
use Rattle.compile.specs.declared.WorkRoom.{WorkRoom}
use Rattle.builder_table.specs.Work.{Mem}
use Rattle.lower_emit.specs.Emit.{all_lens, image, emit_in}

abbrev pub outcome : Compiled → List ℕ → List Float → List ℕ → List Float → Outcome
outcome answer nums biases wires coefs = record { answer = answer; nums = nums; biases = biases; wires = wires; coefs = coefs }

-- an answer, and what a circuit's storage then holds
abbrev pub outcome_in : Compiled → Storage → Outcome
outcome_in answer s = outcome answer s.nums.now s.biases.now s.wires.now s.coefs.now

-- zeroes, as many as there are entries
abbrev pub zeros : List ℕ → List ℕ
zeros xs = replicate (length xs) 0

abbrev pub zeros32 : List Float → List Float
zeros32 xs = replicate (length xs) zero32

-- all of a's slots are zero in b
abbrev pub Wiped : Storage → Storage → Type 0
Wiped a b =
    (b.nums.now ≡ zeros a.nums.now) × (b.biases.now ≡ zeros32 a.biases.now) × (b.wires.now ≡ zeros a.wires.now) × (b.coefs.now ≡ zeros32 a.coefs.now)

abbrev pub WorkWiped : WorkRoom → WorkRoom → Type 0
WorkWiped a b =
    (b.nums.now ≡ zeros a.nums.now) × (b.biases.now ≡ zeros32 a.biases.now) × (b.wires.now ≡ zeros a.wires.now) × (b.coefs.now ≡ zeros32 a.coefs.now)

-- the leaf, cursor and report lists, at their places
abbrev pub listed_in : List ℕ → List ℕ → List ℕ → List ℕ
listed_in nums kinds counts = sets (sets (sets nums leaves_from (leaves_of kinds)) cursors_from (cursors_of kinds)) report_from (report_of counts)

-- how many nodes, cursors and leaves there are
abbrev pub plan_of : List ℕ → Plan
plan_of kinds = record { nodes = length kinds; cursors = length (cursors_of kinds); leaves = length (leaves_of kinds) }

-- all slots zero, and why
abbrev pub refused_in : List ℕ → List Float → List ℕ → List Float → Cause → Outcome
refused_in nums biases wires coefs cause = outcome (Err (record { cause = cause; place = 0 })) (zeros nums) (zeros32 biases) (zeros wires) (zeros32 coefs)

-- the circuit written, and its counts
unfoldable pub written_in : List ℕ → List Float → List ℕ → List Float → Mem → ℕ → ℕ → ℕ → ℕ → Outcome
written_in nums biases wires coefs m ops nodes cursors leaves =
    let e = emit_in (image nums biases wires coefs 0) m ops nodes cursors in
    let cells = nodes + cursors + 3 * leaves in
    let terms = all_lens m.nums ops nodes cursors in
    outcome (Ok (record { nodes = nodes; cursors = cursors; leaves = leaves; cells = cells; ops = ops; terms = terms })) e.nums e.biases e.wires e.coefs

-- 9 and 10: "the circuit has more ops, or terms, than slots lent"
unfoldable pub settled_in : List ℕ → List Float → List ℕ → List Float → Mem → ℕ → ℕ → ℕ → ℕ → Outcome
settled_in nums biases wires coefs m ops nodes cursors leaves =
    cond (ltb (op_slots (length nums) (length biases)) ops)
    (refused_in nums biases wires coefs NoOpRoom)
    (cond (ltb (term_slots (length wires) (length coefs)) (all_lens m.nums ops nodes cursors))
    (refused_in nums biases wires coefs NoTermRoom)
    (written_in nums biases wires coefs m ops nodes cursors leaves))
