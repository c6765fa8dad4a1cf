-- The second phase of compile on all that is lent: how many terms the forms that were built have, and what writing them leaves in the four slices of a
-- circuit. The work room is read only. Inner: the shape of the code; nobody need believe it.
use Rattle.std.specs.Prelude.{ℕ, zero, suc, ◌+◌, ◌-◌, ◌*◌, ◌/◌, ◌%◌, ◌≤◌, ◌<◌, List, cond, leb, eqb, length, get_or, set, Float}
use Rattle.std.proofs.lemmas.List.Edits.{sets}
use Rattle.wire.specs.declared.Form.{Form}
use Rattle.wire.specs.Terms.{terms_of}
use Rattle.wire.specs.Storage as S
use Rattle.arena_terms.specs.Steps.{wires_in, coefs_in}
use Rattle.builder_table.specs.Work.{Mem, loaded}
use Rattle.builder_table.specs.Slots.{raw_success_from, raw_failure_from, raw_running_from, reached_from, halted_from}
use Rattle.builder_table.specs.Slots.{next_running_from, next_cursor_from, ops_from}

-- ---- which slot of the table an output form stands in

-- the row of a node's form: success, failure, running, reached, halted, next running
unfoldable pub row_of : ℕ → ℕ
row_of field =
    cond (eqb field 0) raw_success_from
    (cond (eqb field 1) raw_failure_from
    (cond (eqb field 2) raw_running_from
    (cond (eqb field 3) reached_from
    (cond (eqb field 4) halted_from next_running_from))))

-- "three statuses, reached, halted, next running per node; next cursor per cell"
unfoldable pub output_slot : ℕ → ℕ → ℕ
output_slot nodes k = cond (leb (6 * nodes) k) (next_cursor_from + (k - 6 * nodes)) (row_of (k % 6) + k / 6)

-- ---- counting

abbrev pub len_at : List ℕ → ℕ → ℕ
len_at nums k = get_or nums (2 * k + 1) 0

-- the terms of both forms of op k
abbrev pub op_len : List ℕ → ℕ → ℕ
op_len nums k = len_at nums (ops_from + 2 * k) + len_at nums (ops_from + 2 * k + 1)

-- of the ops from the k-th on, of which there are so many
unfoldable pub op_lens : List ℕ → ℕ → ℕ → ℕ
op_lens nums k zero = 0
op_lens nums k (suc rest) = op_len nums k + op_lens nums (k + 1) rest

-- the terms of the output forms from the k-th on
unfoldable pub output_lens : List ℕ → ℕ → ℕ → ℕ → ℕ
output_lens nums nodes k zero = 0
output_lens nums nodes k (suc rest) = len_at nums (output_slot nodes k) + output_lens nums nodes (k + 1) rest

abbrev pub outputs_many : ℕ → ℕ → ℕ
outputs_many nodes cursors = 6 * nodes + cursors

abbrev pub all_lens : List ℕ → ℕ → ℕ → ℕ → ℕ
all_lens nums ops nodes cursors = op_lens nums 0 ops + output_lens nums nodes 0 (outputs_many nodes cursors)

-- ---- a circuit's four slices as far as they are written, and where the next form's terms begin

pub record Image : Type 0 where
  pub nums : List ℕ
  pub biases : List Float
  pub wires : List ℕ
  pub coefs : List Float
  pub next : ℕ

abbrev pub image : List ℕ → List Float → List ℕ → List Float → ℕ → Image
image nums biases wires coefs next = record { nums = nums; biases = biases; wires = wires; coefs = coefs; next = next }

-- a form's range is written at one index of nums, its bias at one of biases, and its terms, which lie in the work pools ws and cs, past those written
unfoldable pub form_in : Image → List ℕ → List Float → Form → ℕ → ℕ → Image
form_in e ws cs f at bias =
    image (set (set e.nums at e.next) (at + 1) f.len) (set e.biases bias f.bias)
    (sets e.wires e.next (wires_in (terms_of ws cs f))) (sets e.coefs e.next (coefs_in (terms_of ws cs f))) (e.next + f.len)

-- op k: its kind, then left and gate
unfoldable pub op_in : Image → List ℕ → List Float → Form → Form → ℕ → Image
op_in e ws cs left gate k =
    let at = S.ops_from + 5 * k in
    let bias = S.op_biases_from + 2 * k in
    let a = image (set e.nums at S.reglu_kind) e.biases e.wires e.coefs e.next in
    form_in (form_in a ws cs left (at + 1) bias) ws cs gate (at + 3) (bias + 1)

-- that of the table
abbrev pub op_at : Image → Mem → ℕ → Image
op_at e m k = op_in e m.wires m.coefs (loaded m (ops_from + 2 * k)) (loaded m (ops_from + 2 * k + 1)) k

-- the ops from the k-th on, of which there are so many
unfoldable pub ops_in : Image → Mem → ℕ → ℕ → Image
ops_in e m k zero = e
ops_in e m k (suc rest) = ops_in (op_at e m k) m (k + 1) rest

-- output form k
abbrev pub output_at : Image → Mem → ℕ → ℕ → Image
output_at e m nodes k = form_in e m.wires m.coefs (loaded m (output_slot nodes k)) (S.outputs_from + 2 * k) k

-- the output forms from the k-th on
unfoldable pub outputs_in : Image → Mem → ℕ → ℕ → ℕ → Image
outputs_in e m nodes k zero = e
outputs_in e m nodes k (suc rest) = outputs_in (output_at e m nodes k) m nodes (k + 1) rest

-- "both forms of every op, then .. the output forms"
unfoldable pub emit_in : Image → Mem → ℕ → ℕ → ℕ → Image
emit_in e m ops nodes cursors = outputs_in (ops_in e m 0 ops) m nodes 0 (outputs_many nodes cursors)

-- ---- what writing asks of its callers

-- the form's terms lie in the work pools
abbrev pub Inside : List ℕ → List Float → Form → Type 0
Inside ws cs f = (f.first + f.len ≤ length ws) × (f.first + f.len ≤ length cs)

-- both forms of op k do
abbrev pub OpInside : Mem → ℕ → Type 0
OpInside m k = Inside m.wires m.coefs (loaded m (ops_from + 2 * k)) × Inside m.wires m.coefs (loaded m (ops_from + 2 * k + 1))

-- those of each op do
pub record OpsInside (m : Mem) (ops : ℕ) : Type 0 where
  pub lies : (k : ℕ) → k < ops → OpInside m k

-- so does each of n output forms
pub record OutputsInside (m : Mem) (nodes n : ℕ) : Type 0 where
  pub lies : (k : ℕ) → k < n → Inside m.wires m.coefs (loaded m (output_slot nodes k))
