-- A circuit in storage: four lent slices and the counts, and the lists that they mean.
use Rattle.std.specs.Prelude.{ℕ, ◌+◌, ◌-◌, ◌*◌, ◌/◌, min, List, Bool, cond, ◌&&◌, get_or, leb, eqb, Float}
use Rattle.std.specs.Float.{nan}
use Rattle.wire.specs.declared.Form.{Form}
use Rattle.wire.specs.declared.Counts.{Counts}
use Rattle.lists.specs.Each.{each}
use Rattle.wire.specs.Terms.{Affine, meaning}

-- ---- The layout, the same numbers as those of Nums and Biases. In nums: the leaf list, the cursor list, the report list, the ranges of the output forms, the ops.

abbrev pub leaves_from : ℕ
leaves_from = 0

abbrev pub cursors_from : ℕ
cursors_from = 128

abbrev pub report_from : ℕ
report_from = 256

abbrev pub outputs_from : ℕ
outputs_from = 384

abbrev pub ops_from : ℕ
ops_from = 2176

-- a range: first and length
abbrev pub nums_per_form : ℕ
nums_per_form = 2

-- the kind, then the ranges of left and gate
abbrev pub nums_per_op : ℕ
nums_per_op = 5

-- In biases: those of the output forms, then of left and gate of each op.
abbrev pub op_biases_from : ℕ
op_biases_from = 896

abbrev pub biases_per_op : ℕ
biases_per_op = 2

-- the two kinds of op; a zeroed slot is of neither
abbrev pub affine_kind : ℕ
affine_kind = 1

abbrev pub reglu_kind : ℕ
reglu_kind = 2

-- the form whose range stands at one index of nums, first and then length, and whose bias at one of biases
abbrev pub form_at : List ℕ → List Float → ℕ → ℕ → Form
form_at nums biases at bias = record { bias = get_or biases bias nan; first = get_or nums at 0; len = get_or nums (at + 1) 0 }

-- output form k: of node i success, failure, running, reached, halted, next running at 6 i and on; then the next cursor of each cell
abbrev pub output_form : List ℕ → List Float → ℕ → Form
output_form nums biases k = form_at nums biases (outputs_from + nums_per_form * k) k

-- op i: its kind, then its two forms
abbrev pub kind_at : List ℕ → ℕ → ℕ
kind_at nums i = get_or nums (ops_from + nums_per_op * i) 0

abbrev pub left_form : List ℕ → List Float → ℕ → Form
left_form nums biases i = form_at nums biases (ops_from + nums_per_op * i + 1) (op_biases_from + biases_per_op * i)

abbrev pub gate_form : List ℕ → List Float → ℕ → Form
gate_form nums biases i = form_at nums biases (ops_from + nums_per_op * i + 3) (op_biases_from + biases_per_op * i + 1)

-- ---- What is lent: op slots are those that both slices hold whole, term slots those that both pools hold

abbrev pub op_slots : ℕ → ℕ → ℕ
op_slots nums biases = min ((nums - ops_from) / nums_per_op) ((biases - op_biases_from) / biases_per_op)

abbrev pub term_slots : ℕ → ℕ → ℕ
term_slots wires coefs = min wires coefs

-- the fixed part is whole, and there are slots for the ops and the terms in use; else "a count exceeds the storage lent for it"
unfoldable pub storage_holds : Counts → ℕ → ℕ → ℕ → ℕ → Bool
storage_holds n nums biases wires coefs =
    leb ops_from nums && (leb op_biases_from biases && (leb n.ops (op_slots nums biases) && leb n.terms (term_slots wires coefs)))

-- ---- What it means

-- "An op is a form, or left times max(0, gate)"; a slot may be of neither kind
pub data Op : Type 0 where
  affine : Affine → Op
  reglu : Affine → Affine → Op
  neither : Op

unfoldable pub op_of : ℕ → Affine → Affine → Op
op_of kind left gate = cond (eqb kind affine_kind) (affine left) (cond (eqb kind reglu_kind) (reglu left gate) neither)

unfoldable pub op_at : List ℕ → List Float → List ℕ → List Float → ℕ → Op
unfolding op_of
op_at nums biases wires coefs i = op_of (kind_at nums i) (meaning wires coefs (left_form nums biases i)) (meaning wires coefs (gate_form nums biases i))

unfoldable pub output_at : List ℕ → List Float → List ℕ → List Float → ℕ → Affine
output_at nums biases wires coefs k = meaning wires coefs (output_form nums biases k)

-- how many output forms: six a node, one a cursor
abbrev pub output_count : Counts → ℕ
output_count n = 6 * n.nodes + n.cursors

pub record Circuit : Type 0 where
  pub counts : Counts
  pub leaves : List ℕ
  pub cursors : List ℕ
  pub report : List ℕ
  pub ops : List Op
  pub outputs : List Affine

unfoldable pub numbers_from : List ℕ → ℕ → ℕ → List ℕ
unfolding each
numbers_from nums from n = each (λ k. get_or nums k 0) from n

unfoldable pub circuit_of : Counts → List ℕ → List Float → List ℕ → List Float → Circuit
unfolding numbers_from op_at output_at each
circuit_of n nums biases wires coefs =
    record {
      counts = n;
      leaves = numbers_from nums leaves_from n.leaves;
      cursors = numbers_from nums cursors_from n.cursors;
      report = numbers_from nums report_from n.nodes;
      ops = each (op_at nums biases wires coefs) 0 n.ops;
      outputs = each (output_at nums biases wires coefs) 0 (output_count n);
    }
