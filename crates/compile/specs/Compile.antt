-- Compiling: the answer, and what is left in the circuit storage, for all bytes and all lengths lent. The work room is left zero. Definitions only.
use Rattle.std.specs.Prelude.{ℕ, ◌+◌, ◌*◌, List, Bool, cond, ◌&&◌, leb, ltb, length, replicate, Float, Ok, Err}
use Rattle.exact.specs.Whole.{zero32}
use Rattle.tree_record.specs.declared.refusal.Cause.{Cause}
use Rattle.tree_record.specs.declared.refusal.Cause.TheVariants.{NoOpRoom, NoTermRoom, ShortRoom}
use Rattle.tree.specs.Tree.{Parsed, accepted, refused, tree_of}
use Rattle.plan.specs.Plan.{leaves_of, cursors_of, report_of}
use Rattle.wire.specs.declared.Counts.{Counts}
use Rattle.wire.specs.Terms.{Affine}
use Rattle.wire.specs.Storage.{ops_from, op_biases_from, op_slots, term_slots}
use Rattle.construct_floats.specs.Floats.{floats}
use Rattle.construct.specs.Circuit.{Circuit, flats, construct, op_count, term_count}
use Rattle.compile.specs.Answer.{Compiled}
use Rattle.compile.specs.Encode.{Lists, nums_of, biases_in, wires_of, coefs_of}

-- the lengths of what is lent: circuit storage, then work room
pub record Lent : Type 0 where
  pub nums : ℕ
  pub biases : ℕ
  pub wires : ℕ
  pub coefs : ℕ
  pub work_nums : ℕ
  pub work_biases : ℕ
  pub work_wires : ℕ
  pub work_coefs : ℕ

abbrev pub lent : ℕ → ℕ → ℕ → ℕ → ℕ → ℕ → ℕ → ℕ → Lent
lent nums biases wires coefs work_nums work_biases work_wires work_coefs =
    record { nums = nums; biases = biases; wires = wires; coefs = coefs; work_nums = work_nums; work_biases = work_biases; work_wires = work_wires; work_coefs = work_coefs }

pub record Outcome : Type 0 where
  pub answer : Compiled
  pub nums : List ℕ
  pub biases : List Float
  pub wires : List ℕ
  pub coefs : List Float

-- not "work room, or any circuit storage but the op and term slots, shorter than its length in docs/"
unfoldable pub roomy : Lent → Bool
roomy l =
    leb ops_from l.nums
    && (leb op_biases_from l.biases && (leb 13920 l.work_nums && (leb 6960 l.work_biases && (leb 262144 l.work_wires && leb 262144 l.work_coefs))))

-- "A refused compile leaves all lent circuit storage zero"
abbrev pub refusal : Lent → Cause → ℕ → Outcome
refusal l cause place =
    record {
      answer = Err (record { cause = cause; place = place });
      nums = replicate l.nums 0;
      biases = replicate l.biases zero32;
      wires = replicate l.wires 0;
      coefs = replicate l.coefs zero32;
    }

-- the circuit of these nodes
abbrev pub circuit_of : List ℕ → List ℕ → Circuit Affine
circuit_of kinds counts = construct floats (flats kinds counts)

abbrev pub lists_of : List ℕ → List ℕ → Lists
lists_of kinds counts = record { leaves = leaves_of kinds; cursors = cursors_of kinds; report = report_of counts }

abbrev pub counts_of : List ℕ → Circuit Affine → Counts
counts_of kinds c =
    let n = length kinds in
    let k = length (cursors_of kinds) in
    let s = length (leaves_of kinds) in
    record { nodes = n; cursors = k; leaves = s; cells = n + k + 3 * s; ops = op_count c; terms = term_count floats c }

-- "an accepted one leaves unused slots zero"
unfoldable pub stored : Lent → List ℕ → List ℕ → Outcome
stored l kinds counts =
    let c = circuit_of kinds counts in
    record {
      answer = Ok (counts_of kinds c);
      nums = nums_of l.nums (lists_of kinds counts) c;
      biases = biases_in l.biases c;
      wires = wires_of l.wires c;
      coefs = coefs_of l.coefs c;
    }

-- "Then 8, 9, 10": 9 and 10 "the circuit has more ops, or terms, than slots lent"
unfoldable pub compile_tree : Lent → Parsed → Outcome
compile_tree l (refused r) = refusal l r.cause r.place
compile_tree l (accepted kinds counts) =
    let c = circuit_of kinds counts in
    cond (ltb (op_slots l.nums l.biases) (op_count c))
    (refusal l NoOpRoom 0)
    (cond (ltb (term_slots l.wires l.coefs) (term_count floats c)) (refusal l NoTermRoom 0) (stored l kinds counts))

-- 14 "before any record is read"
unfoldable pub compile_of : Lent → List ℕ → Outcome
compile_of l bytes = cond (roomy l) (compile_tree l (tree_of bytes)) (refusal l ShortRoom 0)
