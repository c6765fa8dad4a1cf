-- The listing program as a function of its input: what it prints, whole. Definitions only.
use Rattle.std.specs.Prelude.{ℕ, zero, suc, ◌+◌, ◌-◌, ◌*◌, true, false, cond, List, [], ◌∷◌, ◌++◌, length, take, drop, replicate, ◌==◌, Ok, Err}
use Rattle.exact.specs.Whole.{zero32}
use Rattle.tree_record.specs.Refusal.{number_of}
use Rattle.wire.specs.declared.Counts.{Counts}
use Rattle.wire.specs.Storage.{ops_from, nums_per_op, op_biases_from, biases_per_op}
use Rattle.tick_check.specs.Check.{Stored, stored}
use Rattle.compile.specs.Answer.{Compiled}
use Rattle.compile.specs.Compile.{Lent, lent, Outcome, compile_of}
use Rattle.list_text.specs.declared.outer.Outer.{Outer}
use Rattle.list_text.specs.declared.outer.Outer.TheVariants.{Whole, Cut, Bad}
use Rattle.list_text.specs.Line.{refused_line, bad_line}
use Rattle.list_text.specs.Outer.{outer_at}
use Rattle.list_rows.specs.Rows.{Kept, Run, step_of}

-- ---- leaf rows, to the end of the input

-- at the end of the input there is no record due; before it, one that is cut short is bad
unfoldable pub rest_from : ℕ → Stored → List ℕ → ℕ → Kept → List ℕ
rest_from zero s bytes number k = []
rest_from (suc fuel) s [] number k = []
rest_from (suc fuel) s (byte ∷ bytes) number k =
    let o = step_of s (byte ∷ bytes) number k in
    elim o.goes [
      | true ↦ o.text ++ rest_from fuel s (drop o.read (byte ∷ bytes)) o.number o.kept
      | false ↦ elim o.ended [ true ↦ o.text | false ↦ bad_line ]
    ]

-- a record has at least 4 bytes, so fuel as long as the bytes is enough
unfoldable pub rest_of : Stored → List ℕ → ℕ → Kept → List ℕ
rest_of s bytes number k = rest_from (length bytes) s bytes number k

-- what is still to be listed after a run over some bytes, with those that follow them: nothing where it has ended
unfoldable pub left_after : Stored → List ℕ → List ℕ → Run → List ℕ
left_after s bytes more r = cond r.ended [] (rest_of s (drop r.read bytes ++ more) r.number r.kept)

-- ---- the whole

-- "The op and term slots it lends are written in docs/": as many as hold the circuit of any tree
abbrev pub op_slots_lent : ℕ
op_slots_lent = 2163

abbrev pub term_slots_lent : ℕ
term_slots_lent = 507904

-- "there too each length is one number for all trees, and the listing program lends exactly these"
abbrev pub storage_lent : Lent
storage_lent = lent (ops_from + nums_per_op * op_slots_lent) (op_biases_from + biases_per_op * op_slots_lent) term_slots_lent term_slots_lent 13920 6960 262144 262144

-- cells of 128 nodes at most, and the op slots
abbrev pub values_lent : ℕ
values_lent = 640 + op_slots_lent

-- "starts with all flags and cursors 0"
abbrev pub at_first : Counts → Kept
at_first n = record { flags = replicate n.nodes 0; cursors = replicate n.cursors 0; values = replicate values_lent zero32 }

-- the tree is compiled; a refusal ends the run
unfoldable pub list_from : Compiled → Outcome → List ℕ → List ℕ
list_from (Ok n) o rows = rest_of (stored n o.nums o.biases o.wires o.coefs) rows 0 (at_first n)
list_from (Err r) o rows = refused_line (number_of r.cause) r.place

-- "one of kind 0x0101 holding the tree, then kind 0x0100 records holding leaf rows"
abbrev pub tree_kind : ℕ
tree_kind = 257

-- "an outer record cut short, with length below 2 or not of the kind due, or no record at all, prints `bad record` and ends the run"
unfoldable pub listing_at : Outer → List ℕ → List ℕ
listing_at (Whole kind start end) bytes =
    cond (kind == tree_kind) (let o = compile_of storage_lent (take (end - start) (drop start bytes)) in list_from o.answer o (drop end bytes)) bad_line
listing_at Cut bytes = bad_line
listing_at Bad bytes = bad_line

unfoldable pub listing : List ℕ → List ℕ
listing bytes = listing_at (outer_at bytes 0) bytes
