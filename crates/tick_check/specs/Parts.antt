-- The check form by form, and what each of its passes decides. That both are Check's list is proved in proofs/Whole.antt and Passes.antt.
-- Inner: the shape of the code; nobody need believe it.
use Rattle.std.specs.Prelude.{ℕ, ◌+◌, ◌*◌, List, Bool, ◌&&◌, ◌||◌, length, get_or, leb, eqb, Float}
use Rattle.std.specs.Float.{nan}
use Rattle.exact.specs.Tests.{small, coefficient}
use Rattle.lists.specs.All.{all}
use Rattle.wire.specs.declared.Form.{Form}
use Rattle.wire.specs.declared.Counts.{Counts}
use Rattle.wire.specs.declared.Circuit.{Circuit}
use Rattle.wire.specs.Held.{Held}
use Rattle.wire.specs.Storage.{leaves_from, cursors_from, report_from, outputs_from, ops_from, op_biases_from, affine_kind, reglu_kind, output_count}
use Rattle.tick_check.specs.Checked.{Sizes}
use Rattle.tick_check.specs.Check.{Stored, some_node, sizes_fit, cells_fit, kind_known, inside, reads_below, pairs, wires_rise, bias_small, rises_below, each_once, op_forms, out_form}

abbrev pub sizes_ok : Counts → Bool
sizes_ok n = some_node n && (sizes_fit n && cells_fit n)

-- everything that is asked of one form
unfoldable pub form_ok : List ℕ → ℕ → ℕ → Form → Bool
unfolding reads_below pairs
form_ok wires terms limit f = inside terms limit f && (reads_below wires limit f && (wires_rise wires limit f && bias_small limit f))

unfoldable pub op_fine : Stored → ℕ → Bool
unfolding form_ok
op_fine s i = kind_known s.nums i && op_forms (form_ok s.wires s.counts.terms) s i

unfoldable pub out_ok : Stored → ℕ → Bool
unfolding form_ok
out_ok s k = out_form (form_ok s.wires s.counts.terms) s k

unfoldable pub coefs_ok : List Float → ℕ → Bool
unfolding all coefficient
coefs_ok coefs terms = all (λ t. coefficient (get_or coefs t nan)) terms

unfoldable pub lists_ok : Counts → List ℕ → Bool
unfolding rises_below each_once
lists_ok n nums =
    rises_below nums leaves_from n.leaves n.nodes && (rises_below nums cursors_from n.cursors n.nodes && each_once nums report_from n.nodes)

-- of storage that holds the counts
unfoldable pub contents_ok : Stored → Bool
unfolding coefs_ok op_fine out_ok lists_ok all
contents_ok s = coefs_ok s.coefs s.counts.terms && (all (op_fine s) s.counts.ops && (all (out_ok s) (output_count s.counts) && lists_ok s.counts s.nums))

-- ---- the passes

-- every bias of n, from an index on
unfoldable pub biases_ok : List Float → ℕ → ℕ → Bool
unfolding all
biases_ok biases from n = all (λ i. small (get_or biases (from + i) nan)) n

unfoldable pub floats_ok : Counts → List Float → List Float → Bool
unfolding coefs_ok biases_ok
floats_ok n biases coefs = coefs_ok coefs n.terms && (biases_ok biases 0 (output_count n) && biases_ok biases op_biases_from (2 * n.ops))

-- what is asked of the form whose range stands at an index of nums, but for its bias
unfoldable pub range_ok : List ℕ → ℕ → ℕ → List ℕ → ℕ → Bool
unfolding rises_below
range_ok wires terms limit nums at =
    let first = get_or nums at 0 in
    let len = get_or nums (at + 1) 0 in
    leb (first + len) terms && rises_below wires first len limit

-- of the op that stands there
unfoldable pub op_ranges : List ℕ → ℕ → ℕ → List ℕ → ℕ → Bool
unfolding range_ok
op_ranges wires terms own nums at =
    let kind = get_or nums at 0 in
    (eqb kind affine_kind || eqb kind reglu_kind) && (range_ok wires terms own nums (at + 1) && range_ok wires terms own nums (at + 3))

unfoldable pub ops_range : Counts → List ℕ → List ℕ → Bool
unfolding op_ranges all
ops_range n nums wires = all (λ i. op_ranges wires n.terms (n.cells + i) nums (ops_from + 5 * i)) n.ops

unfoldable pub outs_range : Counts → List ℕ → List ℕ → Bool
unfolding range_ok all
outs_range n nums wires = all (λ k. range_ok wires n.terms (n.cells + n.ops) nums (outputs_from + 2 * k)) (output_count n)

-- ---- what the passes ask

-- the counts are within the limits, and lent storage holds them
pub record Sized (c : Circuit) : Type 0 where
  pub sizes : Sizes c.counts
  pub held : Held c.counts (length c.nums.now) (length c.biases.now) (length c.pools.wires.now) (length c.pools.coefs.now)
