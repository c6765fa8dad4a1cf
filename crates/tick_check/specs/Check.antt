-- When a circuit in storage is one: document 01, "17 is given exactly when", item by item in its order. Definitions only.
use Rattle.std.specs.Prelude.{ℕ, zero, suc, ◌+◌, ◌-◌, ◌*◌, List, Bool, ◌&&◌, ◌||◌, cond, length, get_or, ltb, leb, eqb, Float}
use Rattle.std.specs.Float.{nan}
use Rattle.std.specs.Float.Ieee.{ne}
use Rattle.exact.specs.Whole.{zero32}
use Rattle.exact.specs.Tests.{small}
use Rattle.lists.specs.All.{all}
use Rattle.wire.specs.declared.Form.{Form}
use Rattle.wire.specs.declared.Counts.{Counts}
use Rattle.wire.specs.declared.Circuit.{Circuit}
use Rattle.wire.specs.Storage.{leaves_from, cursors_from, report_from, kind_at, left_form, gate_form, output_form, output_count, storage_holds}

-- a circuit as it is lent: the counts and the four slices, which may hold anything
pub record Stored : Type 0 where
  pub counts : Counts
  pub nums : List ℕ
  pub biases : List Float
  pub wires : List ℕ
  pub coefs : List Float

abbrev pub stored : Counts → List ℕ → List Float → List ℕ → List Float → Stored
stored n nums biases wires coefs = record { counts = n; nums = nums; biases = biases; wires = wires; coefs = coefs }

abbrev pub stored_in : Circuit → Stored
stored_in c = stored c.counts c.nums.now c.biases.now c.pools.wires.now c.pools.coefs.now

-- ---- counts

-- not "there is no node"
abbrev pub some_node : Counts → Bool
some_node n = ltb 0 n.nodes

-- not "N is above 128, or C or L above N"
abbrev pub sizes_fit : Counts → Bool
sizes_fit n = leb n.nodes 128 && (leb n.cursors n.nodes && leb n.leaves n.nodes)

-- not "the input cells aren't N + C + 3L"
abbrev pub cells_fit : Counts → Bool
cells_fit n = eqb n.cells (n.nodes + n.cursors + 3 * n.leaves)

-- not "a count exceeds the storage lent for it"
abbrev pub counts_lent : Stored → Bool
counts_lent s = storage_holds s.counts (length s.nums) (length s.biases) (length s.wires) (length s.coefs)

-- ---- ops and forms

-- not "an op is of neither kind"
abbrev pub kind_known : List ℕ → ℕ → Bool
kind_known nums i = eqb (kind_at nums i) 1 || eqb (kind_at nums i) 2

unfoldable pub kinds_known : Stored → Bool
unfolding all
kinds_known s = all (kind_known s.nums) s.counts.ops

-- A test of every form: the two of each op, then the outputs. It is told the first position that the form may not read:
-- the op's own, or the length of the table.
abbrev pub op_forms : (ℕ → Form → Bool) → Stored → ℕ → Bool
op_forms p s i = p (s.counts.cells + i) (left_form s.nums s.biases i) && p (s.counts.cells + i) (gate_form s.nums s.biases i)

abbrev pub out_form : (ℕ → Form → Bool) → Stored → ℕ → Bool
out_form p s k = p (s.counts.cells + s.counts.ops) (output_form s.nums s.biases k)

unfoldable pub each_form : (ℕ → Form → Bool) → Stored → Bool
unfolding all
each_form p s = all (op_forms p s) s.counts.ops && all (out_form p s) (output_count s.counts)

-- not "a form points past the terms in use"
abbrev pub inside : ℕ → ℕ → Form → Bool
inside terms limit f = leb (f.first + f.len) terms

-- not "an op reads a value not before its own, or an output reads one past the table"
unfoldable pub reads_below : List ℕ → ℕ → Form → Bool
unfolding all
reads_below wires limit f = all (λ i. ltb (get_or wires (f.first + i) 0) limit) f.len

-- each of n entries of a list, from an index on, is below the one after it
unfoldable pub pairs : List ℕ → ℕ → ℕ → Bool
unfolding all
pairs xs from n = all (λ i. ltb (get_or xs (from + i) 0) (get_or xs (from + i + 1) 0)) n

-- n entries rise strictly: each but the last is below the one after it
abbrev pub rising : List ℕ → ℕ → ℕ → Bool
rising xs from n = pairs xs from (n - 1)

-- not "a form's wires don't strictly rise"
abbrev pub wires_rise : List ℕ → ℕ → Form → Bool
wires_rise wires limit f = rising wires f.first f.len

-- not "a coefficient is zero": every coefficient of the terms in use
unfoldable pub coefs_nonzero : List Float → ℕ → Bool
unfolding all
coefs_nonzero coefs terms = all (λ t. ne (get_or coefs t nan) zero32) terms

-- not "a coefficient or bias is not whole or exceeds 65,536 in size"
unfoldable pub coefs_small : List Float → ℕ → Bool
unfolding all
coefs_small coefs terms = all (λ t. small (get_or coefs t nan)) terms

abbrev pub bias_small : ℕ → Form → Bool
bias_small limit f = small f.bias

-- ---- lists of nodes

-- not "the leaf or cursor list doesn't strictly rise below the node count"
unfoldable pub rises_below : List ℕ → ℕ → ℕ → ℕ → Bool
unfolding pairs all
rises_below nums from n nodes = all (λ i. ltb (get_or nums (from + i) 0) nodes) n && rising nums from n

-- how many of n entries, from an index on, are v
unfoldable pub times : List ℕ → ℕ → ℕ → ℕ → ℕ
times nums from v zero = 0
times nums from v (suc n) = cond (eqb (get_or nums (from + n) 0) v) (times nums from v n + 1) (times nums from v n)

-- not "the report list doesn't hold each node once"
unfoldable pub each_once : List ℕ → ℕ → ℕ → Bool
unfolding all times
each_once nums from nodes = all (λ v. eqb (times nums from v nodes) 1) nodes

-- ---- the whole list, in document 01's order

unfoldable pub circuit_ok : Stored → Bool
unfolding kinds_known each_form reads_below pairs coefs_nonzero coefs_small rises_below each_once
circuit_ok s =
    let n = s.counts in
    some_node n && (sizes_fit n && (cells_fit n && (counts_lent s && (kinds_known s
    && (each_form (inside n.terms) s && (each_form (reads_below s.wires) s && (each_form (wires_rise s.wires) s
    && (coefs_nonzero s.coefs n.terms && (coefs_small s.coefs n.terms && (each_form bias_small s
    && (rises_below s.nums leaves_from n.leaves n.nodes && (rises_below s.nums cursors_from n.cursors n.nodes
    && each_once s.nums report_from n.nodes))))))))))))
