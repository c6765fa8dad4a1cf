-- The check form by form decides document 01's list; and what the counts of a circuit that passes tell.
use mathlib.Core.Path.{◌≡◌, ap, ◌∙◌}
use mathlib.Core.List.{List}
use mathlib.Core.Bool.{Bool, true, not, ◌&&◌}
use Prim.Native.Nat.{ℕ, ◌+◌, ◌*◌, ◌≤◌, ◌<◌}
use native.Mathlib.Omega.{arith}
use lib.ListN.{get_or}
use lib.Dec.{eqb}
use lib.Ieee.{Float, nan, eq, ne}
use Rattle.exact.specs.Whole.{zero32}
use Rattle.exact.specs.Tests.{small, coefficient}
use Rattle.lists.specs.All.{all}
use Rattle.wire.specs.declared.Form.{Form}
use Rattle.wire.specs.declared.Counts.{Counts}
use Rattle.wire.specs.Storage.{leaves_from, cursors_from, report_from, output_count}
use Rattle.std.proofs.lemmas.Bool.Decides.{nat_tests}
use Rattle.tick_check.specs.Checked.{Sizes}
use Rattle.tick_check.specs.Check.{Stored, some_node, sizes_fit, cells_fit, counts_lent, kind_known, kinds_known, op_forms, out_form, each_form, inside, reads_below, wires_rise, coefs_nonzero, coefs_small, bias_small, rises_below, each_once, circuit_ok}
use Rattle.tick_check.specs.Parts.{sizes_ok, form_ok, op_fine, out_ok, coefs_ok, lists_ok, contents_ok}
use Rattle.tick_check.proofs.All.{mix, all_same, all_and}

-- ---- counts

pub sizes_5 : (n : Counts) → 0 < n.nodes → n.nodes ≤ 128 → n.cursors ≤ n.nodes → n.leaves ≤ n.nodes
    → eqb n.cells (n.nodes + n.cursors + 3 * n.leaves) ≡ sizes_ok n
sizes_5 n some few cursors leaves = grind (arith, nat_tests)

pub sizes_say : (n : Counts) → sizes_ok n ≡ true → Sizes n
sizes_say n e =
    record {
      some = grind (arith, nat_tests);
      few = grind (arith, nat_tests);
      cursors = grind (arith, nat_tests);
      leaves = grind (arith, nat_tests);
      cells = grind (arith, nat_tests);
    }

-- ---- one test of every form for several

each_and : (p q : ℕ → Form → Bool) (s : Stored) → each_form (λ l f. p l f && q l f) s ≡ each_form p s && each_form q s
unfolding each_form
each_and p q s =
    let n = s.counts in
    let ops = all_same (op_forms (λ l f. p l f && q l f) s) (λ i. op_forms p s i && op_forms q s i) n.ops
    (λ i h. grind arith) in
    let pairs = all_and (op_forms p s) (op_forms q s) n.ops in
    let outs = all_and (out_form p s) (out_form q s) (output_count n) in
    rw (ops, pairs, outs) (mix (all (op_forms p s) n.ops) _ (all (out_form p s) (output_count n)) _)

forms_are : (s : Stored) → each_form (form_ok s.wires s.counts.terms) s
    ≡ each_form (inside s.counts.terms) s && (each_form (reads_below s.wires) s && (each_form (wires_rise s.wires) s && each_form bias_small s))
unfolding form_ok
forms_are s =
    let i = inside s.counts.terms in
    let r = reads_below s.wires in
    let w = wires_rise s.wires in
    each_and i (λ l f. r l f && (w l f && bias_small l f)) s
    ∙ ap (λ (t : Bool). each_form i s && t)
    (each_and r (λ l f. w l f && bias_small l f) s ∙ ap (λ (t : Bool). each_form r s && t) (each_and w bias_small s))

coefs_are : (coefs : List Float) (terms : ℕ) → coefs_ok coefs terms ≡ coefs_nonzero coefs terms && coefs_small coefs terms
unfolding coefs_ok coefs_nonzero coefs_small coefficient ne
coefs_are coefs terms = all_and (λ t. not (eq (get_or coefs t nan) zero32)) (λ t. small (get_or coefs t nan)) terms

ops_are : (s : Stored) → all (op_fine s) s.counts.ops ≡ kinds_known s && all (op_forms (form_ok s.wires s.counts.terms) s) s.counts.ops
unfolding op_fine kinds_known
ops_are s = all_and (kind_known s.nums) (op_forms (form_ok s.wires s.counts.terms) s) s.counts.ops

pub assoc : (a b c d : Bool) → a && (b && (c && d)) ≡ (a && (b && c)) && d
assoc a b c d = grind arith

-- the items that speak of the contents, in document 01's order and form by form
regroup : (k i r w cn cs b ls f g : Bool) {c o : Bool} → f && g ≡ i && (r && (w && b)) → c ≡ cn && cs → o ≡ k && f
    → k && (i && (r && (w && (cn && (cs && (b && ls)))))) ≡ c && (o && (g && ls))
regroup k i r w cn cs b ls f g forms coefs ops = rw (coefs, ops) (grind arith)

pub circuit_is : (s : Stored) → circuit_ok s ≡ sizes_ok s.counts && (counts_lent s && contents_ok s)
unfolding circuit_ok contents_ok lists_ok out_ok each_form
circuit_is s =
    let n = s.counts in
    let form = form_ok s.wires n.terms in
    let lists = rises_below s.nums leaves_from n.leaves n.nodes
    && (rises_below s.nums cursors_from n.cursors n.nodes && each_once s.nums report_from n.nodes) in
    let contents = regroup (kinds_known s) (each_form (inside n.terms) s) (each_form (reads_below s.wires) s) (each_form (wires_rise s.wires) s)
    (coefs_nonzero s.coefs n.terms) (coefs_small s.coefs n.terms) (each_form bias_small s) lists
    (all (op_forms form s) n.ops) (all (out_form form s) (output_count n)) (forms_are s) (coefs_are s.coefs n.terms) (ops_are s) in
    assoc (some_node n) (sizes_fit n) (cells_fit n) _ ∙ ap (λ (t : Bool). sizes_ok n && (counts_lent s && t)) contents
