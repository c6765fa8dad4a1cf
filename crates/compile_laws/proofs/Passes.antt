-- What compile leaves of a tree passes the check of a circuit.
use mathlib.Core.Path.{◌≡◌, refl, sym, ◌∙◌, ap}
use mathlib.Core.Bool.{Bool, true, false, not, ◌&&◌}
use mathlib.Core.List.{List, [], ◌∷◌, ◌++◌, map}
use Prim.Native.Nat.{ℕ, zero, suc, ◌+◌, ◌*◌, ◌≤◌, ◌<◌}
use native.Mathlib.Omega.{arith}
use borrow.Author.Tests.{le-leb, lt-ltb, eq-eqb, ne_eqb}
use lib.Dec.{T, ltb, eqb}
use lib.ListN.{length, get_or, length-map}
use lib.Ieee.{Float, nan, binary32, eq}
use Rattle.exact.specs.Whole.{diff, zero32}
use Rattle.exact.specs.Tests.{small, coefficient}
use Rattle.exact.proofs.Whole.{eq_diff, zero_is}
use Rattle.exact.proofs.Small.{small_diff}
use Rattle.tree.specs.Forest.{Forest, node, none, preorder, counts, size, width}
use Rattle.tree.specs.Bytes.{Within}
use Rattle.plan.specs.Plan as P
use Rattle.plan.proofs.Laws.{places_rise, report_once}
use Rattle.wire.specs.declared.Form.{Form}
use Rattle.wire.specs.declared.Term.{Term as FloatTerm}
use Rattle.wire.specs.declared.Counts.{Counts}
use Rattle.wire.specs.Terms.{Affine, term_at, part, terms_of}
use Rattle.wire.specs.Storage as W
use Rattle.lists.proofs.Tests.{both}
use Rattle.lists.proofs.Entries.{each_get_d}
use Rattle.wire.proofs.Stored.{holds}
use Rattle.lists.specs.Every.{All}
use Rattle.lists.proofs.Every.{all_append}
use Rattle.construct.specs.Builder as B
use Rattle.construct.specs.Circuit.{Circuit, flats, forms_of, op_forms, output_forms, inputs}
use Rattle.construct.specs.Pairs as Z
use Rattle.construct.specs.Scope.{Reads}
use Rattle.construct.specs.Scope as S
use Rattle.construct.proofs.Forms.{circuit_scoped}
use Rattle.construct_sizes.specs.Exact.{Small, Coefs}
use Rattle.construct_sizes.proofs.Tree.{tree_modest}
use Rattle.construct_means.specs.Means.{circuit_of}
use Rattle.construct_means.proofs.Sizes.{sizes}
use Rattle.construct_instances.proofs.Respects.{of_op}
use Rattle.construct_faithful.proofs.Float.{float, float_term, float_terms}
use Rattle.compile.specs.Encode.{Lists, outputs_in, terms_of_all}
use Rattle.compile.specs.Compile.{Lent, lists_of}
use Rattle.tick_check.specs.Check.{Stored, inside, reads_below, wires_rise, bias_small, circuit_ok, rises_below, each_once, kind_known, counts_lent}
use Rattle.tick_check.specs.Parts.{sizes_ok, form_ok, op_fine, out_ok, coefs_ok, lists_ok, contents_ok}
use Rattle.tick_check.proofs.All.{all_from}
use Rattle.tick_check.proofs.Whole.{sizes_5, circuit_is}
use Rattle.compile_laws.proofs.Encoded.{Fits}
use Rattle.lists.proofs.Sets.{map_at}
use Rattle.compile_laws.proofs.Places.{no_form, no_op}
use Rattle.compile_laws.proofs.Back as back
use Rattle.compile_laws.proofs.Compiles.{tree_circuit, stored_of, Slots}
use Rattle.tree.proofs.Lengths.{preorder_length, counts_length}
use Rattle.plan_laws.proofs.Nodes.{leaves_are, cursors_are, leaves_few, cursors_few, leaves_count, cursors_count}
use Rattle.construct_faithful.proofs.Tree.{all_first}
use Rattle.compile_laws.proofs.Shape.{in_floats, fits}
use Rattle.compile_laws.proofs.Images.{form_images, outs_images, all_get_d, all_second, op_all, in_order_at}
use Rattle.compile_laws.proofs.Rises.{pairs_rise, list_rises, once}

-- ---- one form

abbrev no_pair : Z.Term
no_pair = record { wire = 0; cp = 0; cn = 0 }

below : (b n : ℕ) (ts : List Z.Term) (i : ℕ) → S.Within b n ts → i < length ts → (get_or ts i no_pair).wire < n
below b n [] i w h = absurd (omega arith)
below b n (t ∷ ts) zero w h = w.1
below b n (t ∷ ts) (suc i) w h = below (suc t.wire) n ts i w.3 (omega arith)

next : (b n : ℕ) (ts : List Z.Term) (i : ℕ) → S.Within b n ts → suc i < length ts → (get_or ts i no_pair).wire < (get_or ts (suc i) no_pair).wire
next b n [] i w h = absurd (omega arith)
next b n (t ∷ []) i w h = absurd (omega arith)
next b n (t ∷ u ∷ ts) zero w h = w.3.0
next b n (t ∷ u ∷ ts) (suc i) w h = next (suc t.wire) n (u ∷ ts) i w.3 (omega arith)

pub is_true : (t : Bool) → T t → t ≡ true
is_true true h = refl
is_true false h = absurd h

-- a form that stands in the pools as the image of one with whole coefficients
module _ (wires : List ℕ) (coefs : List Float) (form : Form) (g : Z.Form) (terms limit : ℕ) where
  wire_at : terms_of wires coefs form ≡ float_terms g.terms → form.len ≡ length g.terms → (i : ℕ) → i < length g.terms → get_or wires (form.first + i) 0 ≡ (get_or g.terms i no_pair).wire
  unfolding part
  wire_at e l i h =
      ap (λ (t : FloatTerm). t.wire.0)
      (sym (each_get_d (term_at wires coefs) form.first form.len i (float_term no_pair) (omega arith))
      ∙ ap (λ (ts : List FloatTerm). get_or ts i (float_term no_pair)) e ∙ map_at float_term g.terms i (float_term no_pair) no_pair h)

  form_passes : form.bias ≡ diff binary32 g.bp g.bn → form.len ≡ length g.terms → terms_of wires coefs form ≡ float_terms g.terms → form.first + form.len ≤ terms
      → Reads limit g → Small 65536 g → form_ok wires terms limit form ≡ true
  unfolding form_ok reads_below
  form_passes b l e h r s =
      let at = wire_at e l in
      both (inside terms limit form) (reads_below wires limit form && (wires_rise wires limit form && bias_small limit form)) (le-leb (form.first + form.len) terms h)
      (both (reads_below wires limit form) (wires_rise wires limit form && bias_small limit form)
      (all_from (λ i. ltb (get_or wires (form.first + i) 0) limit) form.len (λ i k. lt-ltb (get_or wires (form.first + i) 0) limit (rw (at i (omega arith)) (below 0 limit g.terms i r (omega arith)))))
      (both (wires_rise wires limit form) (bias_small limit form)
      (pairs_rise wires form.first form.len (λ i k.
      let q : form.first + i + 1 ≡ form.first + suc i = omega arith in
      rw (at i (omega arith), q, at (suc i) (omega arith)) (next 0 limit g.terms i r (omega arith))))
      (rw b (is_true (small (diff binary32 g.bp g.bn)) (small_diff g.bp g.bn s.0 s.1)))))

-- ---- all coefficients

abbrev Good : FloatTerm → Type 0
Good t = coefficient t.coef ≡ true

good_coefficient : (p q : ℕ) → (p ≡ q → ⊥) → p ≤ q + 65536 → q ≤ p + 65536 → coefficient (diff binary32 p q) ≡ true
unfolding coefficient
good_coefficient p q d a b =
    let e : eq (diff binary32 p q) zero32 ≡ false
    = ap (eq (diff binary32 p q)) zero_is ∙ eq_diff binary32 p q 0 0 (omega arith, omega arith) (omega arith, omega arith) ∙ ne_eqb (p + 0) (0 + q) (λ k. d (omega arith)) in
    both (not (eq (diff binary32 p q) zero32)) (small (diff binary32 p q)) (ap not e) (is_true (small (diff binary32 p q)) (small_diff p q a b))

good_terms : (b m : ℕ) (ts : List Z.Term) → S.Within b m ts → Coefs 65536 ts → All Good (float_terms ts)
good_terms b m [] w s = tt
good_terms b m (t ∷ ts) w s = (good_coefficient t.cp t.cn w.2 s.0.0 s.0.1, good_terms (suc t.wire) m ts w.3 s.1)

good_forms : (m : ℕ) (gs : List Z.Form) → All (Reads m) gs → All (Small 65536) gs → All Good (terms_of_all (map float gs))
unfolding terms_of_all float
good_forms m [] r s = tt
good_forms m (g ∷ gs) r s = all_append Good (float_terms g.terms) (terms_of_all (map float gs)) (good_terms 0 m g.terms r.0 s.0.2) (good_forms m gs r.1 s.1)

-- ---- the circuit of a tree

abbrev CircuitZ : Type 0
CircuitZ = Circuit Z.Form

abbrev CircuitF : Type 0
CircuitF = Circuit Affine

abbrev OpF : Type 0
OpF = B.Op Affine

pub some_node_lem : (f : Forest ℕ) → width f ≡ 1 → 0 < size f
some_node_lem none e = omega arith
some_node_lem (node k kids rest) e = omega arith

abbrev pub z_form : Z.Form
z_form = record { bp = 0; bn = 0; terms = [] }

abbrev pub z_op : Z.Op
z_op = record { left = z_form; gate = z_form }

module _ (f : Forest ℕ) (w : Within f) (l : Lent) (slots : Slots l (tree_circuit f)) where
  abbrev d : CircuitZ
  d = circuit_of f

  abbrev s : Stored
  s = stored_of l f

  abbrev n : Counts
  n = s.counts

  abbrev p : Lists
  p = lists_of (preorder f) (counts f)

  pub F : Fits n p (tree_circuit f) l.nums l.biases l.wires l.coefs
  F = fits f w l slots

  abbrev Stands : Form → Affine → Type 0
  Stands form x = back.Stands n p (tree_circuit f) l.nums l.biases l.wires l.coefs F form x

  form_ok_lem : (form : Form) (x : Affine) (g : Z.Form) (limit : ℕ) → x ≡ float g → Stands form x → Reads limit g → Small 65536 g → form_ok s.wires n.terms limit form ≡ true
  unfolding float
  form_ok_lem form x g limit e st r m =
      form_passes s.wires s.coefs form g n.terms limit (st.bias ∙ ap (λ (y : Affine). y.bias) e)
      (st.len ∙ ap (λ (y : Affine). length y.terms) e ∙ length-map g.terms float_term) (st.terms ∙ ap (λ (y : Affine). y.terms) e) st.inside r m

  -- in the places of the circuit with whole coefficients
  pub ops_same : length d.ops ≡ n.ops
  ops_same = sym (ap (λ (c : CircuitF). length c.ops) (in_floats f w) ∙ length-map d.ops (of_op float))

  pub op_image : (k : ℕ) → k < n.ops → get_or (tree_circuit f).ops k no_op ≡ of_op float (get_or d.ops k z_op)
  op_image k h = ap (λ (c : CircuitF). get_or c.ops k no_op) (in_floats f w) ∙ map_at (of_op float) d.ops k no_op z_op (omega (arith, ops_same))

  pub outs_same : outputs_in (tree_circuit f) ≡ map float (output_forms d.outputs ++ d.cursors)
  outs_same = ap outputs_in (in_floats f w) ∙ outs_images float d

  pub outs_length : length (output_forms d.outputs ++ d.cursors) ≡ W.output_count n
  outs_length = sym (length-map (output_forms d.outputs ++ d.cursors) float) ∙ sym (ap length outs_same) ∙ F.outputs

  pub out_image : (k : ℕ) → k < W.output_count n → get_or (outputs_in (tree_circuit f)) k no_form ≡ float (get_or (output_forms d.outputs ++ d.cursors) k z_form)
  out_image k h = ap (λ (xs : List Affine). get_or xs k no_form) outs_same ∙ map_at float (output_forms d.outputs ++ d.cursors) k no_form z_form (omega (arith, outs_length))

  pub cells_same : inputs (flats (preorder f) (counts f)) ≡ n.cells
  cells_same =
      omega (arith, (sizes f).nodes, (sizes f).cells, (sizes f).slots, preorder_length f, leaves_count f w.lowered w.few, cursors_count f w.lowered w.few)

  pub scoped : S.Scoped n.cells d
  scoped = rw cells_same at (circuit_scoped (flats (preorder f) (counts f)))

  pub modest : All (Small 65536) (forms_of d)
  modest = tree_modest f w.few

  op_ok : (k : ℕ) → k < n.ops → op_fine s k ≡ true
  unfolding op_fine
  op_ok k h =
      let o = get_or d.ops k z_op in
      let b : k < length d.ops = omega (arith, ops_same) in
      let r = in_order_at n.cells d.ops k z_op scoped.ops b in
      let m = op_all (Small 65536) d.ops k z_op (all_first (Small 65536) (op_forms d.ops) (output_forms d.outputs ++ d.cursors) modest) b in
      let e = op_image k h in
      let left = W.left_form s.nums s.biases k in
      let gate = W.gate_form s.nums s.biases k in
      let ok = form_ok s.wires n.terms (n.cells + k) in
      both (kind_known s.nums k) (ok left && ok gate) (known k h)
      (both (ok left) (ok gate)
      (form_ok_lem left (get_or (tree_circuit f).ops k no_op).left o.left (n.cells + k) (ap (λ (y : OpF). y.left) e) (back.left_stands n p (tree_circuit f) l.nums l.biases l.wires l.coefs F k h) r.0 m.0)
      (form_ok_lem gate (get_or (tree_circuit f).ops k no_op).gate o.gate (n.cells + k) (ap (λ (y : OpF). y.gate) e) (back.gate_stands n p (tree_circuit f) l.nums l.biases l.wires l.coefs F k h) r.1 m.1))
    where
      known : (k : ℕ) → k < n.ops → kind_known s.nums k ≡ true
      known k h = rw (back.kind_stands n p (tree_circuit f) l.nums l.biases l.wires l.coefs F k h)

  out_ok_lem : (k : ℕ) → k < W.output_count n → out_ok s k ≡ true
  unfolding out_ok
  out_ok_lem k h =
      let gs = output_forms d.outputs ++ d.cursors in
      let b : k < length gs = omega (arith, outs_length) in
      let limit : n.cells + length d.ops ≡ n.cells + n.ops = ap (λ (m : ℕ). n.cells + m) ops_same in
      let r = all_second (Reads (n.cells + length d.ops)) (op_forms d.ops) gs scoped.forms in
      form_ok_lem (W.output_form s.nums s.biases k) (get_or (outputs_in (tree_circuit f)) k no_form) (get_or gs k z_form) (n.cells + n.ops) (out_image k h)
      (back.output_stands n p (tree_circuit f) l.nums l.biases l.wires l.coefs F k h)
      (rw limit at (all_get_d (Reads (n.cells + length d.ops)) gs k z_form r b))
      (all_get_d (Small 65536) gs k z_form (all_second (Small 65536) (op_forms d.ops) gs modest) b)

  coefs_ok_lem : coefs_ok s.coefs n.terms ≡ true
  unfolding coefs_ok
  coefs_ok_lem =
      let same : forms_of (tree_circuit f) ≡ map float (forms_of d) = ap forms_of (in_floats f w) ∙ form_images float d in
      let good : All Good (terms_of_all (forms_of (tree_circuit f))) = rw same (good_forms (n.cells + length d.ops) (forms_of d) scoped.forms modest) in
      all_from (λ t. coefficient (get_or s.coefs t nan)) n.terms
      (λ t h.
      ap coefficient (back.coef_at n p (tree_circuit f) l.nums l.biases l.wires l.coefs F t h)
      ∙ all_get_d Good (terms_of_all (forms_of (tree_circuit f))) t back.no_term good (omega (arith, F.terms)))

  leaves_ok : rises_below s.nums W.leaves_from n.leaves n.nodes ≡ true
  leaves_ok =
      list_rises s.nums p.leaves W.leaves_from (back.leaves_stand n p (tree_circuit f) l.nums l.biases l.wires l.coefs F) 0 n.nodes
      (let e : 0 + length (preorder f) ≡ length (preorder f) = omega arith in rw (leaves_are f w.lowered w.few) (rw e at (places_rise (λ k. eqb k 1) 0 (preorder f))))

  cursors_ok : rises_below s.nums W.cursors_from n.cursors n.nodes ≡ true
  cursors_ok =
      list_rises s.nums p.cursors W.cursors_from (back.cursors_stand n p (tree_circuit f) l.nums l.biases l.wires l.coefs F) 0 n.nodes
      (let e : 0 + length (preorder f) ≡ length (preorder f) = omega arith in rw (cursors_are f w.lowered w.few) (rw e at (places_rise (P.either_kind 4 6) 0 (preorder f))))

  report_ok : each_once s.nums W.report_from n.nodes ≡ true
  report_ok =
      once s.nums p.report W.report_from n.nodes F.report (back.report_stands n p (tree_circuit f) l.nums l.biases l.wires l.coefs F)
      (λ v h. report_once (counts f) v (omega (arith, preorder_length f, counts_length f, w.few)))

  sizes_ok_lem : sizes_ok n ≡ true
  sizes_ok_lem =
      sym (sizes_5 n (omega (arith, some_node_lem f w.one, preorder_length f)) (omega (arith, preorder_length f, w.few))
      (omega (arith, cursors_few f w.lowered w.few, preorder_length f)) (omega (arith, leaves_few f w.lowered w.few, preorder_length f)))
      ∙ eq-eqb n.cells (n.nodes + n.cursors + 3 * n.leaves) refl

  lent_ok : counts_lent s ≡ true
  lent_ok =
      holds n (length s.nums) (length s.biases) (length s.wires) (length s.coefs)
      (record {
        in_nums = omega (arith, back.nums_length p (tree_circuit f) l.nums, slots.in_nums);
        in_biases = omega (arith, back.biases_length p (tree_circuit f) l.biases, slots.in_biases);
        in_wires = omega (arith, back.wires_length p (tree_circuit f) l.wires, slots.in_wires);
        in_coefs = omega (arith, back.coefs_length p (tree_circuit f) l.coefs, slots.in_coefs);
      })

  -- THE LAW: none of document 01's reasons for 17 is given
  pub circuit_ok_lem : circuit_ok s ≡ true
  unfolding contents_ok lists_ok
  circuit_ok_lem =
      let ls = both (rises_below s.nums W.leaves_from n.leaves n.nodes) (rises_below s.nums W.cursors_from n.cursors n.nodes && each_once s.nums W.report_from n.nodes) leaves_ok
      (both (rises_below s.nums W.cursors_from n.cursors n.nodes) (each_once s.nums W.report_from n.nodes) cursors_ok report_ok) in
      circuit_is s
      ∙ (λ i. sizes_ok_lem i && (lent_ok i && (coefs_ok_lem i && (all_from (op_fine s) n.ops op_ok i && (all_from (out_ok s) (W.output_count n) out_ok_lem i && ls i)))))
