-- An encoded circuit reads back: forms, ops and lists, each where the layout has it.
use mathlib.Core.Path.{◌≡◌, refl, sym, ◌∙◌, ap}
use mathlib.Core.List.{List, [], ◌∷◌, ◌++◌, append-nil}
use Prim.Native.Nat.{ℕ, zero, suc, ◌+◌, ◌*◌, ◌≤◌, ◌<◌}
use native.Mathlib.Omega.{arith}
use lib.ListN.{length, get_or, take, drop, replicate, length-append, length-map, length-replicate, get_or-map}
use lib.Seq.{sets, length-sets, drop-cons}
use lib.Ieee.{Float, nan}
use Rattle.exact.specs.Whole.{zero32}
use Rattle.wire.specs.declared.Counts.{Counts}
use Rattle.wire.specs.declared.Form.{Form}
use Rattle.wire.specs.declared.Term.{Term}
use Rattle.lists.specs.Each.{each}
use Rattle.wire.specs.Terms.{Affine, term_at, part, terms_of, meaning}
use Rattle.wire.specs.Storage as W
use Rattle.wire.proofs.Stored.{circuit_is}
use Rattle.arena_terms.specs.Steps.{wires_in, coefs_in}
use Rattle.construct.specs.Circuit.{Circuit, op_forms, forms_of}
use Rattle.compile.specs.Encode.{size, outputs_in, terms_of_all, ranges, op_nums, biases_of, Lists, list_nums, nums_of, biases_in, wires_of, coefs_of}
use Rattle.compile_laws.proofs.Encoded.{op_in, meant, Fits}
use Rattle.lists.proofs.Sets.{sets_before, sets_after, sets_at, sets_first, map_at}
use Rattle.compile_laws.proofs.Places.{no_form, no_op, start_of, range_at, ranges_length, op_nums_at, op_nums_length, op_forms_length, op_forms_at, terms_append, start_inside, terms_at}

abbrev pub no_term : Term
no_term = record { wire = record { 0 = 0 }; coef = nan }

-- a pool of terms, by index
pub pool_at : (ts : List Term) (ws : List ℕ) (cs : List Float) → length ts ≤ length ws → length ts ≤ length cs → (i : ℕ) → i < length ts
    → term_at (sets ws 0 (wires_in ts)) (sets cs 0 (coefs_in ts)) i ≡ get_or ts i no_term
pool_at ts ws cs hw hc i h =
    let w : get_or (sets ws 0 (wires_in ts)) i 0 ≡ (get_or ts i no_term).wire.0
    = sets_first (wires_in ts) ws i 0 (simp length-map (omega arith)) (simp length-map (omega arith)) ∙ get_or-map (λ (t : Term). t.wire.0) ts i no_term in
    let c : get_or (sets cs 0 (coefs_in ts)) i nan ≡ (get_or ts i no_term).coef
    = sets_first (coefs_in ts) cs i nan (simp length-map (omega arith)) (simp length-map (omega arith)) ∙ get_or-map (λ (t : Term). t.coef) ts i no_term in
    λ j. record { wire = record { 0 = w j }; coef = c j }

-- and in parts
pool_part : (ts : List Term) (ws : List ℕ) (cs : List Float) → length ts ≤ length ws → length ts ≤ length cs → (i n : ℕ) → i + n ≤ length ts
    → part (sets ws 0 (wires_in ts)) (sets cs 0 (coefs_in ts)) i n ≡ take n (drop i ts)
unfolding part each
pool_part ts ws cs hw hc i zero h = refl
pool_part ts ws cs hw hc i (suc n) h =
    (λ j. pool_at ts ws cs hw hc i (omega arith) j ∷ pool_part ts ws cs hw hc (suc i) n (omega arith) j)
    ∙ sym (ap (take (suc n)) (drop-cons ts i no_term (omega arith)))

-- the slices are as long as lent
module _ (p : Lists) (c : Circuit Affine) (len : ℕ) where
  lists_length : length (list_nums len p) ≡ len
  unfolding list_nums
  lists_length = simp (length-sets, length-replicate)

  pub nums_length : length (nums_of len p c) ≡ len
  unfolding nums_of
  nums_length = simp length-sets lists_length

  pub biases_length : length (biases_in len c) ≡ len
  unfolding biases_in
  biases_length = simp (length-sets, length-replicate)

  pub wires_length : length (wires_of len c) ≡ len
  unfolding wires_of
  wires_length = simp (length-sets, length-replicate)

  pub coefs_length : length (coefs_of len c) ≡ len
  unfolding coefs_of
  coefs_length = simp (length-sets, length-replicate)

module _ (n : Counts) (p : Lists) (c : Circuit Affine) (ln lb lw lc : ℕ) (fits : Fits n p c ln lb lw lc) where
  abbrev nums : List ℕ
  nums = nums_of ln p c

  abbrev biases : List Float
  biases = biases_in lb c

  abbrev wires : List ℕ
  wires = wires_of lw c

  abbrev coefs : List Float
  coefs = coefs_of lc c

  abbrev op_terms : ℕ
  op_terms = length (terms_of_all (op_forms c.ops))

  -- ---- nums

  ops_end : W.ops_from + length (op_nums 0 c.ops) ≤ length (list_nums ln p)
  ops_end = omega (arith, lists_length p c ln, op_nums_length 0 c.ops)

  outs_end : W.outputs_from + length (ranges op_terms (outputs_in c)) ≤ W.ops_from
  outs_end = omega (arith, ranges_length op_terms (outputs_in c))

  -- below the output forms stand the lists
  list_part : (j : ℕ) → j < W.outputs_from → get_or nums j 0 ≡ get_or (list_nums ln p) j 0
  unfolding nums_of
  list_part j h =
      sets_before (ranges op_terms (outputs_in c)) (sets (list_nums ln p) W.ops_from (op_nums 0 c.ops)) W.outputs_from j 0 h
      ∙ sets_before (op_nums 0 c.ops) (list_nums ln p) W.ops_from j 0 (omega arith)

  -- then the ranges of the output forms
  range_part : (j : ℕ) → j < 2 * W.output_count n → get_or nums (W.outputs_from + j) 0 ≡ get_or (ranges op_terms (outputs_in c)) j 0
  unfolding nums_of
  range_part j h =
      let l = length-sets (list_nums ln p) W.ops_from (op_nums 0 c.ops) in
      sets_at (ranges op_terms (outputs_in c)) (sets (list_nums ln p) W.ops_from (op_nums 0 c.ops)) W.outputs_from j 0
      (omega (arith, lists_length p c ln, outs_end)) (omega (arith, ranges_length op_terms (outputs_in c)))

  -- then the ops
  op_part : (j : ℕ) → j < 5 * n.ops → get_or nums (W.ops_from + j) 0 ≡ get_or (op_nums 0 c.ops) j 0
  unfolding nums_of
  op_part j h =
      sets_after (ranges op_terms (outputs_in c)) (sets (list_nums ln p) W.ops_from (op_nums 0 c.ops)) W.outputs_from (W.ops_from + j) 0 (omega (arith, outs_end))
      ∙ sets_at (op_nums 0 c.ops) (list_nums ln p) W.ops_from j 0 ops_end (omega (arith, op_nums_length 0 c.ops))

  -- ---- biases

  bias_base : length (sets (replicate lb zero32) W.op_biases_from (biases_of (op_forms c.ops))) ≡ lb
  bias_base = simp (length-sets, length-replicate)

  out_bias : (k : ℕ) → k < W.output_count n → get_or biases k nan ≡ (get_or (outputs_in c) k no_form).bias
  unfolding biases_in
  out_bias k h =
      sets_first (biases_of (outputs_in c)) (sets (replicate lb zero32) W.op_biases_from (biases_of (op_forms c.ops))) k nan
      (simp length-map (omega (arith, bias_base))) (simp length-map (omega arith))
      ∙ get_or-map (λ (x : Affine). x.bias) (outputs_in c) k no_form

  op_bias : (k : ℕ) → k < 2 * n.ops → get_or biases (W.op_biases_from + k) nan ≡ (get_or (op_forms c.ops) k no_form).bias
  unfolding biases_in
  op_bias k h =
      sets_after (biases_of (outputs_in c)) (sets (replicate lb zero32) W.op_biases_from (biases_of (op_forms c.ops))) 0 (W.op_biases_from + k) nan (simp length-map (omega arith))
      ∙ sets_at (biases_of (op_forms c.ops)) (replicate lb zero32) W.op_biases_from k nan
      (simp (length-map, length-replicate) (omega (arith, op_forms_length c.ops))) (simp length-map (omega (arith, op_forms_length c.ops)))
      ∙ get_or-map (λ (x : Affine). x.bias) (op_forms c.ops) k no_form

  -- ---- terms

  part_is : (i m : ℕ) → i + m ≤ n.terms → part wires coefs i m ≡ take m (drop i (terms_of_all (forms_of c)))
  unfolding wires_of coefs_of
  part_is i m h =
      pool_part (terms_of_all (forms_of c)) (replicate lw 0) (replicate lc zero32) (simp length-replicate (omega arith)) (simp length-replicate (omega arith)) i m (omega arith)

  -- the terms in use, by index
  pub coef_at : (i : ℕ) → i < n.terms → get_or coefs i nan ≡ (get_or (terms_of_all (forms_of c)) i no_term).coef
  unfolding coefs_of
  coef_at i h =
      let ts = terms_of_all (forms_of c) in
      ap (λ (t : Term). t.coef) (pool_at ts (replicate lw 0) (replicate lc zero32) (simp length-replicate (omega arith)) (simp length-replicate (omega arith)) i (omega arith))

  two_parts : terms_of_all (forms_of c) ≡ terms_of_all (op_forms c.ops) ++ terms_of_all (outputs_in c)
  two_parts = terms_append (op_forms c.ops) (outputs_in c)

  both_count : op_terms + length (terms_of_all (outputs_in c)) ≡ n.terms
  both_count = sym (length-append (terms_of_all (op_forms c.ops)) (terms_of_all (outputs_in c))) ∙ sym (ap length two_parts) ∙ fits.terms

  -- the terms from where form k of the ops, or of the outputs, begins
  op_terms_lem : (k : ℕ) → k < 2 * n.ops
      → part wires coefs (start_of 0 (op_forms c.ops) k) (size (get_or (op_forms c.ops) k no_form)) ≡ (get_or (op_forms c.ops) k no_form).terms
  op_terms_lem k h =
      let l = op_forms_length c.ops in
      let m = size (get_or (op_forms c.ops) k no_form) in
      part_is (start_of 0 (op_forms c.ops) k) m (omega (arith, start_inside 0 (op_forms c.ops) k (omega arith), both_count))
      ∙ ap (λ (ts : List Term). take m (drop (start_of 0 (op_forms c.ops) k) ts)) two_parts
      ∙ terms_at [] (op_forms c.ops) (terms_of_all (outputs_in c)) k 0 refl (omega arith)

  out_terms_lem : (k : ℕ) → k < W.output_count n
      → part wires coefs (start_of op_terms (outputs_in c) k) (size (get_or (outputs_in c) k no_form)) ≡ (get_or (outputs_in c) k no_form).terms
  out_terms_lem k h =
      let m = size (get_or (outputs_in c) k no_form) in
      part_is (start_of op_terms (outputs_in c) k) m (omega (arith, start_inside op_terms (outputs_in c) k (omega arith), both_count))
      ∙ ap (λ (ts : List Term). take m (drop (start_of op_terms (outputs_in c) k) ts))
      (two_parts ∙ ap (λ (ts : List Term). terms_of_all (op_forms c.ops) ++ ts) (sym (append-nil (terms_of_all (outputs_in c)))))
      ∙ terms_at (terms_of_all (op_forms c.ops)) (outputs_in c) [] k op_terms refl (omega arith)

  -- ---- a form as it stands: a form's bias, and the part of the pools that holds its terms

  pub record Stands (f : Form) (x : Affine) : Type 0 where
    pub bias : f.bias ≡ x.bias
    pub len : f.len ≡ size x
    pub terms : terms_of wires coefs f ≡ x.terms
    pub inside : f.first + f.len ≤ n.terms

  -- from the parts
  stands : (f : Form) (x : Affine) (first : ℕ) → f.bias ≡ x.bias → f.first ≡ first → f.len ≡ size x → part wires coefs first (size x) ≡ x.terms → first + size x ≤ n.terms → Stands f x
  stands f x first b s l t h = record { bias = b; len = l; terms = (λ j. part wires coefs (s j) (l j)) ∙ t; inside = omega arith }

  pub stands_means : (f : Form) (x : Affine) → Stands f x → meaning wires coefs f ≡ x
  stands_means f x s = λ j. record { bias = s.bias j; terms = s.terms j }

  -- op k's two forms, and output form k
  pub left_stands : (k : ℕ) → k < n.ops → Stands (W.left_form nums biases k) (get_or c.ops k no_op).left
  left_stands k h =
      let x = op_forms_at c.ops k (omega arith) in
      let a = op_nums_at 0 c.ops k (omega arith) in
      let e1 : W.ops_from + 5 * k + 1 ≡ W.ops_from + (5 * k + 1) = omega arith in
      let e2 : W.ops_from + 5 * k + 1 + 1 ≡ W.ops_from + (5 * k + 2) = omega arith in
      let m = start_inside 0 (op_forms c.ops) (2 * k) (omega (arith, op_forms_length c.ops)) in
      stands (W.left_form nums biases k) (get_or c.ops k no_op).left (start_of 0 (op_forms c.ops) (2 * k))
      (op_bias (2 * k) (omega arith) ∙ ap (λ (y : Affine). y.bias) x.0)
      (ap (λ (j : ℕ). get_or nums j 0) e1 ∙ op_part (5 * k + 1) (omega arith) ∙ a.left_first)
      (ap (λ (j : ℕ). get_or nums j 0) e2 ∙ op_part (5 * k + 2) (omega arith) ∙ a.left_len)
      (rw x.0 at (op_terms_lem (2 * k) (omega arith)))
      (omega (arith, rw x.0 at m, both_count))

  pub gate_stands : (k : ℕ) → k < n.ops → Stands (W.gate_form nums biases k) (get_or c.ops k no_op).gate
  gate_stands k h =
      let x = op_forms_at c.ops k (omega arith) in
      let a = op_nums_at 0 c.ops k (omega arith) in
      let e1 : W.ops_from + 5 * k + 3 ≡ W.ops_from + (5 * k + 3) = omega arith in
      let e2 : W.ops_from + 5 * k + 3 + 1 ≡ W.ops_from + (5 * k + 4) = omega arith in
      let e3 : W.op_biases_from + 2 * k + 1 ≡ W.op_biases_from + (2 * k + 1) = omega arith in
      let m = start_inside 0 (op_forms c.ops) (2 * k + 1) (omega (arith, op_forms_length c.ops)) in
      stands (W.gate_form nums biases k) (get_or c.ops k no_op).gate (start_of 0 (op_forms c.ops) (2 * k + 1))
      (ap (λ (j : ℕ). get_or biases j nan) e3 ∙ op_bias (2 * k + 1) (omega arith) ∙ ap (λ (y : Affine). y.bias) x.1)
      (ap (λ (j : ℕ). get_or nums j 0) e1 ∙ op_part (5 * k + 3) (omega arith) ∙ a.gate_first)
      (ap (λ (j : ℕ). get_or nums j 0) e2 ∙ op_part (5 * k + 4) (omega arith) ∙ a.gate_len)
      (rw x.1 at (op_terms_lem (2 * k + 1) (omega arith)))
      (omega (arith, rw x.1 at m, both_count))

  pub kind_stands : (k : ℕ) → k < n.ops → W.kind_at nums k ≡ W.reglu_kind
  kind_stands k h = op_part (5 * k) (omega arith) ∙ (op_nums_at 0 c.ops k (omega arith)).kind

  pub output_stands : (k : ℕ) → k < W.output_count n → Stands (W.output_form nums biases k) (get_or (outputs_in c) k no_form)
  output_stands k h =
      let a = range_at op_terms (outputs_in c) k (omega arith) in
      let e : W.outputs_from + 2 * k + 1 ≡ W.outputs_from + (2 * k + 1) = omega arith in
      stands (W.output_form nums biases k) (get_or (outputs_in c) k no_form) (start_of op_terms (outputs_in c) k)
      (out_bias k h)
      (range_part (2 * k) (omega arith) ∙ a.first)
      (ap (λ (j : ℕ). get_or nums j 0) e ∙ range_part (2 * k + 1) (omega arith) ∙ a.len)
      (out_terms_lem k h)
      (omega (arith, start_inside op_terms (outputs_in c) k (omega arith), both_count))

  -- ---- the lists

  abbrev blank : List ℕ
  blank = replicate ln 0

  abbrev lists1 : List ℕ
  lists1 = sets blank W.leaves_from p.leaves

  abbrev lists2 : List ℕ
  lists2 = sets lists1 W.cursors_from p.cursors

  pub leaves_stand : (k : ℕ) → k < length p.leaves → get_or nums (W.leaves_from + k) 0 ≡ get_or p.leaves k 0
  unfolding list_nums
  leaves_stand k h =
      list_part (W.leaves_from + k) (omega arith)
      ∙ sets_before p.report lists2 W.report_from (W.leaves_from + k) 0 (omega arith)
      ∙ sets_before p.cursors lists1 W.cursors_from (W.leaves_from + k) 0 (omega arith)
      ∙ sets_at p.leaves blank W.leaves_from k 0 (simp length-replicate (omega arith)) h

  pub cursors_stand : (k : ℕ) → k < length p.cursors → get_or nums (W.cursors_from + k) 0 ≡ get_or p.cursors k 0
  unfolding list_nums
  cursors_stand k h =
      list_part (W.cursors_from + k) (omega arith)
      ∙ sets_before p.report lists2 W.report_from (W.cursors_from + k) 0 (omega arith)
      ∙ sets_at p.cursors lists1 W.cursors_from k 0 (simp (length-sets, length-replicate) (omega arith)) h

  pub report_stands : (k : ℕ) → k < length p.report → get_or nums (W.report_from + k) 0 ≡ get_or p.report k 0
  unfolding list_nums
  report_stands k h =
      list_part (W.report_from + k) (omega arith)
      ∙ sets_at p.report lists2 W.report_from k 0 (simp (length-sets, length-replicate) (omega arith)) h

  -- ---- the whole

  pub op_is : (k : ℕ) → k < n.ops → W.op_at nums biases wires coefs k ≡ op_in (get_or c.ops k no_op)
  unfolding W.op_at W.op_of
  op_is k h =
      let o = get_or c.ops k no_op in
      rw (kind_stands k h)
      (λ j. W.reglu (stands_means (W.left_form nums biases k) o.left (left_stands k h) j) (stands_means (W.gate_form nums biases k) o.gate (gate_stands k h) j))

  pub output_is : (k : ℕ) → k < W.output_count n → W.output_at nums biases wires coefs k ≡ get_or (outputs_in c) k no_form
  unfolding W.output_at
  output_is k h = stands_means (W.output_form nums biases k) (get_or (outputs_in c) k no_form) (output_stands k h)

  -- THE LAW: the storage means the circuit
  pub encoded_is : W.circuit_of n nums biases wires coefs ≡ meant n p c
  encoded_is =
      circuit_is (meant n p c) nums biases wires coefs
      (record {
        leaf_count = fits.leaves;
        cursor_count = fits.cursors;
        report_count = fits.report;
        op_count_lem = length-map c.ops op_in ∙ fits.ops;
        output_count_lem = fits.outputs;
        leaves = leaves_stand;
        cursors = cursors_stand;
        report = report_stands;
        ops = λ k h. op_is k h ∙ sym (map_at op_in c.ops k W.neither no_op (omega arith));
        outputs = output_is;
      })
