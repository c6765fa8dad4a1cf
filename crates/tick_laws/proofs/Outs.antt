-- The values of the output forms are the walk's, as floats; and every running sum of every form, and every op's value, is that of whole numbers.
use mathlib.Core.Path.{◌≡◌, refl, sym, ◌∙◌, ap}
use mathlib.Core.List.{List, [], ◌∷◌, ◌++◌, map}
use Prim.Native.Nat.{ℕ, zero, suc, ◌+◌, ◌≤◌, ◌<◌}
use native.Mathlib.Omega.{arith}
use lib.ListN.{length, get_or, take, length-map}
use lib.Ieee.{Float, nan, binary32}
use Rattle.exact.specs.Whole.{diff}
use Rattle.exact.proofs.Whole.{diff_same}
use Rattle.tree.specs.Forest.{Forest, preorder, counts}
use Rattle.tree.specs.Bytes as limits
use Rattle.wire.specs.declared.Term.{Term as FloatTerm}
use Rattle.wire.specs.declared.Counts.{Counts}
use Rattle.wire.specs.Terms.{Affine, added, value_in}
use Rattle.wire.specs.Storage as W
use Rattle.lists.proofs.Entries.{each_is}
use Rattle.lists.specs.Every.{All, All2, both, none}
use Rattle.lists.proofs.Every.{all2_append}
use Rattle.walk.specs.Walk.{Fate, fates_of, slots_in}
use Rattle.construct.specs.Circuit.{Circuit, Output, forms_of, op_forms, output_forms}
use Rattle.construct.specs.Pairs.{Form}
use Rattle.construct.specs.Scope.{Reads, InOrder}
use Rattle.construct.specs.Value as nat
use Rattle.construct_sizes.specs.Exact.{Exact, OpExact, Sums, Products, Small}
use Rattle.construct_sizes.proofs.Tree.{tree_exact}
use Rattle.construct_means.specs.Means.{OutputIs, circuit_of}
use Rattle.construct_means.proofs.Circuit.{circuit_means}
use Rattle.construct_floats.specs.Floats.{number}
use Rattle.construct_instances.proofs.Respects.{of_op}
use Rattle.construct_faithful.proofs.Float.{float, float_terms}
use Rattle.construct_faithful.proofs.Table.{float_table}
use Rattle.construct_faithful.proofs.Values.{numbers, form_value}
use Rattle.construct_faithful.proofs.Tree.{tree_table}
use Rattle.compile.specs.Compile.{Lent, lists_of}
use Rattle.tick_check.specs.Check.{Stored}
use Rattle.tick_lane.specs.Evaluate as E
use Rattle.tick_lane.proofs.Cells.{cells_length}
use Rattle.compile_laws.proofs.Encoded.{op_in}
use Rattle.lists.proofs.Sets.{map_at}
use Rattle.compile_laws.proofs.Back as back
use Rattle.compile_laws.proofs.Compiles.{tree_circuit, stored_of, Slots}
use Rattle.tree.proofs.Lengths.{preorder_length}
use Rattle.plan_laws.proofs.Nodes.{shaped, leaves_count, cursors_count}
use Rattle.compile_laws.proofs.Cells.{Low, cells_for, cells_loaded, cells_low}
use Rattle.compile_laws.proofs.Shape.{all2_length, in_floats}
use Rattle.compile_laws.proofs.Images.{all_get_d, all_second}
use Rattle.compile_laws.proofs.Passes.{z_form, z_op, F, ops_same, op_image, outs_length, out_image, scoped, modest}
use Rattle.tick_laws.proofs.Values.{bits_of, values_of}
use Rattle.tick_laws.proofs.Fills.{cells_numbers}
use Rattle.tick_laws.proofs.Table.{value_take, table_floats, table_length, table_low, op_cell}
use Rattle.tick_laws.proofs.Cut.{cut, reads_cut, small_cut, products_cut, sums_cut, cut_terms}

-- ---- lists of forms and of their values

outputs_values : (ρ : ℕ → ℕ) {xs : List (Output Form)} {ys : List Fate} → All2 (OutputIs ρ) xs ys → All2 (nat.Val ρ) (output_forms xs) (bits_of ys)
unfolding output_forms bits_of
outputs_values ρ none = none
outputs_values ρ (both h hs) =
    both h.status.is_s (both h.status.is_f (both h.status.is_r (both h.reached (both h.halted (both h.running (outputs_values ρ hs))))))

all2_at : {A B : Type 0} {R : A → B → Type 0} {xs : List A} {ys : List B} (k : ℕ) (a : A) (b : B)
    → All2 R xs ys → k < length xs → R (get_or xs k a) (get_or ys k b)
all2_at k a b none h = absurd (omega arith)
all2_at zero a b (both r rs) h = r
all2_at (suc k) a b (both r rs) h = all2_at k a b rs (omega arith)

low_at_lem : (xs : List ℕ) → Low xs → (k : ℕ) → nat.cell xs k ≤ 16777216
low_at_lem [] h k = omega arith
low_at_lem (x ∷ xs) h zero = h.0
low_at_lem (x ∷ xs) h (suc k) = low_at_lem xs h.1 k

-- ---- a tick on what compile leaves

module _ (f : Forest ℕ) (w : limits.Within f) (l : Lent) (slots : Slots l (tree_circuit f)) (flags cursors row : List ℕ) (values : List Float)
    (given : (s : ℕ) → s < slots_in f → get_or row s 0 ≤ 2) (room : (stored_of l f).counts.cells + (stored_of l f).counts.ops ≤ length values) where
  abbrev d : Circuit Form
  d = circuit_of f

  abbrev s : Stored
  s = stored_of l f

  abbrev n : Counts
  n = s.counts

  abbrev ins : List ℕ
  ins = cells_for f flags cursors row

  -- the value table that the tick computes, and the tree's
  abbrev table : List Float
  table = E.table_of s row flags cursors values

  abbrev pub whole : List ℕ
  whole = nat.table_of ins d.ops

  abbrev fates : List Fate
  fates = fates_of f flags cursors row

  ins_length : length ins ≡ n.cells
  ins_length =
      (cells_loaded f flags cursors row).long
      ∙ omega (arith, preorder_length f, leaves_count f w.lowered w.few, cursors_count f w.lowered w.few)

  pub table_is : take (n.cells + n.ops) table ≡ numbers whole
  unfolding E.table_of
  table_is =
      let p = lists_of (preorder f) (counts f) in
      let cells = E.cells_of n row flags cursors values in
      let long : length cells ≡ length values = cells_length n row flags cursors values in
      let m = leaves_count f w.lowered w.few in
      let same = ops_same f w l slots in
      table_floats (W.op_at s.nums s.biases s.wires s.coefs) n.cells cells d.ops
      (λ k h. let b : k < n.ops = omega arith in
      back.op_is n p (tree_circuit f) l.nums l.biases l.wires l.coefs (F f w l slots) k b ∙ ap op_in (op_image f w l slots k b))
      (scoped f w l slots).ops (omega arith) n.ops (sym same)
      ∙ ap (λ (t : List Float). float_table t (map (of_op float) d.ops))
      (cells_numbers f n flags cursors row values (preorder_length f) (cursors_count f w.lowered w.few) m (omega arith) (λ k h. given k (omega arith)))
      ∙ sym (ap (λ (c : Circuit Affine). float_table (numbers ins) c.ops) (in_floats f w))
      ∙ tree_table f (shaped f w.lowered) w.one w.few flags cursors row ins (cells_loaded f flags cursors row) (cells_low f flags cursors row)

  exact : Exact (nat.cell whole) d
  exact = tree_exact f (shaped f w.lowered) w.one w.few flags cursors row ins (cells_loaded f flags cursors row)

  pub whole_length : length whole ≡ n.cells + n.ops
  whole_length = table_length ins d.ops ∙ omega (arith, ins_length, ops_same f w l slots)

  whole_low : Low whole
  whole_low =
      let order : InOrder (length ins) d.ops = rw ins_length (scoped f w l slots).ops in
      table_low ins d.ops order (cells_low f flags cursors row) exact.ops

  -- no value is above 2^24
  pub whole_small : (k : ℕ) → nat.cell whole k ≤ 16777216
  whole_small k = low_at_lem whole whole_low k

  -- what is known of every form
  pub record Fine (g : Form) : Type 0 where
    pub reads : Reads (n.cells + n.ops) g
    pub small : Small 65536 g
    pub sums : Sums (nat.cell whole) g
    pub products : Products (nat.cell whole) 16777216 g.terms

  all_fine : (gs : List Form) → All (Reads (n.cells + n.ops)) gs → All (Small 65536) gs → All (Sums (nat.cell whole)) gs
      → All (λ (g : Form). Products (nat.cell whole) 16777216 g.terms) gs → All Fine gs
  all_fine [] r m b p = tt
  all_fine (g ∷ gs) r m b p = (record { reads = r.0; small = m.0; sums = b.0; products = p.0 }, all_fine gs r.1 m.1 b.1 p.1)

  pub forms_fine : All Fine (forms_of d)
  forms_fine =
      let e : n.cells + length d.ops ≡ n.cells + n.ops = omega (arith, ops_same f w l slots) in
      let reads : All (Reads (n.cells + n.ops)) (forms_of d) = rw e at (scoped f w l slots).forms in
      all_fine (forms_of d) reads (modest f w l slots) exact.sums exact.products

  -- a form's value in the tick's table
  pub value_of : (g : Form) → Fine g → value_in table (float g) ≡ diff binary32 (nat.P (nat.cell whole) g) (nat.N (nat.cell whole) g)
  value_of g h =
      let reads : Reads (length whole) g = rw whole_length h.reads in
      value_take (n.cells + n.ops) table g h.reads
      ∙ ap (λ (t : List Float). value_in t (float g)) table_is
      ∙ form_value whole (nat.cell whole) (λ k l. refl) (λ k l. whole_small k) g reads h.small h.sums h.products

  values_are : All2 (nat.Val (nat.cell whole)) (output_forms d.outputs ++ d.cursors) (values_of fates)
  values_are =
      let means = circuit_means f (shaped f w.lowered) w.one flags cursors row ins (cells_loaded f flags cursors row) in
      all2_append (outputs_values (nat.cell whole) means.outputs) means.resumes

  -- THE LAW: what the output forms are worth
  pub outs_are : E.outs_of s table ≡ numbers (values_of fates)
  unfolding E.outs_of E.out_value
  outs_are =
      let gs = output_forms d.outputs ++ d.cursors in
      let p = lists_of (preorder f) (counts f) in
      let long : length gs ≡ W.output_count n = outs_length f w l slots in
      let same : length gs ≡ length (values_of fates) = all2_length values_are in
      each_is (E.out_value s table) (W.output_count n) (numbers (values_of fates)) nan (length-map (values_of fates) (λ (v : ℕ). number v) ∙ sym same ∙ long)
      (λ k h.
      let b : k < length gs = omega arith in
      let g = get_or gs k z_form in
      let v = get_or (values_of fates) k 0 in
      let form = back.output_is n p (tree_circuit f) l.nums l.biases l.wires l.coefs (F f w l slots) k h ∙ out_image f w l slots k h in
      ap (value_in table) form
      ∙ value_of g (all_get_d Fine gs k z_form (all_second Fine (op_forms d.ops) gs forms_fine) b)
      ∙ diff_same binary32 (nat.P (nat.cell whole) g) (nat.N (nat.cell whole) g) v 0 (omega (arith, all2_at k z_form 0 values_are b))
      ∙ sym (map_at (λ (v : ℕ). number v) (values_of fates) k nan 0 (omega arith)))

  -- every form up to its term i, in whole numbers
  pub runs_to : (g : Form) → Fine g → (i : ℕ) → added table (take i (float_terms g.terms)) (diff binary32 g.bp g.bn)
      ≡ diff binary32 (g.bp + nat.sum_p (nat.cell whole) (take i g.terms)) (g.bn + nat.sum_n (nat.cell whole) (take i g.terms))
  unfolding float nat.P nat.N
  runs_to g h i =
      let part : Fine (cut i g)
      = record {
        reads = reads_cut i (n.cells + n.ops) g h.reads;
        small = small_cut i 65536 g h.small;
        sums = sums_cut (nat.cell whole) i g h.sums;
        products = products_cut (nat.cell whole) i 16777216 g.terms h.products;
      } in
      ap (λ (ts : List FloatTerm). added table ts (diff binary32 g.bp g.bn)) (cut_terms i g.terms) ∙ value_of (cut i g) part

  -- an op's value, in its place
  pub op_worth : (k : ℕ) → k < n.ops → nat.cell whole (n.cells + k) ≡ nat.op_val (nat.cell whole) (get_or d.ops k z_op)
  op_worth k h =
      let order : InOrder (length ins) d.ops = rw ins_length (scoped f w l slots).ops in
      ap (λ (c : ℕ). nat.cell whole (c + k)) (sym ins_length) ∙ op_cell ins d.ops order k (omega (arith, ops_same f w l slots))

  pub ops_exact : All (OpExact (nat.cell whole)) d.ops
  ops_exact = exact.ops
