-- The lists and forms of a tree's circuit are as many as its counts say, and fit into the layout.
use mathlib.Core.Path.{◌≡◌, refl, sym, ◌∙◌, ap}
use mathlib.Core.List.{List, [], ◌∷◌}
use Prim.Native.Nat.{ℕ, suc, ◌+◌, ◌*◌}
use native.Mathlib.Omega.{arith}
use lib.ListN.{length, length-append, length-map}
use Rattle.tree.specs.Forest.{Forest, preorder, counts, size}
use Rattle.tree.specs.Bytes.{Within}
use Rattle.wire.specs.Terms.{Affine}
use Rattle.lists.specs.Every.{All2, both, none}
use Rattle.walk.specs.Walk.{fates_of, walk, answer_of, cells_in, status}
use Rattle.walk.proofs.Laws.{lengths}
use Rattle.construct.specs.Circuit.{Circuit, Output, flats, forms_of, output_forms, terms_in}
use Rattle.construct_floats.specs.Floats.{floats}
use Rattle.construct_means.specs.Means.{circuit_of}
use Rattle.construct_means.proofs.Circuit.{circuit_means}
use Rattle.construct_means.proofs.Sizes.{sizes}
use Rattle.construct_instances.proofs.Respects.{of_circuit, of_output}
use Rattle.construct_faithful.proofs.Float.{float}
use Rattle.construct_faithful.proofs.Tree.{same_floats}
use Rattle.compile.specs.Encode.{outputs_in, terms_of_all}
use Rattle.compile.specs.Compile.{Lent, lists_of, counts_of}
use Rattle.compile_laws.proofs.Encoded.{Fits}
use Rattle.compile_laws.proofs.Compiles.{tree_circuit, Slots}
use Rattle.tree.proofs.Lengths.{preorder_length}
use Rattle.plan_laws.proofs.Nodes.{shaped, leaves_count, cursors_count, report_count, leaves_few, cursors_few}
use Rattle.compile_laws.proofs.Cells.{cells_for, cells_loaded}

pub all2_length : {A B : Type 0} {R : A → B → Type 0} {xs : List A} {ys : List B} → All2 R xs ys → length xs ≡ length ys
all2_length none = refl
all2_length (both h hs) = ap suc (all2_length hs)

pub output_forms_length : {F : Type 0} (xs : List (Output F)) → length (output_forms xs) ≡ 6 * length xs
unfolding output_forms
output_forms_length [] = refl
output_forms_length (x ∷ xs) = omega (arith, output_forms_length xs)

terms_length : (fs : List Affine) → length (terms_of_all fs) ≡ terms_in floats fs
unfolding terms_of_all terms_in
terms_length [] = refl
terms_length (x ∷ xs) = length-append x.terms (terms_of_all xs) ∙ ap (λ (n : ℕ). length x.terms + n) (terms_length xs)

-- as many fates as nodes
pub fates_length : (f : Forest ℕ) (flags cursors row : List ℕ) → length (fates_of f flags cursors row) ≡ size f
unfolding walk answer_of
fates_length f flags cursors row = sym (length-map (fates_of f flags cursors row) status) ∙ (lengths f flags cursors row).statuses

module _ (f : Forest ℕ) (w : Within f) where
  -- the circuit with f32 coefficients, of the one with whole coefficients
  pub in_floats : tree_circuit f ≡ of_circuit float (circuit_of f)
  in_floats = same_floats (flats (preorder f) (counts f)) (omega (arith, (sizes f).nodes))

  pub outputs_count : length (circuit_of f).outputs ≡ size f
  outputs_count =
      all2_length (circuit_means f (shaped f w.lowered) w.one [] [] [] (cells_for f [] [] []) (cells_loaded f [] [] [])).outputs ∙ fates_length f [] [] []

  pub resumes_count : length (circuit_of f).cursors ≡ cells_in f
  unfolding walk answer_of
  resumes_count =
      all2_length (circuit_means f (shaped f w.lowered) w.one [] [] [] (cells_for f [] [] []) (cells_loaded f [] [] [])).resumes ∙ (lengths f [] [] []).cursors

  forms_count : length (outputs_in (tree_circuit f)) ≡ 6 * size f + cells_in f
  forms_count =
      let c = of_circuit float (circuit_of f) in
      ap (λ (d : Circuit Affine). length (outputs_in d)) in_floats
      ∙ length-append (output_forms c.outputs) c.cursors
      ∙ simp length-map (omega (arith, output_forms_length c.outputs, length-map (circuit_of f).outputs (of_output float), outputs_count, resumes_count))

  pub fits : (l : Lent) → Slots l (tree_circuit f)
      → Fits (counts_of (preorder f) (tree_circuit f)) (lists_of (preorder f) (counts f)) (tree_circuit f) l.nums l.biases l.wires l.coefs
  fits l s =
      let n = preorder_length f in
      let k = cursors_count f w.lowered w.few in
      let m = leaves_count f w.lowered w.few in
      record {
        leaves = refl;
        cursors = refl;
        report = report_count f w.lowered w.few ∙ sym n;
        ops = refl;
        outputs = forms_count ∙ omega arith;
        terms = terms_length (forms_of (tree_circuit f));
        few_leaves = omega (arith, leaves_few f w.lowered w.few);
        few_cursors = omega (arith, cursors_few f w.lowered w.few);
        few_nodes = omega arith;
        in_nums = s.in_nums;
        in_biases = s.in_biases;
        in_wires = s.in_wires;
        in_coefs = s.in_coefs;
      }
