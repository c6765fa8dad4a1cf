-- The circuit in floats has as many ops and terms as that with whole coefficients, so that the bounds on these hold of it.
use Prim.Native.Nat.{ℕ, ◌+◌, ◌*◌, ◌≤◌}
use native.Mathlib.Nat.{mul-le-mul_left}
use native.Mathlib.Omega.{arith}
use mathlib.Core.List.{List, [], ◌++◌, ◌∷◌, map, map-append}
use mathlib.Core.Path.{◌∙◌, ◌≡◌, ap, refl, sym}
use lib.ListN.{length, length-map}
use Rattle.construct.specs.Circuit.{Circuit, Output, construct, flats, forms_of, op_count, op_forms, output_forms, term_count, terms_in}
use Rattle.construct.specs.Forms.{Forms}
use Rattle.construct.specs.Lower.{Flat}
use Rattle.construct.specs.Pairs.{Form, Op, pairs}
use Rattle.lower_room.proofs.CountCircuit.{ops_slots, terms_most}
use Rattle.construct_faithful.proofs.Same.{faithful}
use Rattle.construct_faithful.proofs.Float.{float}
use Rattle.construct_floats.specs.Floats.{floats}
use Rattle.construct_instances.proofs.Circuit.{same_circuit}
use Rattle.construct_instances.proofs.Respects.{Respects, of_circuit, of_op, of_output}
use Rattle.construct_means.proofs.Sizes.{sizes}
use Rattle.tree.specs.Forest.{Forest, counts, preorder, size}

module _ {F : Type 0} (A : Forms F) (of : Form → F) (same : Respects A of) where
  ops_are : (os : List Op) → op_forms (map (of_op of) os) ≡ map of (op_forms os)
  unfolding op_forms
  ops_are [] = refl
  ops_are (o ∷ os) = ap (λ (l : List F). of o.left ∷ of o.gate ∷ l) (ops_are os)

  outputs_are : (xs : List (Output Form)) → output_forms (map (of_output of) xs) ≡ map of (output_forms xs)
  unfolding output_forms
  outputs_are [] = refl
  outputs_are (x ∷ xs) = ap (λ (l : List F). of x.status.success ∷ of x.status.failure ∷ of x.status.running ∷ of x.reached ∷ of x.halted ∷ of x.running ∷ l) (outputs_are xs)

  forms_are : (c : Circuit Form) → forms_of (of_circuit of c) ≡ map of (forms_of c)
  forms_are c =
      (λ i. ops_are c.ops i ++ (outputs_are c.outputs i ++ map of c.cursors))
      ∙ ap (λ (l : List F). map of (op_forms c.ops) ++ l) (sym (map-append of (output_forms c.outputs) c.cursors))
      ∙ sym (map-append of (op_forms c.ops) (output_forms c.outputs ++ c.cursors))

  terms_are : (fs : List Form) → terms_in A (map of fs) ≡ terms_in pairs fs
  unfolding terms_in
  terms_are [] = refl
  terms_are (f ∷ fs) = λ i. same.terms_same f i + terms_are fs i

  pub term_count_lem : (ns : List Flat) → length ns ≤ 128 → term_count A (construct A ns) ≡ term_count pairs (construct pairs ns)
  term_count_lem ns few = ap (λ (c : Circuit F). term_count A c) (same_circuit A of same ns few) ∙ ap (terms_in A) (forms_are (construct pairs ns)) ∙ terms_are (forms_of (construct pairs ns))

  pub op_count_lem : (ns : List Flat) → length ns ≤ 128 → op_count (construct A ns) ≡ op_count (construct pairs ns)
  op_count_lem ns few = ap (λ (c : Circuit F). op_count c) (same_circuit A of same ns few) ∙ length-map (construct pairs ns).ops (of_op of)

-- THE LAWS, for the circuit in floats of a tree
module _ (f : Forest ℕ) (few : size f ≤ 128) where
  abbrev ns : List Flat
  ns = flats (preorder f) (counts f)

  short : length ns ≤ 128
  short = omega (arith, (sizes f).nodes)

  pub float_ops : 1 ≤ size f → op_count (construct floats ns) ≤ 2163
  float_ops some = omega (arith, op_count_lem floats float faithful ns short, ops_slots f some few)

  pub float_terms_lem : term_count floats (construct floats ns) ≤ 31 * (size f * size f)
  float_terms_lem = omega (arith, term_count_lem floats float faithful ns short, terms_most f)

  pub float_pool : term_count floats (construct floats ns) ≤ 507904
  float_pool = omega (arith, float_terms_lem, mul-le-mul_left (size f) few)
