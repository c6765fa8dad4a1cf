-- Of a table that stands for a circuit: the count is the circuit's, and what is emitted on slices that hold the plan's lists is its encoding.
use Prim.Native.Nat.{ℕ, ◌*◌, ◌≤◌}
use native.Mathlib.Nat.{zero-add}
use native.Mathlib.Omega.{arith}
use mathlib.Core.Path.{◌≡◌, refl, sym, ap, ◌∙◌, subst}
use mathlib.Core.List.{List, [], ◌∷◌, ◌++◌, append_assoc}
use lib.ListN.{length, replicate, length-append}
use lib.Seq.{sets}
use lib.Ieee.{Float}
use Rattle.exact.specs.Whole.{zero32}
use Rattle.wire.specs.declared.Term.{Term}
use Rattle.wire.specs.Terms.{Affine}
use Rattle.wire.specs.Storage.{outputs_from, op_biases_from}
use Rattle.wire.specs.Storage as S
use Rattle.arena_terms.specs.Steps.{wires_in, coefs_in}
use Rattle.arena_terms.proofs.Put.{put_then}
use Rattle.construct_floats.specs.Floats.{floats}
use Rattle.construct.specs.Builder.{Op}
use Rattle.construct.specs.Circuit.{Circuit, Output, op_forms, output_forms, forms_of, op_count, term_count}
use Rattle.compile.specs.Encode.{Lists, terms_of_all, ranges, op_nums, biases_of, list_nums, nums_of, biases_in, wires_of, coefs_of}
use Rattle.compile.specs.Encode as E
use Rattle.builder_table.specs.Work.{Mem}
use Rattle.lower_emit.specs.Emit.{op_lens, output_lens, all_lens, outputs_many, image, ops_in, outputs_in, emit_in, OpsInside, OutputsInside}
use Rattle.lower_emit_laws.specs.Emitted.{CircuitAt}
use Rattle.lower_emit_laws.proofs.Forms.{OpsFrom, FormsFrom, ops_from_lem, outputs_from_lem}
use Rattle.lower_emit_laws.proofs.Counted.{terms_append, ops_counted, forms_counted, ops_inside, outputs_inside}
use Rattle.lower_emit_laws.proofs.Written.{ops_written, forms_written}

-- the terms of forms and of others are theirs together
terms_all : (xs ys : List Affine) → terms_of_all xs ++ terms_of_all ys ≡ terms_of_all (xs ++ ys)
unfolding terms_of_all
terms_all [] ys = refl
terms_all (x ∷ xs) ys = append_assoc x.terms (terms_of_all xs) (terms_of_all ys) ∙ ap (λ (ts : List Term). x.terms ++ ts) (terms_all xs ys)

six_each : (xs : List (Output Affine)) → length (output_forms xs) ≡ 6 * length xs
unfolding output_forms
six_each [] = refl
six_each (x ∷ xs) = omega (arith, six_each xs)

-- how many there are of each sort
pub record Many (c : Circuit Affine) (k n l : ℕ) : Type 0 where
  pub ops : k ≡ op_count c
  pub nodes : n ≡ length c.outputs
  pub cursors : l ≡ length c.cursors

module _ (m : Mem) (used : ℕ) (newest : List (Op Affine)) (c : Circuit Affine) (h : CircuitAt m used newest c) (ops nodes cursors : ℕ) (n : Many c ops nodes cursors) where
  in_order : OpsFrom m used 0 c.ops
  in_order = subst (OpsFrom m used 0) (sym h.order) (ops_from_lem m used newest h.ops)

  put_out : FormsFrom m used nodes 0 (E.outputs_in c)
  put_out = outputs_from_lem m used nodes c.outputs c.cursors 0 0 (omega (arith, n.nodes)) (omega arith) h.outputs h.cursors

  outputs_many_lem : outputs_many nodes cursors ≡ length (E.outputs_in c)
  outputs_many_lem = omega (arith, n.nodes, n.cursors, six_each c.outputs, length-append (output_forms c.outputs) c.cursors)

  pub counted : all_lens m.nums ops nodes cursors ≡ term_count floats c
  counted =
      let a : op_lens m.nums 0 ops ≡ op_lens m.nums 0 (length c.ops) = ap (op_lens m.nums 0) n.ops in
      let b : output_lens m.nums nodes 0 (outputs_many nodes cursors) ≡ output_lens m.nums nodes 0 (length (E.outputs_in c)) = ap (output_lens m.nums nodes 0) outputs_many_lem in
      omega (arith, a, b, ops_counted m used c.ops 0 in_order, forms_counted m used nodes (E.outputs_in c) 0 put_out, terms_append (op_forms c.ops) (E.outputs_in c))

  module _ (w : used ≤ length m.wires) (l : used ≤ length m.coefs) where
    pub ops_lie : OpsInside m ops
    ops_lie = subst (OpsInside m) (sym n.ops) (ops_inside m used w l c.ops in_order)

    pub outputs_lie : OutputsInside m nodes (outputs_many nodes cursors)
    outputs_lie = subst (OutputsInside m nodes) (sym outputs_many_lem) (outputs_inside m used w l nodes (E.outputs_in c) put_out)

  -- on any slices: all else stays
  pub emitted : (nums : List ℕ) (biases : List Float) (wires : List ℕ) (coefs : List Float)
      → emit_in (image nums biases wires coefs 0) m ops nodes cursors
      ≡ image
      (sets (sets nums S.ops_from (op_nums 0 c.ops)) outputs_from (ranges (length (terms_of_all (op_forms c.ops))) (E.outputs_in c)))
      (sets (sets biases op_biases_from (biases_of (op_forms c.ops))) 0 (biases_of (E.outputs_in c)))
      (sets wires 0 (wires_in (terms_of_all (forms_of c))))
      (sets coefs 0 (coefs_in (terms_of_all (forms_of c))))
      (length (terms_of_all (forms_of c)))
  unfolding emit_in
  emitted nums biases wires coefs =
      let e = image nums biases wires coefs 0 in
      let a = ops_in e m 0 (length c.ops) in
      let o = ops_written m used c.ops e 0 in_order in
      let f = forms_written m used nodes (E.outputs_in c) a 0 put_out in
      let p = put_then o.terms f.terms in
      let t = terms_all (op_forms c.ops) (E.outputs_in c) in
      let x = o.terms.used ∙ zero-add (length (terms_of_all (op_forms c.ops))) in
      (λ i. outputs_in (ops_in e m 0 (n.ops i)) m nodes 0 (outputs_many_lem i))
      ∙ (λ i. image
      ((f.nums ∙ (λ j. sets (o.nums j) outputs_from (ranges (x j) (E.outputs_in c)))) i)
      ((f.biases ∙ (λ j. sets (o.biases j) 0 (biases_of (E.outputs_in c)))) i)
      ((p.wires ∙ (λ j. sets wires 0 (wires_in (t j)))) i)
      ((p.coefs ∙ (λ j. sets coefs 0 (coefs_in (t j)))) i)
      ((p.used ∙ zero-add _ ∙ (λ j. length (t j))) i))

  -- on slices that are zero but for the plan's lists: the encoding
  pub encoded : (ln lb lw lc : ℕ) (p : Lists)
      → emit_in (image (list_nums ln p) (replicate lb zero32) (replicate lw 0) (replicate lc zero32) 0) m ops nodes cursors
      ≡ image (nums_of ln p c) (biases_in lb c) (wires_of lw c) (coefs_of lc c) (length (terms_of_all (forms_of c)))
  unfolding nums_of biases_in wires_of coefs_of
  encoded ln lb lw lc p = emitted (list_nums ln p) (replicate lb zero32) (replicate lw 0) (replicate lc zero32)
