-- Which trees compile: accepted bytes are those of one, and where enough slots are lent, every tree within the limits does.
use mathlib.Core.Path.{◌≡◌, refl, ◌∙◌, ap, subst}
use mathlib.Core.Bool.{true, cond}
use mathlib.Core.List.{List, [], ◌∷◌, map}
use Prim.Native.Nat.{ℕ, ◌+◌, ◌≤◌}
use native.Mathlib.Nat.{mul-le-mul}
use native.Mathlib.Omega.{arith}
use borrow.Author.Tests.{le-ltb}
use lib.ListN.{length, length-map}
use Rattle.tree.specs.Forest.{Forest, preorder, counts}
use Rattle.tree.specs.Bytes.{Bytes, Within, bytes_of}
use Rattle.tree.specs.Tree.{Parsed, accepted, refused, tree_of}
use Rattle.tree_record.specs.declared.refusal.Cause.TheVariants.{NoOpRoom, NoTermRoom, ShortRoom}
use Rattle.tree_laws.proofs.Exact.{accepts, accepted_tree}
use Rattle.wire.specs.declared.Counts.{Counts}
use Rattle.wire.specs.Terms.{Affine}
use Rattle.wire.specs.Storage.{op_slots, term_slots}
use Rattle.construct.specs.Circuit.{Circuit, op_count, term_count, terms_in, forms_of}
use Rattle.construct.specs.Pairs.{Form, pairs}
use Rattle.construct_floats.specs.Floats.{floats}
use Rattle.construct_faithful.proofs.Float.{float, float_term}
use Rattle.construct_instances.proofs.Respects.{of_op}
use Rattle.construct_means.specs.Means.{circuit_of}
use Rattle.lower_room.proofs.CountCircuit.{ops_slots, terms_most}
use Rattle.std.specs.Prelude.{Ok}
use Rattle.compile.specs.Compile.{Lent, roomy, refusal, counts_of, stored, compile_tree, compile_of}
use Rattle.compile_laws.proofs.Compiles.{tree_circuit}
use Rattle.compile_laws.proofs.Shape.{in_floats}
use Rattle.compile_laws.proofs.Images.{form_images}
use Rattle.compile_laws.proofs.Passes.{some_node_lem}
use Rattle.demands.proofs.Left.{Compiles, clash, passed}

-- whatever bytes compile, they are a tree's, of which the demands speak
pub compiled_tree : (l : Lent) (bytes : List ℕ) (n : Counts) → Bytes bytes → (compile_of l bytes).answer ≡ Ok n
    → (f : Forest ℕ) × (bytes ≡ bytes_of f) × Compiles l f n
unfolding compile_of compile_tree
compiled_tree l bytes n b e = go (tree_of bytes) refl (passed l ShortRoom n (roomy l) (compile_tree l (tree_of bytes)) e).1
  where
    go : (p : Parsed) → tree_of bytes ≡ p → (compile_tree l p).answer ≡ Ok n → (f : Forest ℕ) × (bytes ≡ bytes_of f) × Compiles l f n
    go (refused r) q a = absurd (clash l r.cause r.place n a)
    go (accepted ks cs) q a =
        let t = accepted_tree bytes ks cs b q in
        let same = subst (λ (bs : List ℕ). (compile_of l bs).answer ≡ Ok n) t.bytes_are e in
        (t.tree, t.bytes_are, record { within = t.within; accepted = same })

-- ---- room for every tree

same_terms : (gs : List Form) → terms_in floats (map float gs) ≡ terms_in pairs gs
unfolding terms_in float
same_terms [] = refl
same_terms (g ∷ gs) = λ i. length-map g.terms float_term i + same_terms gs i

module _ (f : Forest ℕ) (w : Within f) where
  op_number : op_count (tree_circuit f) ≤ 2163
  op_number =
      let e : op_count (tree_circuit f) ≡ op_count (circuit_of f)
      = ap (λ (c : Circuit Affine). length c.ops) (in_floats f w) ∙ length-map (circuit_of f).ops (of_op float) in
      omega (arith, ops_slots f (omega (arith, some_node_lem f w.one)) w.few)

  term_number : term_count floats (tree_circuit f) ≤ 507904
  term_number =
      let e : term_count floats (tree_circuit f) ≡ term_count pairs (circuit_of f)
      = ap (λ (c : Circuit Affine). term_count floats c) (in_floats f w)
      ∙ ap (terms_in floats) (form_images float (circuit_of f)) ∙ same_terms (forms_of (circuit_of f)) in
      omega (arith, terms_most f, mul-le-mul w.few w.few)

  -- with work room and fixed parts as docs/ has them, 2,163 op slots and 507,904 term slots
  pub compiles_all : (l : Lent) → roomy l ≡ true → 2163 ≤ op_slots l.nums l.biases → 507904 ≤ term_slots l.wires l.coefs
      → Compiles l f (counts_of (preorder f) (tree_circuit f))
  unfolding compile_of compile_tree stored
  compiles_all l r o t =
      let a = le-ltb (op_slots l.nums l.biases) (op_count (tree_circuit f)) (omega (arith, op_number)) in
      let b = le-ltb (term_slots l.wires l.coefs) (term_count floats (tree_circuit f)) (omega (arith, term_number)) in
      record {
        within = w;
        accepted =
            (λ i. (cond (r i) (compile_tree l (accepts f w i)) (refusal l ShortRoom 0)).answer)
            ∙ (λ i. (cond (a i) (refusal l NoOpRoom 0) (cond (b i) (refusal l NoTermRoom 0) (stored l (preorder f) (counts f)))).answer);
      }
