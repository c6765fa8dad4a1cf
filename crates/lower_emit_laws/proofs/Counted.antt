-- What is counted is the circuit's terms; and its forms lie in the pools.
use Prim.Native.Nat.{ℕ, zero, suc, ◌+◌, ◌*◌, ◌≤◌, ◌<◌}
use native.Mathlib.Omega.{arith}
use mathlib.Core.Path.{◌≡◌, refl, subst}
use mathlib.Core.List.{List, [], ◌∷◌, ◌++◌}
use lib.ListN.{length}
use Rattle.wire.specs.declared.Form.{Form}
use Rattle.wire.specs.Terms.{Affine}
use Rattle.arena_laws.specs.Holds.{Is}
use Rattle.arena_laws.proofs.Holds.{is_length}
use Rattle.construct_floats.specs.Floats.{floats}
use Rattle.construct.specs.Builder.{Op}
use Rattle.construct.specs.Circuit.{op_forms, terms_in}
use Rattle.builder_table.specs.Slots.{ops_from}
use Rattle.builder_table.specs.Work.{Mem, loaded}
use Rattle.lower_emit.specs.Emit.{output_slot, op_lens, output_lens, Inside, OpsInside, OutputsInside}
use Rattle.lower_emit_laws.proofs.Forms.{OpsFrom, FormsFrom}

pub terms_append : (xs ys : List Affine) → terms_in floats (xs ++ ys) ≡ terms_in floats xs + terms_in floats ys
unfolding terms_in
terms_append [] ys = omega arith
terms_append (x ∷ xs) ys = omega (arith, terms_append xs ys)

module _ (m : Mem) (used : ℕ) where
  pub ops_counted : (os : List (Op Affine)) (k : ℕ) → OpsFrom m used k os → op_lens m.nums k (length os) ≡ terms_in floats (op_forms os)
  unfolding op_lens terms_in op_forms
  ops_counted [] k h = refl
  ops_counted (o ∷ os) k h = omega (arith, is_length h.0, is_length h.1, ops_counted os (k + 1) h.2)

  pub forms_counted : (nodes : ℕ) (xs : List Affine) (k : ℕ) → FormsFrom m used nodes k xs → output_lens m.nums nodes k (length xs) ≡ terms_in floats xs
  unfolding output_lens terms_in
  forms_counted nodes [] k h = refl
  forms_counted nodes (x ∷ xs) k h = omega (arith, is_length h.0, forms_counted nodes xs (k + 1) h.1)

  -- ---- below what is used, and so in the pools

  module _ (w : used ≤ length m.wires) (c : used ≤ length m.coefs) where
    -- both forms of op n, and output form n
    abbrev Both : ℕ → Type 0
    Both n = Inside m.wires m.coefs (loaded m (ops_from + 2 * n)) × Inside m.wires m.coefs (loaded m (ops_from + 2 * n + 1))

    abbrev One : ℕ → ℕ → Type 0
    One nodes n = Inside m.wires m.coefs (loaded m (output_slot nodes n))

    lies : {f : Form} {x : Affine} → Is m.wires m.coefs used f x → Inside m.wires m.coefs f
    lies h = (omega (arith, h.below), omega (arith, h.below))

    ops_lie : (os : List (Op Affine)) (k j : ℕ) → OpsFrom m used k os → j < length os → Both (k + j)
    ops_lie [] k j h l = absurd (omega arith)
    ops_lie (o ∷ os) k zero h l =
        let q : k ≡ k + 0 = omega arith in
        subst Both q (lies h.0, lies h.1)
    ops_lie (o ∷ os) k (suc j) h l =
        let q : k + 1 + j ≡ k + suc j = omega arith in
        subst Both q (ops_lie os (k + 1) j h.2 (omega arith))

    pub ops_inside : (os : List (Op Affine)) → OpsFrom m used 0 os → OpsInside m (length os)
    ops_inside os h = record { lies = λ k l. let q : 0 + k ≡ k = omega arith in subst Both q (ops_lie os 0 k h l) }

    forms_lie : (nodes : ℕ) (xs : List Affine) (k j : ℕ) → FormsFrom m used nodes k xs → j < length xs → One nodes (k + j)
    forms_lie nodes [] k j h l = absurd (omega arith)
    forms_lie nodes (x ∷ xs) k zero h l =
        let q : k ≡ k + 0 = omega arith in
        subst (One nodes) q (lies h.0)
    forms_lie nodes (x ∷ xs) k (suc j) h l =
        let q : k + 1 + j ≡ k + suc j = omega arith in
        subst (One nodes) q (forms_lie nodes xs (k + 1) j h.1 (omega arith))

    pub outputs_inside : (nodes : ℕ) (xs : List Affine) → FormsFrom m used nodes 0 xs → OutputsInside m nodes (length xs)
    outputs_inside nodes xs h = record { lies = λ k l. let q : 0 + k ≡ k = omega arith in subst (One nodes) q (forms_lie nodes xs 0 k h l) }
