-- The forms of a circuit with f32 coefficients are those of the circuit with whole ones, in the same places; facts of every form, by index.
use mathlib.Core.Path.{◌≡◌, refl, sym, ◌∙◌, ap}
use mathlib.Core.List.{List, [], ◌∷◌, ◌++◌, map, map-append}
use Prim.Native.Nat.{ℕ, zero, suc, ◌+◌, ◌<◌}
use native.Mathlib.Omega.{arith}
use lib.ListN.{length, get_or}
use Rattle.lists.specs.Every.{All}
use Rattle.construct.specs.Builder as B
use Rattle.construct.specs.Circuit.{Circuit, Output, forms_of, op_forms, output_forms}
use Rattle.construct.specs.Pairs.{Form, Op}
use Rattle.construct.specs.Scope.{Reads, InOrder}
use Rattle.construct_instances.proofs.Respects.{of_op, of_output, of_circuit}

module _ {F G : Type 0} (of : F → G) where
  op_images : (os : List (B.Op F)) → op_forms (map (of_op of) os) ≡ map of (op_forms os)
  unfolding op_forms
  op_images [] = refl
  op_images (o ∷ os) = ap (λ (l : List G). of o.left ∷ of o.gate ∷ l) (op_images os)

  output_images : (xs : List (Output F)) → output_forms (map (of_output of) xs) ≡ map of (output_forms xs)
  unfolding output_forms
  output_images [] = refl
  output_images (x ∷ xs) =
      ap (λ (l : List G). of x.status.success ∷ of x.status.failure ∷ of x.status.running ∷ of x.reached ∷ of x.halted ∷ of x.running ∷ l) (output_images xs)

  pub outs_images : (c : Circuit F) → output_forms (of_circuit of c).outputs ++ (of_circuit of c).cursors ≡ map of (output_forms c.outputs ++ c.cursors)
  outs_images c =
      ap (λ (l : List G). l ++ map of c.cursors) (output_images c.outputs) ∙ sym (map-append of (output_forms c.outputs) c.cursors)

  pub form_images : (c : Circuit F) → forms_of (of_circuit of c) ≡ map of (forms_of c)
  form_images c =
      (λ i. op_images c.ops i ++ outs_images c i) ∙ sym (map-append of (op_forms c.ops) (output_forms c.outputs ++ c.cursors))

-- ---- facts by index

pub all_get_d : {A : Type 0} (R : A → Type 0) (xs : List A) (k : ℕ) (d : A) → All R xs → k < length xs → R (get_or xs k d)
all_get_d R [] k d h b = absurd (omega arith)
all_get_d R (x ∷ xs) zero d h b = h.0
all_get_d R (x ∷ xs) (suc k) d h b = all_get_d R xs k d h.1 (omega arith)

pub all_second : {A : Type 0} (R : A → Type 0) (xs ys : List A) → All R (xs ++ ys) → All R ys
all_second R [] ys h = h
all_second R (x ∷ xs) ys h = all_second R xs ys h.1

-- of every op's two forms
pub op_all : (R : Form → Type 0) (os : List Op) (k : ℕ) (d : Op) → All R (op_forms os) → k < length os → R (get_or os k d).left × R (get_or os k d).gate
unfolding op_forms
op_all R [] k d h b = absurd (omega arith)
op_all R (o ∷ os) zero d h b = (h.0, h.1.0)
op_all R (o ∷ os) (suc k) d h b = op_all R os k d h.1.1 (omega arith)

pub in_order_at : (n : ℕ) (os : List Op) (k : ℕ) (d : Op) → InOrder n os → k < length os → Reads (n + k) (get_or os k d).left × Reads (n + k) (get_or os k d).gate
in_order_at n [] k d h b = absurd (omega arith)
in_order_at n (o ∷ os) zero d h b = let e : n ≡ n + 0 = omega arith in (rw e at h.0, rw e at h.1)
in_order_at n (o ∷ os) (suc k) d h b =
    let e : suc n + k ≡ n + suc k = omega arith in
    let r = in_order_at (suc n) os k d h.2 (omega arith) in
    (rw e at r.0, rw e at r.1)
