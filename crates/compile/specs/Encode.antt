-- A constructed circuit as it stands in the four slices of a circuit, in the layout of crate wire's Storage: the ops' terms come first, left before gate,
-- then the outputs' terms, each form's right past the one before; all else is zero. Definitions only.
use Rattle.std.specs.Prelude.{ℕ, ◌+◌, List, [], ◌∷◌, ◌++◌, map, length, replicate, Float}
use Rattle.std.proofs.lemmas.List.Edits.{sets}
use Rattle.exact.specs.Whole.{zero32}
use Rattle.wire.specs.declared.Term.{Term}
use Rattle.wire.specs.Terms.{Affine}
use Rattle.wire.specs.Storage.{leaves_from, cursors_from, report_from, outputs_from, ops_from, op_biases_from, reglu_kind}
use Rattle.arena_terms.specs.Steps.{wires_in, coefs_in}
use Rattle.construct.specs.Builder.{Op}
use Rattle.construct.specs.Circuit.{Circuit, op_forms, output_forms, forms_of}

-- how many terms a form has
abbrev pub size : Affine → ℕ
size x = length x.terms

-- the output forms in order
abbrev pub outputs_in : Circuit Affine → List Affine
outputs_in c = output_forms c.outputs ++ c.cursors

-- all terms of some forms
unfoldable pub terms_of_all : List Affine → List Term
terms_of_all [] = []
terms_of_all (x ∷ xs) = x.terms ++ terms_of_all xs

-- the ranges of forms whose terms begin at p
unfoldable pub ranges : ℕ → List Affine → List ℕ
ranges p [] = []
ranges p (x ∷ xs) = p ∷ size x ∷ ranges (p + size x) xs

-- the ops, of which the first one's terms begin at p: the kind, then the ranges of left and gate
unfoldable pub op_nums : ℕ → List (Op Affine) → List ℕ
op_nums p [] = []
op_nums p (o ∷ os) = reglu_kind ∷ p ∷ size o.left ∷ (p + size o.left) ∷ size o.gate ∷ op_nums (p + size o.left + size o.gate) os

abbrev pub biases_of : List Affine → List Float
biases_of xs = map (λ (x : Affine). x.bias) xs

-- a plan's lists: the node of each leaf slot and of each cursor cell, and the nodes in report order
pub record Lists : Type 0 where
  pub leaves : List ℕ
  pub cursors : List ℕ
  pub report : List ℕ

-- ---- the four slices, of the lengths lent

unfoldable pub list_nums : ℕ → Lists → List ℕ
list_nums n p = sets (sets (sets (replicate n 0) leaves_from p.leaves) cursors_from p.cursors) report_from p.report

unfoldable pub nums_of : ℕ → Lists → Circuit Affine → List ℕ
nums_of n p c = sets (sets (list_nums n p) ops_from (op_nums 0 c.ops)) outputs_from (ranges (length (terms_of_all (op_forms c.ops))) (outputs_in c))

unfoldable pub biases_in : ℕ → Circuit Affine → List Float
biases_in n c = sets (sets (replicate n zero32) op_biases_from (biases_of (op_forms c.ops))) 0 (biases_of (outputs_in c))

unfoldable pub wires_of : ℕ → Circuit Affine → List ℕ
wires_of n c = sets (replicate n 0) 0 (wires_in (terms_of_all (forms_of c)))

unfoldable pub coefs_of : ℕ → Circuit Affine → List Float
coefs_of n c = sets (replicate n zero32) 0 (coefs_in (terms_of_all (forms_of c)))
