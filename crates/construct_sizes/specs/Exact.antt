-- What it is for a circuit's numbers to be small: the running sums in a table of values, the coefficients and biases.
use Rattle.std.specs.Prelude.{◌*◌, ◌+◌, ◌≤◌, ℕ, List, [], ◌∷◌, take}
use Rattle.construct.specs.Circuit.{Circuit, forms_of}
use Rattle.construct.specs.Pairs.{Form, Op, Term}
use Rattle.construct.specs.Value.{N, P, op_val, sum_n, sum_p}
use Rattle.lists.specs.Every.{All}

-- every running sum, "the bias, then coefficient times value added in wire order", is below 2^24 in size
abbrev pub Sums : (ℕ → ℕ) → Form → Type 0
Sums ρ f = (i : ℕ)
    → (f.bp + sum_p ρ (take i f.terms) ≤ f.bn + sum_n ρ (take i f.terms) + 16777215)
    × (f.bn + sum_n ρ (take i f.terms) ≤ f.bp + sum_p ρ (take i f.terms) + 16777215)

-- every product of a coefficient p - n and its wire's value is at most C in size
abbrev pub Products : (ℕ → ℕ) → ℕ → List Term → Type 0
Products ρ C [] = Unit {0}
Products ρ C (t ∷ ts) = ((t.cp * ρ t.wire ≤ t.cn * ρ t.wire + C) × (t.cn * ρ t.wire ≤ t.cp * ρ t.wire + C)) × Products ρ C ts

-- an op's left form is at least 0, and its value is below 2^24
pub record OpExact (ρ : ℕ → ℕ) (o : Op) : Type 0 where
  pub left : N ρ o.left ≤ P ρ o.left
  pub value : op_val ρ o ≤ 16777215

pub record Exact (ρ : ℕ → ℕ) (c : Circuit Form) : Type 0 where
  pub sums : All (Sums ρ) (forms_of c)
  pub products : All (λ (f : Form). Products ρ 16777216 f.terms) (forms_of c)
  pub ops : All (OpExact ρ) c.ops

-- a bias or coefficient p - n is at most C in size
abbrev pub Coefs : ℕ → List Term → Type 0
Coefs C [] = Unit {0}
Coefs C (t ∷ ts) = ((t.cp ≤ t.cn + C) × (t.cn ≤ t.cp + C)) × Coefs C ts

abbrev pub Small : ℕ → Form → Type 0
Small C f = (f.bp ≤ f.bn + C) × (f.bn ≤ f.bp + C) × Coefs C f.terms
