-- What a form and an op are worth in a table of values, and the table that ops make. A form's value is P - N, with P and N natural; an op's
-- is "left times max(0, gate)".
use Rattle.std.specs.Prelude.{◌*◌, ◌+◌, ◌-◌, ℕ, Bool, List, [], ◌++◌, ◌∷◌, ◌≡◌, get_or}
use Rattle.construct.specs.Pairs.{Form, Op, Term, StatusBits}
use Rattle.walk.specs.Kind.{bit}
use Rattle.walk.specs.Status.{Status, is_failure, is_running_status, is_success}

unfoldable pub sum_p : (ℕ → ℕ) → List Term → ℕ
sum_p ρ [] = 0
sum_p ρ (t ∷ ts) = t.cp * ρ t.wire + sum_p ρ ts

unfoldable pub sum_n : (ℕ → ℕ) → List Term → ℕ
sum_n ρ [] = 0
sum_n ρ (t ∷ ts) = t.cn * ρ t.wire + sum_n ρ ts

unfoldable pub P : (ℕ → ℕ) → Form → ℕ
P ρ f = f.bp + sum_p ρ f.terms

unfoldable pub N : (ℕ → ℕ) → Form → ℕ
N ρ f = f.bn + sum_n ρ f.terms

-- the form's value is the natural v
abbrev pub Val : (ℕ → ℕ) → Form → ℕ → Type 0
Val ρ f v = P ρ f ≡ N ρ f + v

-- the form's value is a bit
abbrev pub Bit : (ℕ → ℕ) → Form → Bool → Type 0
Bit ρ f a = Val ρ f (bit a)

-- three bits of which exactly the status's own is 1
pub record BitsAre (ρ : ℕ → ℕ) (t : StatusBits) (st : Status) : Type 0 where
  pub is_s : Bit ρ t.success (is_success st)
  pub is_f : Bit ρ t.failure (is_failure st)
  pub is_r : Bit ρ t.running (is_running_status st)

-- the left form of every op that is built is at least 0, so that truncated subtraction is right for it too
unfoldable pub op_val : (ℕ → ℕ) → Op → ℕ
op_val ρ o = (P ρ o.left - N ρ o.left) * (P ρ o.gate - N ρ o.gate)

abbrev pub cell : List ℕ → ℕ → ℕ
cell table w = get_or table w 0

-- the value table: the input cells, then each op's value appended, in order
unfoldable pub table_of : List ℕ → List Op → List ℕ
table_of table [] = table
table_of table (o ∷ os) = table_of (table ++ (op_val (cell table) o ∷ [])) os
