-- builder.rs. The ops made so far are kept newest first: op k from the start is the value of wire opsAt + k, past the opsAt input cells.
use Rattle.std.specs.Prelude.{ℕ, ◌+◌, List, ◌∷◌, length}
use Rattle.walk.specs.Kind.{bit}
use Rattle.construct.specs.Forms.{Known, No, Yes, Open, Forms}

-- left times max(0, gate); the construction makes no other op
pub record Op (F : Type 0) : Type 0 where
  pub left : F
  pub gate : F

-- a form, and the ops once it is made
pub record Out (F : Type 0) : Type 0 where
  pub form : F
  pub ops : List (Op F)

module _ {F : Type 0} (A : Forms F) where
  -- `!bit`: 1 - bit
  unfoldable pub not' : F → F
  not' f = A.offset 1 0 (A.negate f)

  unfoldable pub minus : F → F → F
  minus f g = A.plus f (A.negate g)

  module _ (opsAt : ℕ) where
    -- `push`, and `mask`: the new op's wire
    unfoldable pub push : F → F → List (Op F) → Out F
    push l g os = record { form = A.wire (opsAt + length os); ops = record { left = l; gate = g } ∷ os }

    -- `relu`: max(0, form)
    unfoldable pub relu : F → List (Op F) → Out F
    relu f os = push (A.constant 1) f os

    -- `is_zero`: [count == 0] = max(0, 1 - count)
    unfoldable pub is_zero_at : Known → F → List (Op F) → Out F
    is_zero_at No c os = record { form = A.constant 1; ops = os }
    is_zero_at Yes c os = record { form = A.constant 0; ops = os }
    is_zero_at Open c os = relu (A.offset 1 0 (A.negate c)) os

    unfoldable pub is_zero : F → List (Op F) → Out F
    is_zero c os = is_zero_at (A.known c) c os

    -- `at_least`: [count >= k] = max(0, count - k + 1) - max(0, count - k)
    unfoldable pub step : F → ℕ → List (Op F) → Out F
    step c k os =
        let high = relu (A.offset 1 k c) os in
        let low = relu (A.offset 0 1 (A.offset 1 k c)) high.ops in
        record { form = minus high.form low.form; ops = low.ops }

    unfoldable pub at_least_at : Known → F → ℕ → List (Op F) → Out F
    at_least_at No c k os = record { form = A.constant (bit (A.reaches k c)); ops = os }
    at_least_at Yes c k os = record { form = A.constant (bit (A.reaches k c)); ops = os }
    at_least_at Open c k os = step c k os

    unfoldable pub at_least : F → ℕ → List (Op F) → Out F
    at_least c k os = at_least_at (A.known c) c k os

    -- `and`: left times gate, folded where either is known
    unfoldable pub and_at : Known → Known → F → F → List (Op F) → Out F
    and_at Yes u f g os = record { form = g; ops = os }
    and_at No Yes f g os = record { form = f; ops = os }
    and_at No No f g os = record { form = A.constant 0; ops = os }
    and_at No Open f g os = record { form = A.constant 0; ops = os }
    and_at Open Yes f g os = record { form = f; ops = os }
    and_at Open No f g os = record { form = A.constant 0; ops = os }
    and_at Open Open f g os = push f g os

    unfoldable pub and : F → F → List (Op F) → Out F
    and f g os = and_at (A.known f) (A.known g) f g os

    -- `or`: a + b - a × b
    unfoldable pub or_at : Known → Known → F → F → List (Op F) → Out F
    or_at Yes u f g os = record { form = A.constant 1; ops = os }
    or_at No Yes f g os = record { form = A.constant 1; ops = os }
    or_at No No f g os = record { form = g; ops = os }
    or_at No Open f g os = record { form = g; ops = os }
    or_at Open Yes f g os = record { form = A.constant 1; ops = os }
    or_at Open No f g os = record { form = f; ops = os }
    or_at Open Open f g os =
        let both = and f g os in
        record { form = minus (A.plus f g) both.form; ops = both.ops }

    unfoldable pub or : F → F → List (Op F) → Out F
    or f g os = or_at (A.known f) (A.known g) f g os
