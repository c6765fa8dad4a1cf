-- What the construction asks of forms, so that it is written once: forms with whole coefficients, on which its laws are proved, and forms
-- with f32 coefficients, which compiled code makes, are two instances.
use Rattle.std.specs.Prelude.{ℕ, Bool}

-- builder.rs's `as_constant`, of a bit or a count: the constant 0, another constant, or a form that has terms
pub data Known : Type 0 where
  No Yes Open : Known

-- the operations of wire.rs that building uses; whole numbers p - n are given by their two parts
pub record Forms (F : Type 0) : Type 0 where
  -- `constant`, of 0 or 1
  pub constant : ℕ → F
  -- the wire itself: coefficient 1, bias 0
  pub wire : ℕ → F
  pub plus : F → F → F
  -- `scaled(-1.0)`
  pub negate : F → F
  -- `scaled` by a child's position
  pub scaled : ℕ → F → F
  -- `offset` by p - n
  pub offset : ℕ → ℕ → F → F
  pub known : F → Known
  -- of a form without terms: its value is at least k
  pub reaches : ℕ → F → Bool
  -- how many terms it has
  pub terms : F → ℕ
