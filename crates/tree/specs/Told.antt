-- The answer of flattening in document 01's words. Definitions only.
use Rattle.std.specs.Prelude.{ℕ, Result, Ok, Err}
use Rattle.tree_record.specs.declared.refusal.Refusal.{Refusal}
use Rattle.tree_record.specs.Refusal.{number_of, kind_of}

-- how many nodes there are, or a number, its place and its kind
pub data Told : Type 0 where
  nodes : ℕ → Told
  refused : ℕ → ℕ → ℕ → Told

abbrev pub told : Result ℕ Refusal → Told
told (Ok count) = nodes count
told (Err refusal) = refused (number_of refusal.cause) refusal.place (kind_of refusal.cause)
