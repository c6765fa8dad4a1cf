-- What the listing program does between a reader and a writer. Definitions only.
use Rattle.std.specs.Prelude.{ℕ, ◌≡◌, List, ◌++◌, Option, ◌⊎◌}
use Rattle.std.specs.Io.KnownBytes.{Consumes, Appends, IsAtEnd}

-- Some bytes were read, and what is to be printed of them was written: of a reader that had so much and has so much left, and a writer that held so
-- much and holds so much now. It stops where nothing more is to be printed whatever follows, or where nothing follows.
pub record Lists (due : List ℕ → List ℕ) (had left held holds : Option (List ℕ)) : Type 0 where
  pub read : List ℕ
  pub consumed : Consumes had left read
  pub written : Appends held holds (due read)
  pub over : ((more : List ℕ) → due (read ++ more) ≡ due read) ⊎ IsAtEnd left
