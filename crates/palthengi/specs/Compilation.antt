-- What compiling answers, as C sees it: document 01's number, the kind that 4 carries, the place; or the counts. Definitions only.
use Rattle.std.specs.Prelude.{ℕ, List, Float, Ok, Err}
use Rattle.tree_record.specs.Refusal.{number_of, kind_of}
use Rattle.wire.specs.declared.Counts.{Counts}
use Rattle.compile.specs.Answer.{Compiled}
use Rattle.compile.specs.Compile.{Outcome}
use Rattle.palthengi.specs.declared.Compilation.{Compilation}

abbrev pub no_counts : Counts
no_counts = record { nodes = 0; cursors = 0; leaves = 0; cells = 0; ops = 0; terms = 0 }

abbrev pub of_compiled : Compiled → Compilation
of_compiled (Ok counts) = record { number = 0; kind = 0; place = 0; counts = counts }
of_compiled (Err refusal) = record { number = number_of refusal.cause; kind = kind_of refusal.cause; place = refusal.place; counts = no_counts }

-- an outcome with the answer so
pub record Made : Type 0 where
  pub answer : Compilation
  pub nums : List ℕ
  pub biases : List Float
  pub wires : List ℕ
  pub coefs : List Float

abbrev pub made : Compilation → List ℕ → List Float → List ℕ → List Float → Made
made answer nums biases wires coefs = record { answer = answer; nums = nums; biases = biases; wires = wires; coefs = coefs }

abbrev pub tell_made : Outcome → Made
tell_made o = made (of_compiled o.answer) o.nums o.biases o.wires o.coefs
