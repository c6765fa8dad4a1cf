-- What is lent to building, and what an operation leaves of it: the arena's two pools, and a table of forms, whose slot k is two numbers and a bias.
-- Inner: the shape of the code; nobody need believe it.
use Rattle.std.specs.Prelude.{ℕ, ◌+◌, ◌*◌, List, get_or, set, Float}
use Rattle.std.specs.Float.{nan}
use Rattle.wire.specs.declared.Form.{Form}
use Rattle.builder_table.specs.declared.lent.Standing as lent

-- ---- the table

abbrev pub slot : List ℕ → List Float → ℕ → Form
slot nums biases k = record { bias = get_or biases k nan; first = get_or nums (2 * k) 0; len = get_or nums (2 * k + 1) 0 }

abbrev pub saved_nums : List ℕ → ℕ → Form → List ℕ
saved_nums nums k f = set (set nums (2 * k) f.first) (2 * k + 1) f.len

abbrev pub saved_biases : List Float → ℕ → Form → List Float
saved_biases biases k f = set biases k f.bias

-- ---- all that is lent

pub record Mem : Type 0 where
  pub wires : List ℕ
  pub coefs : List Float
  pub nums : List ℕ
  pub biases : List Float

abbrev pub mem : List ℕ → List Float → List ℕ → List Float → Mem
mem wires coefs nums biases = record { wires = wires; coefs = coefs; nums = nums; biases = biases }

abbrev pub loaded : Mem → ℕ → Form
loaded m k = slot m.nums m.biases k

abbrev pub saved : Mem → ℕ → Form → Mem
saved m k f = mem m.wires m.coefs (saved_nums m.nums k f) (saved_biases m.biases k f)

-- where building stands: the room in the arena, the ops made so far, and the input cells, past which the ops' wires follow
abbrev pub Standing : Type 0
Standing = lent.Standing

-- what an operation leaves, where building then stands, and the form that it made
pub record Ended : Type 0 where
  pub mem : Mem
  pub builder : Standing
  pub form : Form

-- nothing is done, and f is the answer
abbrev pub kept : Mem → Standing → Form → Ended
kept m b f = record { mem = m; builder = b; form = f }

-- what is left, and where building then stands
pub record Stood : Type 0 where
  pub mem : Mem
  pub builder : Standing

abbrev pub stood : Mem → Standing → Stood
stood m b = record { mem = m; builder = b }
