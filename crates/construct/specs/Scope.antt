-- Scope: "an op reads a value not before its own", "a form's wires don't strictly rise", "a coefficient is zero": none of these.
use Rattle.std.specs.Prelude.{◌+◌, ◌<◌, ◌≤◌, suc, ℕ, List, [], ◌∷◌, ◌≢◌, length}
use Rattle.construct.specs.Circuit.{Circuit, forms_of}
use Rattle.construct.specs.Pairs.{Form, Op, Term}
use Rattle.lists.specs.Every.{All}

-- the wires rise strictly from b on, stay below n, and no coefficient is zero
abbrev pub Within : ℕ → ℕ → List Term → Type 0
Within b n [] = Unit {0}
Within b n (t ∷ ts) = (b ≤ t.wire) × (t.wire < n) × (t.cp ≢ t.cn) × Within (suc t.wire) n ts

-- a form reads wires below n, each once, in rising order, with coefficients other than 0
abbrev pub Reads : ℕ → Form → Type 0
Reads n f = Within 0 n f.terms

-- every op reads wires before its own, the first of them being n
abbrev pub InOrder : ℕ → List Op → Type 0
InOrder n [] = Unit {0}
InOrder n (o ∷ os) = Reads n o.left × Reads n o.gate × InOrder (suc n) os

-- .. and every form wires of the table, past opsAt input cells
pub record Scoped (opsAt : ℕ) (c : Circuit Form) : Type 0 where
  pub ops : InOrder opsAt c.ops
  pub forms : All (Reads (opsAt + length c.ops)) (forms_of c)
