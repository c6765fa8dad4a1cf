-- Validation of a lent value table: document 01, "Validation of a value table". Definitions only.
use Rattle.std.specs.Prelude.{◌+◌, List, Result, Ok, Err, ⊤, cond, length, ltb, Float}
use Rattle.tick_verdict.specs.Verdict.{Verdict, values_verdict}
use Rattle.tick_check.specs.Check.{Stored, circuit_ok}
use Rattle.tick_lane.specs.Evaluate.{outs_of}
use Rattle.validate.specs.declared.ValidateError.{ValidateError}
use Rattle.validate.specs.declared.ValidateError.TheVariants.{BadCircuit, ShortRoom, Broken}

-- that a table is sound, or why it is refused
abbrev pub Validated : Type 0
Validated = Result ⊤ ValidateError

-- a verdict on the values as that on the table
abbrev pub judged : Verdict → Validated
judged (Ok sound) = Ok tt
judged (Err what) = Err (Broken what)

-- "Bad circuit gives 17, a table shorter than the circuit gives 14"; then node by node
unfoldable pub validate_of : Stored → List Float → Validated
validate_of s table =
    let n = s.counts in
    cond (circuit_ok s)
    (cond (ltb (length table) (n.cells + n.ops)) (Err ShortRoom) (judged (values_verdict (outs_of s table) n.nodes n.cursors)))
    (Err BadCircuit)
