-- The answers of evaluation as C callers get them: document 01's number and the values of each case.
use Rattle.std.specs.Prelude.{ℕ, Float, Option, ok_or, Result, Ok, Err, ⊤}
use Rattle.std.specs.Float.{binary32}
use Rattle.std.specs.Float.Ieee.{of_bits}
use Rattle.wire_eval.specs.declared.ValueError.{ValueError}
use Rattle.wire_eval.specs.declared.ValueError.TheVariants as value
use Rattle.wire_eval.specs.declared.EvalError.{EvalError}
use Rattle.wire_eval.specs.declared.EvalError.TheVariants as run
use Rattle.wire_eval.specs.Evaluation.{valued_number, evaluated_number}
use Rattle.wire_c.specs.declared.Answer.{Answer}
use Rattle.wire_c.specs.declared.Ended.{Ended}

-- the value, 0.0 where there is none
abbrev pub value_held : Result Float ValueError → Float
value_held (Ok x) = x
value_held (Err e) = of_bits binary32 0

abbrev pub answer_of : Result Float ValueError → Answer
answer_of v = record { number = valued_number v; value = value_held v }

-- the same of a form: 14 where it has no value
abbrev pub form_answer : Option Float → Answer
form_answer v = answer_of (ok_or v value.Short)

-- the first bad op, 0 where there is none
abbrev pub op_held : Result ⊤ EvalError → ℕ
op_held (Ok done) = 0
op_held (Err run.Short) = 0
op_held (Err (run.BadOp i)) = i

abbrev pub ended_of : Result ⊤ EvalError → Ended
ended_of e = record { number = evaluated_number e; op = op_held e }
