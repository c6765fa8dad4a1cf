-- builder.rs on all that is lent: each operation as the equation that its code meets. That the forms and ops are the construction's is proved in proofs/.
-- Inner: the shape of the code; nobody need believe it.
use Rattle.std.specs.Prelude.{Bool, cond, not, ◌&&◌, ◌||◌, eqb, Float}
use Rattle.std.specs.Float.{binary32}
use Rattle.std.specs.Float.Ieee.{sub, eq, le}
use Rattle.exact.specs.Whole.{zero32, one32, minus_one32}
use Rattle.wire.specs.declared.Form.{Form}
use Rattle.wire.specs.Terms.{constant_form}
use Rattle.arena.specs.Arena.{offset_form}
use Rattle.builder_table.specs.Work.{Standing, Mem, Ended, kept}
use Rattle.builder_table.specs.Steps.{plus_in, scaled_in, one_minus_in, push_in}

-- the constant bit
abbrev pub bit_form : Bool → Form
bit_form set = constant_form (cond set one32 zero32)

-- `as_constant`: a form without terms is decided
abbrev pub is_true_form : Form → Bool
is_true_form f = eqb f.len 0 && not (eq f.bias zero32)

abbrev pub is_false_form : Form → Bool
is_false_form f = eqb f.len 0 && eq f.bias zero32

-- f - g
unfoldable pub minus_in : Mem → Standing → Form → Form → Ended
minus_in m b f g =
    let n = scaled_in m b g minus_one32 in
    plus_in n.mem n.builder f n.form

-- `relu`: max(0, form)
unfoldable pub relu_in : Mem → Standing → Form → Ended
relu_in m b f = push_in m b (constant_form one32) f

-- `is_zero`: [count == 0] = max(0, 1 - count)
unfoldable pub is_zero_in : Mem → Standing → Form → Ended
is_zero_in m b count =
    cond (eqb count.len 0)
    (kept m b (bit_form (eq count.bias zero32)))
    (let n = one_minus_in m b count in
    relu_in n.mem n.builder n.form)

-- max(0, shifted) - max(0, shifted - 1)
unfoldable pub step_within : Mem → Standing → Form → Ended
step_within m b shifted =
    let high = relu_in m b shifted in
    let low = relu_in high.mem high.builder (offset_form minus_one32 shifted) in
    minus_in low.mem low.builder high.form low.form

-- `at_least`: [count >= k] = max(0, count - k + 1) - max(0, count - k)
unfoldable pub at_least_in : Mem → Standing → Form → Float → Ended
at_least_in m b count threshold =
    cond (eqb count.len 0)
    (kept m b (bit_form (le threshold count.bias)))
    (step_within m b (offset_form (sub binary32 one32 threshold) count))

-- `and`: left times gate, folded where either is known
unfoldable pub and_in : Mem → Standing → Form → Form → Ended
and_in m b left right =
    cond (is_true_form left)
    (kept m b right)
    (cond (is_true_form right)
    (kept m b left)
    (cond (is_false_form left || is_false_form right)
    (kept m b (constant_form zero32))
    (push_in m b left right)))

-- a + b - a × b
unfoldable pub either_in : Mem → Standing → Form → Form → Ended
either_in m b left right =
    let both = push_in m b left right in
    let sum = plus_in both.mem both.builder left right in
    minus_in sum.mem sum.builder sum.form both.form

-- `or`, folded likewise
unfoldable pub or_in : Mem → Standing → Form → Form → Ended
or_in m b left right =
    cond (is_true_form left || is_true_form right)
    (kept m b (constant_form one32))
    (cond (is_false_form left)
    (kept m b right)
    (cond (is_false_form right)
    (kept m b left)
    (either_in m b left right)))
