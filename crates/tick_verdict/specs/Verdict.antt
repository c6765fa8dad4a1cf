-- Validation of the values of a circuit's output forms: document 01, "Validation of a value table". Definitions only.
use Rattle.std.specs.Prelude.{ℕ, zero, suc, ◌+◌, ◌*◌, List, Result, Ok, Err, ⊤, cond, get_or, Float}
use Rattle.std.specs.Result.{result_and}
use Rattle.std.specs.Float.{nan, binary32}
use Rattle.std.specs.Float.Ieee.{add, lt, le}
use Rattle.exact.specs.Whole.{one32, cursor_most32}
use Rattle.exact.specs.Tests.{is_bit, natural}
use Rattle.index.specs.declared.NodeIndex.{NodeIndex}
use Rattle.index.specs.declared.CursorCell.{CursorCell}
use Rattle.tick_verdict.specs.declared.InvariantError.{InvariantError}
use Rattle.tick_verdict.specs.declared.InvariantError.TheVariants.{NotABit, NotOneHot, BadCursor}

-- that values are sound, or the first rule that is broken; `result_and v w` is v's where it breaks one, and else w's
abbrev pub Verdict : Type 0
Verdict = Result ⊤ InvariantError

-- the first of the verdicts v 0, v 1, .. below n that is not sound
abbrev pub first_of : (ℕ → Verdict) → ℕ → Verdict
first_of v zero = Ok tt
first_of v (suc n) = result_and (first_of v n) (v n)

-- "are bits"
abbrev pub bit : NodeIndex → Float → Verdict
bit node x = cond (is_bit x) (Ok tt) (Err (NotABit node x))

-- "the status sum, of those three values, is at most 1"
abbrev pub one_hot : NodeIndex → Float → Verdict
one_hot node total = cond (lt one32 total) (Err (NotOneHot node total)) (Ok tt)

-- "success, failure, running are bits; the status sum, of those three values, is at most 1"
abbrev pub statuses : NodeIndex → Float → Float → Float → Verdict
statuses node s f r = result_and (bit node s) (result_and (bit node f) (result_and (bit node r) (one_hot node (add binary32 (add binary32 s f) r))))

-- "reached, halted, next running are bits"
abbrev pub marks : NodeIndex → Float → Float → Float → Verdict
marks node c h n = result_and (bit node c) (result_and (bit node h) (bit node n))

abbrev pub node_of : ℕ → NodeIndex
node_of i = record { 0 = i }

abbrev pub cell_of : ℕ → CursorCell
cell_of i = record { 0 = i }

-- the six values of node i
abbrev pub node_at : List Float → ℕ → Verdict
node_at outs i =
    result_and
    (statuses (node_of i) (get_or outs (6 * i) nan) (get_or outs (6 * i + 1) nan) (get_or outs (6 * i + 2) nan))
    (marks (node_of i) (get_or outs (6 * i + 3) nan) (get_or outs (6 * i + 4) nan) (get_or outs (6 * i + 5) nan))

-- "then each cursor is neither negative nor fractional, where NaN and the infinities count as fractional"
abbrev pub cursor : CursorCell → Float → Verdict
cursor cell x = cond (natural x) (Ok tt) (Err (BadCursor cell x))

abbrev pub cursor_at : List Float → ℕ → ℕ → Verdict
cursor_at outs nodes c = cursor (cell_of c) (get_or outs (6 * nodes + c) nan)

-- 18's second half: a next cursor is not above 65,535
abbrev pub low : CursorCell → Float → Verdict
low cell x = cond (le x cursor_most32) (Ok tt) (Err (BadCursor cell x))

abbrev pub low_at : List Float → ℕ → ℕ → Verdict
low_at outs nodes c = low (cell_of c) (get_or outs (6 * nodes + c) nan)

-- validation: node by node, then the cursors
abbrev pub values_verdict : List Float → ℕ → ℕ → Verdict
values_verdict outs nodes cursors = result_and (first_of (node_at outs) nodes) (first_of (cursor_at outs nodes) cursors)

-- the tick's: validation, "else the first next cursor above 65,535"
abbrev pub tick_verdict : List Float → ℕ → ℕ → Verdict
tick_verdict outs nodes cursors = result_and (values_verdict outs nodes cursors) (first_of (low_at outs nodes) cursors)
