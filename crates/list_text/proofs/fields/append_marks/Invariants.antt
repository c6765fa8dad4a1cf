-- `list_text::fields::append_marks`: so many marks are in the line.
use Rattle.std.proofs.Common.{◌≡◌, ◌+◌, ◌++◌, take}
use Rattle.list_text.specs.Line.{marks}
use Rattle.list_text.proofs.fields.append_marks.Given as goal

abbrev pub invariant-loop-i : goal.invariant-loop-i
invariant-loop-i l = take (l.at + l.i) l.line ≡ take l.at l.initial.line ++ marks (take l.i l.statuses) l.halts
