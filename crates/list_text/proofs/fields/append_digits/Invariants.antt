-- `list_text::fields::append_digits`: so many digits are in the line.
use Rattle.std.proofs.Common.{◌≡◌, ◌+◌, ◌++◌, map, take}
use Rattle.list_text.specs.Line.{digit}
use Rattle.list_text.proofs.fields.append_digits.Given as goal

abbrev pub invariant-loop-i : goal.invariant-loop-i
invariant-loop-i l = take (l.at + l.i) l.line ≡ take l.at l.initial.line ++ map digit (take l.i l.edges)
