-- `list_text::fields::append_more`: so many cursors are in the line, and the rest is still to be.
use Rattle.std.proofs.Common.{◌≡◌, ◌+◌, ◌*◌, ◌≤◌, ◌++◌, take, drop}
use Rattle.list_text.specs.Line.{more}
use Rattle.list_text.proofs.fields.append_more.Given as goal

abbrev pub invariant-loop-cursor : goal.invariant-loop-cursor
invariant-loop-cursor l =
    record {
      used : l.end ≤ l.at + 21 * l.cursor-index;
      written : take l.end l.line ++ more (drop l.cursor-index l.cursors) ≡ take l.at l.initial.line ++ more l.cursors;
    }
