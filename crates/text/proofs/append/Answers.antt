-- `text::append` meets its contract: what the part is copied over is that part of the line, and nothing else.
use Rattle.std.proofs.Common.{rules}
use Rattle.std.proofs.lemmas.Slice.{overwrites}
use Rattle.text.proofs.append.Goals as goal

pub returns : goal.returns
returns c = search (rules, overwrites)
