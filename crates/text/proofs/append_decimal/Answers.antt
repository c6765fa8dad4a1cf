-- `text::append_decimal` meets its contract: the digits that `io::decimal` writes are the number's, at most 20.
use Rattle.std.proofs.Common.{◌∙◌, arith}
use Rattle.text.proofs.Decimals.{decimal_is}
use Rattle.text.proofs.Parts.{same_part}
use Rattle.text.proofs.append_decimal.Goals as goal

pub returns : goal.returns
returns c =
    let digits = c.decimal-count.ensures in
    let is = digits.digits ∙ decimal_is _ c.args.number (omega arith) digits.len in
    (same_part is c.append.ensures, omega (arith, c.append.ensures.next))
