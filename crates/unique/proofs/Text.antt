-- Text: each contract permits one outcome.
--
--   text: put_line           placed, specs/Text
--   text: append *           Appended, specs/Text
--   text: append_decimal *   Appended and decimal, specs/Text
--   refusal: write_refusal   line_of, specs/Line
use mathlib.Core.Path.{◌∙⁻¹◌}
use Rattle.text.proofs.Parts.{whole}
use Rattle.text.proofs.put_line
use Rattle.text.specs.contracts.put_line as put_line_contract
use Rattle.text.proofs.append
use Rattle.text.specs.contracts.append as append_contract
use Rattle.text.proofs.append_decimal
use Rattle.text.specs.contracts.append_decimal as append_decimal_contract
use Rattle.refusal.proofs.write_refusal
use Rattle.refusal.specs.contracts.write_refusal as write_refusal_contract
use Rattle.unique.specs.One.{One}

pub one_line : One put_line_contract.ended put_line.Reads.Post
one_line κs a x y u v p q = (p.0 ∙⁻¹ q.0, λ i. ((p.1 ∙⁻¹ q.1) i, u.1))

pub one_appending : One append_contract.ended append.Reads.Post
one_appending κs a x y u v p q = (p.next ∙⁻¹ q.next, λ i. ((whole p ∙⁻¹ whole q) i, u.1))

pub one_decimal : One append_decimal_contract.ended append_decimal.Reads.Post
one_decimal κs a x y u v p q = (p.0.next ∙⁻¹ q.0.next, λ i. ((whole p.0 ∙⁻¹ whole q.0) i, u.1))

pub one_refusal : One write_refusal_contract.ended write_refusal.Reads.Post
one_refusal κs a x y u v p q = (p.0 ∙⁻¹ q.0, λ i. (tt, ((p.1 ∙⁻¹ q.1) i, tt)))
