-- Tree bytes: each contract permits one outcome.
--
--   tree_kinds: row_of           row_of, specs/Kinds
--   tree_record: read_record     record_at, specs/Record
--   tree_record: Cause::number   number_of, specs/Refusal
--   tree_record: Cause::kind     kind_of, specs/Refusal
--   tree: flatten                flat_of, specs/Tree; 1 to 8 by record_at and parse
use mathlib.Core.Path.{refl, ◌∙⁻¹◌}
use Rattle.tree_kinds.proofs.row_of
use Rattle.tree_kinds.specs.contracts.row_of as row_of_contract
use Rattle.tree_record.proofs.read_record
use Rattle.tree_record.specs.contracts.read_record as read_record_contract
use Rattle.tree_record.proofs.refusal.Cause.number
use Rattle.tree_record.specs.contracts.refusal.Cause.number as number_contract
use Rattle.tree_record.proofs.refusal.Cause.kind
use Rattle.tree_record.specs.contracts.refusal.Cause.kind as kind_contract
use Rattle.tree.proofs.flatten
use Rattle.tree.specs.contracts.flatten as flatten_contract
use Rattle.std.specs.Prelude.{Option, option_map}
use contract.Lifetimes.{Lfts}
use Rattle.tree_kinds.specs.Kinds.{Entry, shown}
use Rattle.unique.specs.One.{One, OneSeen}

-- a row is seen by its name's bytes, wherever they lie
pub one_row : (κ : Lfts 1) → OneSeen row_of_contract.ended (λ κs. row_of.Reads.Post κ) (λ κs. Option Entry) (λ κs x. option_map shown x)
one_row κ κs a x y u v p q = (p ∙⁻¹ q, refl)

pub one_record : One read_record_contract.ended read_record.Reads.Post
one_record κs a x y u v p q = (p ∙⁻¹ q, refl)

pub one_number : One number_contract.ended number.Reads.Post
one_number κs a x y u v p q = (p ∙⁻¹ q, refl)

pub one_kind : One kind_contract.ended kind.Reads.Post
one_kind κs a x y u v p q = (p ∙⁻¹ q, refl)

pub one_flattening : One flatten_contract.ended flatten.Reads.Post
one_flattening κs a x y u v p q = (p.0 ∙⁻¹ q.0, λ i. (tt, ((p.1.0 ∙⁻¹ q.1.0) i, ((p.1.1 ∙⁻¹ q.1.1) i, tt))))
