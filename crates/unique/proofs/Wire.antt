-- Forms, ops and their values: each contract permits one outcome.
--
--   wire: Form::constant        constant_form, specs/Terms
--   wire: part_of               look_up, specs/Terms, of any pool
--   wire: op_slots              op_slots, specs/Storage
--   wire: term_slots            term_slots, specs/Storage
--   wire: storage_holds         storage_holds, specs/Storage
--   wire_pool: form_at *        form_at, wire specs/Storage
--   wire_pool: sum *            value_in, wire specs/Terms
--   wire_pool: run_ops *        table_after, specs/Values
--   wire_read: is_readable      readable, specs/Reading
--   wire_read: op_at            stored_op, specs/Reading
--   wire_read: op_is_readable   op_reads, specs/Reading
--   wire_eval: value            value_of, specs/Evaluation
--   wire_eval: op_value         op_value_of, specs/Evaluation
--   wire_eval: evaluate         evaluated, table_left, specs/Evaluation
--   wire_layers: layers         layered, layers_left, specs/Layers
--   wire_layers: depth          largest, specs/Layers
use mathlib.Core.Path.{refl, ◌∙⁻¹◌}
use mathlib.Core.List.{List}
use denote.Param.Laws.{Laws}
use denote.RattleType.{RattleType}
use Rattle.wire.proofs.Form.constant
use Rattle.wire.specs.contracts.Form.constant as constant_contract
use Rattle.wire.proofs.part_of
use Rattle.wire.specs.contracts.part_of as part_of_contract
use Rattle.wire.proofs.op_slots
use Rattle.wire.specs.contracts.op_slots as op_slots_contract
use Rattle.wire.proofs.term_slots
use Rattle.wire.specs.contracts.term_slots as term_slots_contract
use Rattle.wire.proofs.storage_holds
use Rattle.wire.specs.contracts.storage_holds as storage_holds_contract
use Rattle.wire_pool.proofs.form_at
use Rattle.wire_pool.specs.contracts.form_at as form_at_contract
use Rattle.wire_pool.proofs.sum
use Rattle.wire_pool.specs.contracts.sum as sum_contract
use Rattle.wire_pool.proofs.run_ops
use Rattle.wire_pool.specs.contracts.run_ops as run_ops_contract
use Rattle.wire_read.proofs.is_readable
use Rattle.wire_read.specs.contracts.is_readable as is_readable_contract
use Rattle.wire_read.proofs.op_at
use Rattle.wire_read.specs.contracts.op_at as op_at_contract
use Rattle.wire_read.proofs.op_is_readable
use Rattle.wire_read.specs.contracts.op_is_readable as op_is_readable_contract
use Rattle.wire_eval.proofs.value
use Rattle.wire_eval.specs.contracts.value as value_contract
use Rattle.wire_eval.proofs.op_value
use Rattle.wire_eval.specs.contracts.op_value as op_value_contract
use Rattle.wire_eval.proofs.evaluate
use Rattle.wire_eval.specs.contracts.evaluate as evaluate_contract
use Rattle.wire_layers.proofs.layers
use Rattle.wire_layers.specs.contracts.layers as layers_contract
use Rattle.wire_layers.proofs.depth
use Rattle.wire_layers.specs.contracts.depth as depth_contract
use Rattle.unique.specs.One.{One, OneSeen}

pub one_constant : One constant_contract.ended constant.Reads.Post
one_constant κs a x y u v p q = (p ∙⁻¹ q, refl)

-- the answer is a part of the lent pool, seen by its elements
pub one_part_of : (T : RattleType) (laws : Laws T) → OneSeen (part_of_contract.ended T) (part_of.Reads.Post T laws) (λ κs. List T.Denot) (λ κs x. x.now)
one_part_of T laws κs a x y u v p q = (p ∙⁻¹ q, refl)

pub one_op_slots : One op_slots_contract.ended op_slots.Reads.Post
one_op_slots κs a x y u v p q = (p ∙⁻¹ q, refl)

pub one_term_slots : One term_slots_contract.ended term_slots.Reads.Post
one_term_slots κs a x y u v p q = (p ∙⁻¹ q, refl)

pub one_storage_holds : One storage_holds_contract.ended storage_holds.Reads.Post
one_storage_holds κs a x y u v p q = (p ∙⁻¹ q, refl)

pub one_form_at : One form_at_contract.ended form_at.Reads.Post
one_form_at κs a x y u v p q = (p ∙⁻¹ q, refl)

pub one_sum : One sum_contract.ended sum.Reads.Post
one_sum κs a x y u v p q = (p ∙⁻¹ q, refl)

pub one_run_ops : One run_ops_contract.ended run_ops.Reads.Post
one_run_ops κs a x y u v p q = (refl, λ i. (tt, ((p ∙⁻¹ q) i, u.1.1)))

pub one_is_readable : One is_readable_contract.ended is_readable.Reads.Post
one_is_readable κs a x y u v p q = (p ∙⁻¹ q, refl)

pub one_op_at : One op_at_contract.ended op_at.Reads.Post
one_op_at κs a x y u v p q = (p ∙⁻¹ q, refl)

pub one_op_is_readable : One op_is_readable_contract.ended op_is_readable.Reads.Post
one_op_is_readable κs a x y u v p q = (p ∙⁻¹ q, refl)

pub one_value : One value_contract.ended value.Reads.Post
one_value κs a x y u v p q = (p ∙⁻¹ q, refl)

pub one_op_value : One op_value_contract.ended op_value.Reads.Post
one_op_value κs a x y u v p q = (p ∙⁻¹ q, refl)

pub one_evaluation : One evaluate_contract.ended evaluate.Reads.Post
one_evaluation κs a x y u v p q = (p.0 ∙⁻¹ q.0, λ i. (tt, ((p.1 ∙⁻¹ q.1) i, tt)))

pub one_layering : One layers_contract.ended layers.Reads.Post
one_layering κs a x y u v p q = (p.0 ∙⁻¹ q.0, λ i. (tt, ((p.1 ∙⁻¹ q.1) i, tt)))

pub one_depth : One depth_contract.ended depth.Reads.Post
one_depth κs a x y u v p q = (p ∙⁻¹ q, refl)
