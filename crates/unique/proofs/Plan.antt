-- The plan: each contract permits one outcome.
--
--   plan: Plan::running_cell       running_cell, specs/Cells
--   plan: Plan::cursor_cell        cursor_cell, specs/Cells
--   plan: Plan::leaf_cell          leaf_cell, specs/Cells
--   plan: Plan::leaf_status_cell   leaf_status_cell, specs/Cells
--   plan: Plan::cell_count         cell_count, specs/Cells
--   plan: leaf_list                leaves_of, specs/Plan
--   plan: cursor_list              cursors_of, specs/Plan
--   plan: report_order             report_of, specs/Plan
use mathlib.Core.Path.{refl, ◌∙⁻¹◌}
use Rattle.plan.proofs.cells.Plan.running_cell
use Rattle.plan.specs.contracts.cells.Plan.running_cell as running_cell_contract
use Rattle.plan.proofs.cells.Plan.cursor_cell
use Rattle.plan.specs.contracts.cells.Plan.cursor_cell as cursor_cell_contract
use Rattle.plan.proofs.cells.Plan.leaf_cell
use Rattle.plan.specs.contracts.cells.Plan.leaf_cell as leaf_cell_contract
use Rattle.plan.proofs.cells.Plan.leaf_status_cell
use Rattle.plan.specs.contracts.cells.Plan.leaf_status_cell as leaf_status_cell_contract
use Rattle.plan.proofs.cells.Plan.cell_count
use Rattle.plan.specs.contracts.cells.Plan.cell_count as cell_count_contract
use Rattle.plan.proofs.leaf_list
use Rattle.plan.specs.contracts.leaf_list as leaf_list_contract
use Rattle.plan.proofs.cursor_list
use Rattle.plan.specs.contracts.cursor_list as cursor_list_contract
use Rattle.plan.proofs.report_order
use Rattle.plan.specs.contracts.report_order as report_order_contract
use Rattle.unique.specs.One.{One}

pub one_running_cell : One running_cell_contract.ended running_cell.Reads.Post
one_running_cell κs a x y u v p q = (λ i. record { 0 = (p ∙⁻¹ q) i }, refl)

pub one_cursor_cell : One cursor_cell_contract.ended cursor_cell.Reads.Post
one_cursor_cell κs a x y u v p q = (λ i. record { 0 = (p ∙⁻¹ q) i }, refl)

pub one_leaf_cell : One leaf_cell_contract.ended leaf_cell.Reads.Post
one_leaf_cell κs a x y u v p q = (λ i. record { 0 = (p ∙⁻¹ q) i }, refl)

pub one_leaf_status_cell : One leaf_status_cell_contract.ended leaf_status_cell.Reads.Post
one_leaf_status_cell κs a x y u v p q = (λ i. record { 0 = (p ∙⁻¹ q) i }, refl)

pub one_cell_count : One cell_count_contract.ended cell_count.Reads.Post
one_cell_count κs a x y u v p q = (p ∙⁻¹ q, refl)

pub one_leaf_list : One leaf_list_contract.ended leaf_list.Reads.Post
one_leaf_list κs a x y u v p q = (p.0 ∙⁻¹ q.0, λ i. (tt, ((p.1 ∙⁻¹ q.1) i, tt)))

pub one_cursor_list : One cursor_list_contract.ended cursor_list.Reads.Post
one_cursor_list κs a x y u v p q = (p.0 ∙⁻¹ q.0, λ i. (tt, ((p.1 ∙⁻¹ q.1) i, tt)))

pub one_report_order : One report_order_contract.ended report_order.Reads.Post
one_report_order κs a x y u v p q = (p.0 ∙⁻¹ q.0, λ i. (tt, ((p.1 ∙⁻¹ q.1) i, tt)))
