-- Lowering in the work room: each contract permits one outcome.
--
--   lower_ordered: lower_ordered *      ordered_in, lower_passes specs/Ordered
--   lower_arbitrate: arbitrate *        arbitrate_in, lower_passes specs/Arbitrate
--   lower_reach_node: put_entry *       entry_in, lower_passes specs/Reach
--   lower_reach_node: halt_one *        halt_in, lower_passes specs/Reach
--   lower_reach_node: untouched_one *   untouched_in, lower_passes specs/Reach
--   lower_reach_node: next_running *    flags_in, lower_passes specs/Reach
--   lower_reach_node: next_cursor *     cursor_in, lower_passes specs/Reach
--   lower_reach: reach *                reach_in, lower_passes specs/Reach
--   lower_build: build *                build_in, lower_passes specs/Build
use mathlib.Core.Path.{◌≡◌, refl, ◌∙⁻¹◌}
use Rattle.builder_table.specs.declared.lent.Builder.{Builder}
use Rattle.builder_table.specs.Work.{stood}
use Rattle.lower_passes.specs.declared.Decision.{Decision}
use Rattle.lower_passes.specs.declared.UpMark.{UpMark}
use Rattle.lower_passes.specs.declared.DownMark.{DownMark}
use Rattle.lower_passes.specs.Arbitrate.{Raised}
use Rattle.lower_passes.specs.Ordered.{Ordains}
use Rattle.lower_passes.specs.Reach.{Lowered}
use Rattle.lower_passes.specs.Loans.{Decides, Raises, Lowers}
use Rattle.lower_ordered.proofs.lower_ordered
use Rattle.lower_ordered.specs.contracts.lower_ordered as lower_ordered_contract
use Rattle.lower_arbitrate.proofs.arbitrate
use Rattle.lower_arbitrate.specs.contracts.arbitrate as arbitrate_contract
use Rattle.lower_reach_node.proofs.put_entry
use Rattle.lower_reach_node.specs.contracts.put_entry as put_entry_contract
use Rattle.lower_reach_node.proofs.halt_one
use Rattle.lower_reach_node.specs.contracts.halt_one as halt_one_contract
use Rattle.lower_reach_node.proofs.untouched_one
use Rattle.lower_reach_node.specs.contracts.untouched_one as untouched_one_contract
use Rattle.lower_reach_node.proofs.next_running
use Rattle.lower_reach_node.specs.contracts.next_running as next_running_contract
use Rattle.lower_reach_node.proofs.next_cursor
use Rattle.lower_reach_node.specs.contracts.next_cursor as next_cursor_contract
use Rattle.lower_reach.proofs.reach
use Rattle.lower_reach.specs.contracts.reach as reach_contract
use Rattle.lower_build.proofs.build
use Rattle.lower_build.specs.contracts.build as build_contract
use Rattle.unique.specs.One.{OneLeft}
use Rattle.unique.specs.Left.{Built, built}
use Rattle.unique.proofs.Builder.{names, decided_in_place, left_in_place}

-- ---- what a step of a pass answers, and what is left

orders : {a b c : Builder} {d e : Decision} {o : Ordains} → Decides a b d o → Decides a c e o → (d ≡ e) × (built b ≡ built c)
orders {a = a} {b = b} {c = c} p q =
    let same = p.made ∙⁻¹ q.made in let named = names a b c p.lent q.lent in (
      λ i. record { advance = (same i).ordered.advance; other = (same i).ordered.other; run = (same i).ordered.run; cursor = (same i).ordered.cursor },
      λ i. (named i, stood (same i).mem (same i).ordered.builder),
    )

lowers : {a b c : Builder} {d e : DownMark} {o : Lowered} → Lowers a b d o → Lowers a c e o → (d ≡ e) × (built b ≡ built c)
lowers {a = a} {b = b} {c = c} p q =
    let same = p.made ∙⁻¹ q.made in let named = names a b c p.lent q.lent in
    (λ i. record { depth = (same i).down.depth; row = (same i).down.row; cell = (same i).down.cell }, λ i. (named i, stood (same i).mem (same i).down.builder))

raises : {a b c : Builder} {d e : UpMark} {o : Raised} → Raises a b d o → Raises a c e o → (d ≡ e) × (built b ≡ built c)
raises {a = a} {b = b} {c = c} p q =
    let same = p.made ∙⁻¹ q.made in let named = names a b c p.lent q.lent in (
      λ i. record { depth = (same i).up.depth; row = (same i).up.row; slot = (same i).up.slot; cell = (same i).up.cell },
      λ i. (named i, stood (same i).mem (same i).up.builder),
    )

-- ---- the passes

pub one_ordered : OneLeft lower_ordered_contract.ended lower_ordered.Reads.Post Built (λ κs a u. built u.0)
one_ordered κs a x y u v p q = orders p q

pub one_arbitration : OneLeft arbitrate_contract.ended arbitrate.Reads.Post Built (λ κs a u. built u.0)
one_arbitration κs a x y u v p q = raises p.0 q.0

pub one_entry : OneLeft put_entry_contract.ended put_entry.Reads.Post Built (λ κs a u. built u.0)
one_entry κs a x y u v p q = (refl, left_in_place p q)

pub one_halt : OneLeft halt_one_contract.ended halt_one.Reads.Post Built (λ κs a u. built u.0)
one_halt κs a x y u v p q = decided_in_place p q

pub one_untouched : OneLeft untouched_one_contract.ended untouched_one.Reads.Post Built (λ κs a u. built u.0)
one_untouched κs a x y u v p q = (refl, left_in_place p q)

pub one_next_running : OneLeft next_running_contract.ended next_running.Reads.Post Built (λ κs a u. built u.0)
one_next_running κs a x y u v p q = (refl, left_in_place p q)

pub one_next_cursor : OneLeft next_cursor_contract.ended next_cursor.Reads.Post Built (λ κs a u. built u.0)
one_next_cursor κs a x y u v p q = (refl, left_in_place p q)

pub one_reach : OneLeft reach_contract.ended reach.Reads.Post Built (λ κs a u. built u.0)
one_reach κs a x y u v p q = lowers p q

pub one_build : OneLeft build_contract.ended build.Reads.Post Built (λ κs a u. built u.0)
one_build κs a x y u v p q = (refl, left_in_place p q)
