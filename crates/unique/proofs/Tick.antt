-- The tick: each contract permits one outcome.
--
--   tick_check: is_circuit           circuit_ok, specs/Check; 17
--   tick_verdict: values_verdict *   values_verdict, specs/Verdict
--   tick_verdict: tick_verdict *     tick_verdict, specs/Verdict; 18
--   tick_lane: read_outs *           out_value, specs/Evaluate
--   tick_lane: lane *                lane_of, specs/Lane; 15, 16 and 18
--   tick: tick                       tick_of, specs/Tick; 11 to 18
--   tick_refusal: of_validated       of_validated, specs/Refusal
--   tick_refusal: of_ticked          of_ticked, specs/Refusal
--   tick_report: ticked              ticked_of, specs/Report
--   tick_report: halts               halts_of, specs/Report
--   validate: validate               validate_of, specs/Validate
use mathlib.Core.Path.{◌≡◌, refl, ◌∙⁻¹◌}
use Rattle.tick_check.proofs.is_circuit
use Rattle.tick_check.specs.contracts.is_circuit as is_circuit_contract
use Rattle.tick_verdict.proofs.values_verdict
use Rattle.tick_verdict.specs.contracts.values_verdict as values_verdict_contract
use Rattle.tick_verdict.proofs.tick_verdict
use Rattle.tick_verdict.specs.contracts.tick_verdict as tick_verdict_contract
use Rattle.tick_lane.proofs.read_outs
use Rattle.tick_lane.specs.contracts.read_outs as read_outs_contract
use Rattle.tick_lane.proofs.lane
use Rattle.tick_lane.specs.contracts.lane as lane_contract
use Rattle.tick.proofs.tick
use Rattle.tick.specs.contracts.tick as tick_contract
use Rattle.tick_refusal.proofs.of_validated
use Rattle.tick_refusal.specs.contracts.of_validated as of_validated_contract
use Rattle.tick_refusal.proofs.of_ticked
use Rattle.tick_refusal.specs.contracts.of_ticked as of_ticked_contract
use Rattle.tick_report.proofs.ticked
use Rattle.tick_report.specs.contracts.ticked as ticked_contract
use Rattle.tick_report.proofs.halts
use Rattle.tick_report.specs.contracts.halts as halts_contract
use Rattle.validate.proofs.validate
use Rattle.validate.specs.contracts.validate as validate_contract
use Rattle.tick_lane.specs.declared.lent.Lane.{Lane}
use Rattle.tick_lane.specs.Loans.{LentAs}
use Rattle.unique.specs.One.{One, OneLeft}
use Rattle.unique.specs.Left.{Laid, in_lane}

pub one_check : One is_circuit_contract.ended is_circuit.Reads.Post
one_check κs a x y u v p q = (p ∙⁻¹ q, refl)

pub one_values_verdict : One values_verdict_contract.ended values_verdict.Reads.Post
one_values_verdict κs a x y u v p q = (p ∙⁻¹ q, refl)

pub one_tick_verdict : One tick_verdict_contract.ended tick_verdict.Reads.Post
one_tick_verdict κs a x y u v p q = (p ∙⁻¹ q, refl)

pub one_outs : One read_outs_contract.ended read_outs.Reads.Post
one_outs κs a x y u v p q = (refl, λ i. (tt, (tt, ((p ∙⁻¹ q) i, tt))))

-- what is lent stays lent: its names
lane_names : (a b c : Lane) → LentAs a b → LentAs a c → (in_lane b).0 ≡ (in_lane c).0
lane_names a b c p q =
    λ i. (((p.0 ∙⁻¹ q.0) i, ((p.1 ∙⁻¹ q.1) i, (p.2 ∙⁻¹ q.2) i)), ((p.3 ∙⁻¹ q.3) i, ((p.4 ∙⁻¹ q.4) i, (p.5 ∙⁻¹ q.5) i)))

pub one_lane : OneLeft lane_contract.ended lane.Reads.Post Laid (λ κs a u. in_lane u.1.1.0)
one_lane κs a x y u v p q = let same = p.1 ∙⁻¹ q.1 in (λ i. (same i).answer, λ i. (lane_names a.1.1.0.now u.1.1.0 v.1.1.0 p.0 q.0 i, (same i).left))

pub one_tick : OneLeft tick_contract.ended tick.Reads.Post Laid (λ κs a u. in_lane u.1.1.0)
one_tick κs a x y u v p q = let same = p.1 ∙⁻¹ q.1 in (λ i. (same i).answer, λ i. (lane_names a.1.1.0.now u.1.1.0 v.1.1.0 p.0 q.0 i, (same i).left))

pub one_of_validated : One of_validated_contract.ended of_validated.Reads.Post
one_of_validated κs a x y u v p q = (p ∙⁻¹ q, refl)

pub one_of_ticked : One of_ticked_contract.ended of_ticked.Reads.Post
one_of_ticked κs a x y u v p q = (p ∙⁻¹ q, refl)

pub one_ticked_list : One ticked_contract.ended ticked.Reads.Post
one_ticked_list κs a x y u v p q = let same = p ∙⁻¹ q in (λ i. (same i).answer, λ i. (tt, (tt, ((same i).nodes, ((same i).marks, tt)))))

pub one_halt_list : One halts_contract.ended halts.Reads.Post
one_halt_list κs a x y u v p q = let same = p ∙⁻¹ q in (λ i. (same i).answer, λ i. (tt, (tt, ((same i).nodes, tt))))

pub one_verdict : One validate_contract.ended validate.Reads.Post
one_verdict κs a x y u v p q = (p ∙⁻¹ q, refl)
