-- The functions for C: each contract permits one outcome.
--
--   palthengi: palthengi_compile    tell_made, specs/Compilation. The work room: zeros
--   palthengi: palthengi_check      check_number, tick_refusal specs/Refusal
--   palthengi: palthengi_tick       tell, tick_refusal specs/Refusal
--   palthengi: palthengi_validate   of_validated, tick_refusal specs/Refusal
--   wire_c: palthengi_value         answer_of, specs/Answers
--   wire_c: palthengi_op_value      answer_of, specs/Answers
--   wire_c: palthengi_evaluate      ended_of, specs/Answers; table_left, wire_eval specs/Evaluation
--   wire_c: palthengi_layers        layered_number, layers_left, wire_layers specs/Layers
--   wire_c: palthengi_depth         largest, wire_layers specs/Layers
--   arena_c: palthengi_plus         plus_in, arena specs/Arena; row_of, specs/Flat
--   arena_c: palthengi_scaled       scaled_in, arena specs/Arena; row_of, specs/Flat
--   arena_c: palthengi_one_minus    one_minus_in, arena specs/Arena; row_of, specs/Flat
use mathlib.Core.Path.{Path, ◌≡◌, refl, ◌∙⁻¹◌}
use mathlib.Core.List.{List}
use Prim.Native.Nat.{ℕ}
use lib.Ieee.{Float}
use Rattle.arena.specs.Arena.{Outcome}
use denote.Triple.Entry.{Args}
use denote.Triple.Clauses.{Lasts}
use Rattle.tick_lane.specs.Lane.{Lent}
use Rattle.arena_c.specs.declared.Row.{Row}
use Rattle.arena_c.specs.Flat.{Leaves}
use Rattle.palthengi.proofs.palthengi_compile
use Rattle.palthengi.specs.contracts.palthengi_compile as palthengi_compile_contract
use Rattle.palthengi.proofs.palthengi_check
use Rattle.palthengi.specs.contracts.palthengi_check as palthengi_check_contract
use Rattle.palthengi.proofs.palthengi_tick
use Rattle.palthengi.specs.contracts.palthengi_tick as palthengi_tick_contract
use Rattle.palthengi.proofs.palthengi_validate
use Rattle.palthengi.specs.contracts.palthengi_validate as palthengi_validate_contract
use Rattle.wire_c.proofs.palthengi_value
use Rattle.wire_c.specs.contracts.palthengi_value as palthengi_value_contract
use Rattle.wire_c.proofs.palthengi_op_value
use Rattle.wire_c.specs.contracts.palthengi_op_value as palthengi_op_value_contract
use Rattle.wire_c.proofs.palthengi_evaluate
use Rattle.wire_c.specs.contracts.palthengi_evaluate as palthengi_evaluate_contract
use Rattle.wire_c.proofs.palthengi_layers
use Rattle.wire_c.specs.contracts.palthengi_layers as palthengi_layers_contract
use Rattle.wire_c.proofs.palthengi_depth
use Rattle.wire_c.specs.contracts.palthengi_depth as palthengi_depth_contract
use Rattle.arena_c.proofs.palthengi_plus
use Rattle.arena_c.specs.contracts.palthengi_plus as palthengi_plus_contract
use Rattle.arena_c.proofs.palthengi_scaled
use Rattle.arena_c.specs.contracts.palthengi_scaled as palthengi_scaled_contract
use Rattle.arena_c.proofs.palthengi_one_minus
use Rattle.arena_c.specs.contracts.palthengi_one_minus as palthengi_one_minus_contract
use Rattle.unique.specs.One.{Lifetimes, One}

pub one_compilation : One palthengi_compile_contract.ended palthengi_compile.Reads.Post
one_compilation κs a x y u v p q =
    let same = p.0 ∙⁻¹ q.0 in
    let nums = p.1.0 ∙⁻¹ q.1.0 in
    let biases = p.1.1 ∙⁻¹ q.1.1 in
    let wires = p.1.2 ∙⁻¹ q.1.2 in
    let coefs = p.1.3 ∙⁻¹ q.1.3 in (
      λ i. (same i).answer,
      λ i. (tt, ((same i).nums, ((same i).biases, ((same i).wires, ((same i).coefs, (nums i, (biases i, (wires i, (coefs i, tt))))))))),
    )

pub one_check : One palthengi_check_contract.ended palthengi_check.Reads.Post
one_check κs a x y u v p q = (p ∙⁻¹ q, refl)

-- what a tick leaves: six parameters before these are not written
abbrev left : (κs : Lifetimes palthengi_tick_contract.ended) (a : Args (palthengi_tick_contract.ended).signature κs) → Lent → Lasts palthengi_tick_contract.ended κs a
left κs a l = (tt, (tt, (tt, (tt, (tt, (tt, (l.flags, (l.cursors, (l.values, (l.statuses, (l.halts, (l.edges, tt))))))))))))

pub one_tick : One palthengi_tick_contract.ended palthengi_tick.Reads.Post
one_tick κs a x y u v p q = let same = p ∙⁻¹ q in (λ i. (same i).answer, λ i. left κs a (same i).left)

pub one_validation : One palthengi_validate_contract.ended palthengi_validate.Reads.Post
one_validation κs a x y u v p q = (p ∙⁻¹ q, refl)

pub one_value : One palthengi_value_contract.ended palthengi_value.Reads.Post
one_value κs a x y u v p q = (p ∙⁻¹ q, refl)

pub one_op_value : One palthengi_op_value_contract.ended palthengi_op_value.Reads.Post
one_op_value κs a x y u v p q = (p ∙⁻¹ q, refl)

pub one_evaluation : One palthengi_evaluate_contract.ended palthengi_evaluate.Reads.Post
one_evaluation κs a x y u v p q = (p.0 ∙⁻¹ q.0, λ i. (tt, (tt, (tt, (tt, (tt, ((p.1 ∙⁻¹ q.1) i, tt)))))))

pub one_layering : One palthengi_layers_contract.ended palthengi_layers.Reads.Post
one_layering κs a x y u v p q = (p.0 ∙⁻¹ q.0, λ i. (tt, (tt, (tt, (tt, ((p.1 ∙⁻¹ q.1) i, tt))))))

pub one_depth : One palthengi_depth_contract.ended palthengi_depth.Reads.Post
one_depth κs a x y u v p q = (p ∙⁻¹ q, refl)

row : {R : Type 0} {rest : R} {o : Outcome} {ws₁ ws₂ : List ℕ} {cs₁ cs₂ : List Float} {x y : Row} → Leaves o ws₁ cs₁ x → Leaves o ws₂ cs₂ y
    → (x ≡ y) × Path (List ℕ × (List Float × R)) (ws₁, (cs₁, rest)) (ws₂, (cs₂, rest))
row {rest = rest} p q = (p.row ∙⁻¹ q.row, λ i. ((p.wires ∙⁻¹ q.wires) i, ((p.coefs ∙⁻¹ q.coefs) i, rest)))

pub one_plus : One palthengi_plus_contract.ended palthengi_plus.Reads.Post
one_plus κs a x y u v p q = row p q

pub one_scaled : One palthengi_scaled_contract.ended palthengi_scaled.Reads.Post
one_scaled κs a x y u v p q = row p q

pub one_one_minus : One palthengi_one_minus_contract.ended palthengi_one_minus.Reads.Post
one_one_minus κs a x y u v p q = row p q
