-- The arena: each contract permits one outcome.
--
--   arena_room: Room::refuse        constant_form 0, and the flag fallen
--   arena_room: Room::take *        the terms up to a mark
--   arena_room: Room::fits_single   single_fits, specs/Fits
--   arena_room: Room::fits_sum      fits_sum, specs/Fits
--   arena_room: Room::fits_scaled   fits_scaled, specs/Fits
--   arena_terms: merge_terms *      kept of merge, specs/Sums
--   arena_terms: scale_terms *      scaled_terms, specs/Sums
--   arena: offset                   offset_form, specs/Arena
--   arena: Arena::single            single_in, specs/Arena
--   arena: Arena::plus              plus_in, specs/Arena
--   arena: Arena::scaled            scaled_in, specs/Arena
--   arena: Arena::one_minus         one_minus_in, specs/Arena
use mathlib.Core.Path.{◌≡◌, Path, refl, ◌∙⁻¹◌}
use mathlib.Core.List.{List}
use Prim.Native.Nat.{ℕ}
use lib.Ieee.{Float}
use Rattle.wire.specs.declared.Form.{Form}
use Rattle.wire.specs.declared.Term.{Term}
use Rattle.arena_terms.specs.Steps.{Put}
use Rattle.arena.specs.declared.Arena.{Arena}
use Rattle.arena.specs.Arena.{Outcome, Leaves, formed}
use Rattle.arena.specs.Loans.{LentAs}
use Rattle.arena_room.proofs.Room.refuse as refuse
use Rattle.arena_room.specs.contracts.Room.refuse as refuse_contract
use Rattle.arena_room.proofs.Room.take as take
use Rattle.arena_room.specs.contracts.Room.take as take_contract
use Rattle.arena_room.proofs.Room.fits_single as fits_single
use Rattle.arena_room.specs.contracts.Room.fits_single as fits_single_contract
use Rattle.arena_room.proofs.Room.fits_sum as fits_sum
use Rattle.arena_room.specs.contracts.Room.fits_sum as fits_sum_contract
use Rattle.arena_room.proofs.Room.fits_scaled as fits_scaled
use Rattle.arena_room.specs.contracts.Room.fits_scaled as fits_scaled_contract
use Rattle.arena_terms.proofs.merge_terms
use Rattle.arena_terms.specs.contracts.merge_terms as merge_terms_contract
use Rattle.arena_terms.proofs.scale_terms
use Rattle.arena_terms.specs.contracts.scale_terms as scale_terms_contract
use Rattle.arena.proofs.offset
use Rattle.arena.specs.contracts.offset as offset_contract
use Rattle.arena.proofs.Arena.single as single
use Rattle.arena.specs.contracts.Arena.single as single_contract
use Rattle.arena.proofs.Arena.plus as plus
use Rattle.arena.specs.contracts.Arena.plus as plus_contract
use Rattle.arena.proofs.Arena.scaled as scaled
use Rattle.arena.specs.contracts.Arena.scaled as scaled_contract
use Rattle.arena.proofs.Arena.one_minus as one_minus
use Rattle.arena.specs.contracts.Arena.one_minus as one_minus_contract
use Rattle.unique.specs.One.{One, OneLeft}
use Rattle.unique.specs.Left.{Pooled, pools}

-- ---- room

pub one_refuse : One refuse_contract.ended refuse.Reads.Post
one_refuse κs a x y u v p q = (p.0 ∙⁻¹ q.0, λ i. ((p.1 ∙⁻¹ q.1) i, u.1))

pub one_take : One take_contract.ended take.Reads.Post
one_take κs a x y u v p q = (p.0 ∙⁻¹ q.0, λ i. ((p.1 ∙⁻¹ q.1) i, u.1))

pub one_fits_single : One fits_single_contract.ended fits_single.Reads.Post
one_fits_single κs a x y u v p q = (p ∙⁻¹ q, refl)

pub one_fits_sum : One fits_sum_contract.ended fits_sum.Reads.Post
one_fits_sum κs a x y u v p q = (p ∙⁻¹ q, refl)

pub one_fits_scaled : One fits_scaled_contract.ended fits_scaled.Reads.Post
one_fits_scaled κs a x y u v p q = (p ∙⁻¹ q, refl)

-- ---- terms put into the two pools

put : {R : Type 0} {rest : R} {ws : List ℕ} {cs : List Float} {at : ℕ} {ts : List Term} {ws₁ ws₂ : List ℕ} {cs₁ cs₂ : List Float} {x y : ℕ}
    → Put ws cs at ts ws₁ cs₁ x → Put ws cs at ts ws₂ cs₂ y → (x ≡ y) × Path (List ℕ × (List Float × R)) (ws₁, (cs₁, rest)) (ws₂, (cs₂, rest))
put {rest = rest} p q = (p.used ∙⁻¹ q.used, λ i. ((p.wires ∙⁻¹ q.wires) i, ((p.coefs ∙⁻¹ q.coefs) i, rest)))

pub one_merge : One merge_terms_contract.ended merge_terms.Reads.Post
one_merge κs a x y u v p q = put p q

pub one_scaling : One scale_terms_contract.ended scale_terms.Reads.Post
one_scaling κs a x y u v p q = put p q

-- ---- forms made in the arena

pub one_offset : One offset_contract.ended offset.Reads.Post
one_offset κs a x y u v p q = (p ∙⁻¹ q, refl)

pub made : {o : Outcome} (d a b : Arena) {x y : Form} → LentAs d a → LentAs d b
    → Leaves o a.wires.now a.coefs.now (formed x a.room) → Leaves o b.wires.now b.coefs.now (formed y b.room) → (x ≡ y) × (pools a ≡ pools b)
made d a b l m p q = (
  p.form ∙⁻¹ q.form,
  λ i. (((l.0 ∙⁻¹ m.0) i, (l.1 ∙⁻¹ m.1) i), ((p.wires ∙⁻¹ q.wires) i, ((p.coefs ∙⁻¹ q.coefs) i, (p.room ∙⁻¹ q.room) i))),
)

pub one_single : OneLeft single_contract.ended single.Reads.Post Pooled (λ κs a u. pools u.0)
one_single κs a x y u v p q = made a.0.now u.0 v.0 p.0 q.0 p.1 q.1

pub one_plus : OneLeft plus_contract.ended plus.Reads.Post Pooled (λ κs a u. pools u.0)
one_plus κs a x y u v p q = made a.0.now u.0 v.0 p.0 q.0 p.1 q.1

pub one_scaled : OneLeft scaled_contract.ended scaled.Reads.Post Pooled (λ κs a u. pools u.0)
one_scaled κs a x y u v p q = made a.0.now u.0 v.0 p.0 q.0 p.1 q.1

pub one_one_minus : OneLeft one_minus_contract.ended one_minus.Reads.Post Pooled (λ κs a u. pools u.0)
one_one_minus κs a x y u v p q = made a.0.now u.0 v.0 p.0 q.0 p.1 q.1
