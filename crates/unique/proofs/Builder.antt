-- The builder and status bits: each contract permits one outcome.
--
--   builder_table: Builder::load *      loaded, specs/Work
--   builder_table: Builder::save *      saved, specs/Work
--   builder_table: Builder::wire_form   wire_in, specs/Steps
--   builder_table: Builder::plus        plus_in, specs/Steps
--   builder_table: Builder::scaled      scaled_in, specs/Steps
--   builder_table: Builder::one_minus   one_minus_in, specs/Steps
--   builder_table: Builder::push        push_in, specs/Steps
--   builder_table: Builder::full        full_in, specs/Steps
--   builder_table: Builder::standing    standing, specs/Loans
--   builder: Bit::constant              bit_form, specs/Bits
--   builder: not                        one_minus_in, arena specs/Arena
--   builder: or_disjoint                plus_in, arena specs/Arena
--   builder: is_zero                    is_zero_in, specs/Bits
--   builder: at_least                   at_least_in, specs/Bits
--   builder: and                        and_in, specs/Bits
--   builder: or                         or_in, specs/Bits
--   status: StatusBits::unticked        unticked_bits, specs/Bits
--   status: StatusBits::constant        with_bit, specs/Bits
--   status: StatusBits::with            with_bit, specs/Bits
--   status: StatusBits::inverted        inverted_bits, specs/Bits
--   status: StatusBits::forced          forced_bits, specs/Bits
--   status: finished                    plus_in, arena specs/Arena
use mathlib.Core.Path.{◌≡◌, refl, ◌∙⁻¹◌}
use Rattle.wire.specs.declared.Form.{Form}
use Rattle.builder_table.specs.declared.lent.Builder.{Builder}
use Rattle.builder_table.specs.Work.{Ended, Stood, stood}
use Rattle.builder_table.specs.Loans.{LentAs, Makes, Leaves}
use Rattle.builder.specs.declared.Bit.{Bit}
use Rattle.arena.specs.declared.Arena.{Arena}
use Rattle.arena.specs.Arena.{Outcome, formed, Leaves as ArenaLeaves}
use Rattle.arena.specs.Loans.{LentAs as ArenaLentAs}
use Rattle.unique.proofs.Arena.{made as arena_made}
use Rattle.builder_table.proofs.Builder.standing as standing
use Rattle.builder_table.specs.contracts.Builder.standing as standing_contract
use Rattle.builder_table.proofs.Builder.load as load
use Rattle.builder_table.specs.contracts.Builder.load as load_contract
use Rattle.builder_table.proofs.Builder.save as save
use Rattle.builder_table.specs.contracts.Builder.save as save_contract
use Rattle.builder_table.proofs.Builder.wire_form as wire_form
use Rattle.builder_table.specs.contracts.Builder.wire_form as wire_form_contract
use Rattle.builder_table.proofs.Builder.plus as plus
use Rattle.builder_table.specs.contracts.Builder.plus as plus_contract
use Rattle.builder_table.proofs.Builder.scaled as scaled
use Rattle.builder_table.specs.contracts.Builder.scaled as scaled_contract
use Rattle.builder_table.proofs.Builder.one_minus as one_minus
use Rattle.builder_table.specs.contracts.Builder.one_minus as one_minus_contract
use Rattle.builder_table.proofs.Builder.push as push
use Rattle.builder_table.specs.contracts.Builder.push as push_contract
use Rattle.builder_table.proofs.Builder.full as full
use Rattle.builder_table.specs.contracts.Builder.full as full_contract
use Rattle.builder.proofs.Bit.constant as constant_bit
use Rattle.builder.specs.contracts.Bit.constant as constant_bit_contract
use Rattle.builder.proofs.not
use Rattle.builder.specs.contracts.not as not_contract
use Rattle.builder.proofs.or_disjoint
use Rattle.builder.specs.contracts.or_disjoint as or_disjoint_contract
use Rattle.builder.proofs.is_zero
use Rattle.builder.specs.contracts.is_zero as is_zero_contract
use Rattle.builder.proofs.at_least
use Rattle.builder.specs.contracts.at_least as at_least_contract
use Rattle.builder.proofs.and
use Rattle.builder.specs.contracts.and as and_contract
use Rattle.builder.proofs.or
use Rattle.builder.specs.contracts.or as or_contract
use Rattle.status.proofs.StatusBits.unticked as unticked
use Rattle.status.specs.contracts.StatusBits.unticked as unticked_contract
use Rattle.status.proofs.StatusBits.constant as constant
use Rattle.status.specs.contracts.StatusBits.constant as constant_contract
use Rattle.status.proofs.StatusBits.with as with
use Rattle.status.specs.contracts.StatusBits.with as with_contract
use Rattle.status.proofs.StatusBits.inverted as inverted
use Rattle.status.specs.contracts.StatusBits.inverted as inverted_contract
use Rattle.status.proofs.StatusBits.forced as forced
use Rattle.status.specs.contracts.StatusBits.forced as forced_contract
use Rattle.status.proofs.finished
use Rattle.status.specs.contracts.finished as finished_contract
use Rattle.unique.specs.One.{One, OneLeft}
use Rattle.unique.specs.Left.{Built, built, Pooled, pools}

-- ---- what is made, or decided, and what is left

-- the same is made, the slices hold the same, and building stands at the same place, from whatever builder
pub made : {a a' b c : Builder} {f g : Form} {o : Ended} → Makes a b f o → Makes a' c g o → (f ≡ g) × ((built b).1 ≡ (built c).1)
made p q = let same = p.made ∙⁻¹ q.made in (λ i. (same i).form, λ i. stood (same i).mem (same i).builder)

pub decided : {a a' b c : Builder} {f g : Bit} {o : Ended} → Makes a b f.0 o → Makes a' c g.0 o → (f ≡ g) × ((built b).1 ≡ (built c).1)
decided p q = let same = made p q in (λ i. record { 0 = same.0 i }, same.1)

pub left : {a a' b c : Builder} {o : Stood} → Leaves a b o → Leaves a' c o → (built b).1 ≡ (built c).1
left p q = p.left ∙⁻¹ q.left

-- what is lent stays lent: its names
pub names : (a b c : Builder) → LentAs a b → LentAs a c → (built b).0 ≡ (built c).0
names a b c p q = λ i. ((p.0.0 ∙⁻¹ q.0.0) i, ((p.0.1 ∙⁻¹ q.0.1) i, ((p.1 ∙⁻¹ q.1) i, (p.2 ∙⁻¹ q.2) i)))

-- from one builder, in the same slices too
in_place : (a b c : Builder) → LentAs a b → LentAs a c → (built b).1 ≡ (built c).1 → built b ≡ built c
in_place a b c p q same = let named = names a b c p q in λ i. (named i, same i)

pub made_in_place : {a b c : Builder} {f g : Form} {o : Ended} → Makes a b f o → Makes a c g o → (f ≡ g) × (built b ≡ built c)
made_in_place {a = a} {b = b} {c = c} p q = let same = made p q in (same.0, in_place a b c p.lent q.lent same.1)

pub decided_in_place : {a b c : Builder} {f g : Bit} {o : Ended} → Makes a b f.0 o → Makes a c g.0 o → (f ≡ g) × (built b ≡ built c)
decided_in_place {a = a} {b = b} {c = c} p q = let same = decided p q in (same.0, in_place a b c p.lent q.lent same.1)

pub left_in_place : {a b c : Builder} {o : Stood} → Leaves a b o → Leaves a c o → built b ≡ built c
left_in_place {a = a} {b = b} {c = c} p q = in_place a b c p.lent q.lent (left p q)

-- ---- builder_table

pub one_load : One load_contract.ended load.Reads.Post
one_load κs a x y u v p q = (p ∙⁻¹ q, refl)

pub one_save : OneLeft save_contract.ended save.Reads.Post Built (λ κs a u. built u.0)
one_save κs a x y u v p q = (refl, left_in_place p q)

pub one_wire_form : OneLeft wire_form_contract.ended wire_form.Reads.Post Built (λ κs a u. built u.0)
one_wire_form κs a x y u v p q = made_in_place p q

pub one_plus : OneLeft plus_contract.ended plus.Reads.Post Built (λ κs a u. built u.0)
one_plus κs a x y u v p q = made_in_place p q

pub one_scaled : OneLeft scaled_contract.ended scaled.Reads.Post Built (λ κs a u. built u.0)
one_scaled κs a x y u v p q = made_in_place p q

pub one_one_minus : OneLeft one_minus_contract.ended one_minus.Reads.Post Built (λ κs a u. built u.0)
one_one_minus κs a x y u v p q = made_in_place p q

pub one_push : OneLeft push_contract.ended push.Reads.Post Built (λ κs a u. built u.0)
one_push κs a x y u v p q = made_in_place p q

pub one_standing : One standing_contract.ended standing.Reads.Post
one_standing κs a x y u v p q = (p ∙⁻¹ q, refl)

pub one_full : OneLeft full_contract.ended full.Reads.Post Built (λ κs a u. built u.0)
one_full κs a x y u v p q = made_in_place p q

-- ---- builder

pub one_constant_bit : One constant_bit_contract.ended constant_bit.Reads.Post
one_constant_bit κs a x y u v p q = (λ i. record { 0 = (p ∙⁻¹ q) i }, refl)

-- a bit made in the arena
bit_made : {o : Outcome} (d a b : Arena) {x y : Bit} → ArenaLentAs d a → ArenaLentAs d b
    → ArenaLeaves o a.wires.now a.coefs.now (formed x.0 a.room) → ArenaLeaves o b.wires.now b.coefs.now (formed y.0 b.room)
    → (x ≡ y) × (pools a ≡ pools b)
bit_made d a b l m p q = let same = arena_made d a b l m p q in (λ i. record { 0 = same.0 i }, same.1)

pub one_not : OneLeft not_contract.ended not.Reads.Post Pooled (λ κs a u. pools u.0)
one_not κs a x y u v p q = bit_made a.0.now u.0 v.0 p.0 q.0 p.1 q.1

pub one_or_disjoint : OneLeft or_disjoint_contract.ended or_disjoint.Reads.Post Pooled (λ κs a u. pools u.0)
one_or_disjoint κs a x y u v p q = bit_made a.0.now u.0 v.0 p.0 q.0 p.1 q.1

pub one_is_zero : OneLeft is_zero_contract.ended is_zero.Reads.Post Built (λ κs a u. built u.0)
one_is_zero κs a x y u v p q = decided_in_place p q

pub one_at_least : OneLeft at_least_contract.ended at_least.Reads.Post Built (λ κs a u. built u.0)
one_at_least κs a x y u v p q = decided_in_place p q

pub one_and : OneLeft and_contract.ended and.Reads.Post Built (λ κs a u. built u.0)
one_and κs a x y u v p q = decided_in_place p q

pub one_or : OneLeft or_contract.ended or.Reads.Post Built (λ κs a u. built u.0)
one_or κs a x y u v p q = decided_in_place p q

-- ---- status

pub one_unticked : One unticked_contract.ended unticked.Reads.Post
one_unticked κs a x y u v p q = (p ∙⁻¹ q, refl)

pub one_constant : One constant_contract.ended constant.Reads.Post
one_constant κs a x y u v p q = (p ∙⁻¹ q, refl)

pub one_with : One with_contract.ended with.Reads.Post
one_with κs a x y u v p q = (p ∙⁻¹ q, refl)

pub one_inverted : One inverted_contract.ended inverted.Reads.Post
one_inverted κs a x y u v p q = (p ∙⁻¹ q, refl)

pub one_forced : One forced_contract.ended forced.Reads.Post
one_forced κs a x y u v p q = (p ∙⁻¹ q, refl)

pub one_finished : OneLeft finished_contract.ended finished.Reads.Post Pooled (λ κs a u. pools u.0)
one_finished κs a x y u v p q = bit_made a.0.now u.0 v.0 p.0 q.0 p.1 q.1
