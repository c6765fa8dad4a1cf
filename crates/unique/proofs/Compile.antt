-- Compiling: each contract permits one outcome.
--
--   lower_emit: roomy           roomy, compile specs/Compile; 14
--   lower_emit: wipe            zeros
--   lower_emit: wipe_work       zeros
--   lower_emit: write_lists *   listed_in, specs/Settle
--   lower_emit: settle *        settled_in, specs/Settle; 9 and 10
--   lower_tree: lower_tree *    compile_tree, compile specs/Compile
--   lower: compile              compile_of, compile specs/Compile; 1 to 10 and 14. The work room: zeros
use mathlib.Core.Path.{Path, ◌≡◌, refl, ◌∙⁻¹◌}
use mathlib.Core.List.{List}
use Prim.Native.Nat.{ℕ}
use lib.Ieee.{Float}
use Rattle.wire.specs.declared.storage.Storage.{Storage}
use Rattle.wire.specs.Lending.{LentAs}
use Rattle.compile.specs.declared.WorkRoom.{WorkRoom}
use Rattle.compile.specs.Compile.{Outcome}
use Rattle.compile.specs.Lending.{LentAs as WorkLentAs}
use Rattle.lower_emit.proofs.roomy
use Rattle.lower_emit.specs.contracts.roomy as roomy_contract
use Rattle.lower_emit.proofs.wipe
use Rattle.lower_emit.specs.contracts.wipe as wipe_contract
use Rattle.lower_emit.proofs.wipe_work
use Rattle.lower_emit.specs.contracts.wipe_work as wipe_work_contract
use Rattle.lower_emit.proofs.write_lists
use Rattle.lower_emit.specs.contracts.write_lists as write_lists_contract
use Rattle.lower_emit.proofs.settle
use Rattle.lower_emit.specs.contracts.settle as settle_contract
use Rattle.lower_tree.proofs.lower_tree
use Rattle.lower_tree.specs.contracts.lower_tree as lower_tree_contract
use Rattle.lower.proofs.compile
use Rattle.lower.specs.contracts.compile as compile_contract
use Rattle.unique.specs.One.{One, OneLeft}
use Rattle.unique.specs.Left.{Names, Four, Held, in_storage, in_room}

pub one_roomy : One roomy_contract.ended roomy.Reads.Post
one_roomy κs a x y u v p q = (p ∙⁻¹ q, refl)

-- four slices that end as a contract says
pub four : {ns x₁ y₁ : List ℕ} {bs x₂ y₂ : List Float} {ws x₃ y₃ : List ℕ} {cs x₄ y₄ : List Float}
    → (x₁ ≡ ns) × (x₂ ≡ bs) × (x₃ ≡ ws) × (x₄ ≡ cs) → (y₁ ≡ ns) × (y₂ ≡ bs) × (y₃ ≡ ws) × (y₄ ≡ cs)
    → Path Four (x₁, (x₂, (x₃, x₄))) (y₁, (y₂, (y₃, y₄)))
four p q = λ i. ((p.0 ∙⁻¹ q.0) i, ((p.1 ∙⁻¹ q.1) i, ((p.2 ∙⁻¹ q.2) i, (p.3 ∙⁻¹ q.3) i)))

-- what is lent stays lent: its names
pub storage_names : (a b c : Storage) → LentAs a b → LentAs a c → (in_storage b).0 ≡ (in_storage c).0
storage_names a b c p q = λ i. ((p.0 ∙⁻¹ q.0) i, ((p.1 ∙⁻¹ q.1) i, ((p.2 ∙⁻¹ q.2) i, (p.3 ∙⁻¹ q.3) i)))

pub room_names : (a b c : WorkRoom) → WorkLentAs a b → WorkLentAs a c → (in_room b).0 ≡ (in_room c).0
room_names a b c p q = λ i. ((p.0 ∙⁻¹ q.0) i, ((p.1 ∙⁻¹ q.1) i, ((p.2 ∙⁻¹ q.2) i, (p.3 ∙⁻¹ q.3) i)))

-- the storage of an outcome
stored : {o₁ o₂ : Outcome} → o₁ ≡ o₂ → Path Four (o₁.nums, (o₁.biases, (o₁.wires, o₁.coefs))) (o₂.nums, (o₂.biases, (o₂.wires, o₂.coefs)))
stored same = λ i. ((same i).nums, ((same i).biases, ((same i).wires, (same i).coefs)))

pub one_wiping : OneLeft wipe_contract.ended wipe.Reads.Post Held (λ κs a u. in_storage u.0)
one_wiping κs a x y u v p q = (refl, λ i. (storage_names a.0.now u.0 v.0 p.0 q.0 i, four p.1 q.1 i))

pub one_work_wiping : OneLeft wipe_work_contract.ended wipe_work.Reads.Post Held (λ κs a u. in_room u.0)
one_work_wiping κs a x y u v p q = (refl, λ i. (room_names a.0.now u.0 v.0 p.0 q.0 i, four p.1 q.1 i))

pub one_lists : OneLeft write_lists_contract.ended write_lists.Reads.Post Held (λ κs a u. in_storage u.0)
one_lists κs a x y u v p q =
    let lists = four (p.1.0, p.1.1.0.0, p.1.1.0.1, p.1.1.0.2) (q.1.0, q.1.1.0.0, q.1.1.0.1, q.1.1.0.2) in
    (p.1.1.1.0 ∙⁻¹ q.1.1.1.0, λ i. (storage_names a.0.now u.0 v.0 p.0 q.0 i, lists i))

pub one_settling : OneLeft settle_contract.ended settle.Reads.Post Held (λ κs a u. in_storage u.0)
one_settling κs a x y u v p q = let same = p.1 ∙⁻¹ q.1 in (λ i. (same i).answer, λ i. (storage_names a.0.now u.0 v.0 p.0 q.0 i, stored same i))

-- of the work room it says which slices it holds, and no more
pub one_lowering : OneLeft lower_tree_contract.ended lower_tree.Reads.Post (Held × Names) (λ κs a u. (in_storage u.1.0, (in_room u.1.1.0).0))
one_lowering κs a x y u v p q =
    let same = p.1 ∙⁻¹ q.1 in (
      λ i. (same i).answer,
      λ i. ((storage_names a.1.0.now u.1.0 v.1.0 p.0.0 q.0.0 i, stored same i), room_names a.1.1.0.now u.1.1.0 v.1.1.0 p.0.1 q.0.1 i),
    )

pub one_compilation : OneLeft compile_contract.ended compile.Reads.Post (Held × Held) (λ κs a u. (in_storage u.1.0, in_room u.1.1.0))
one_compilation κs a x y u v p q =
    let same = p.1.0 ∙⁻¹ q.1.0 in (
      λ i. (same i).answer,
      λ i. (
        (storage_names a.1.0.now u.1.0 v.1.0 p.0.0 q.0.0 i, stored same i),
        (room_names a.1.1.0.now u.1.1.0 v.1.1.0 p.0.1 q.0.1 i, four p.1.1 q.1.1 i),
      ),
    )
