-- The listing program's functions: each contract permits one outcome.
--
--   list_text: write_line      line_of, specs/Line
--   list_text: write_refused   refused_line, specs/Line
--   list_text: write_bad       bad_line, specs/Line
--   list_text: outer_at        outer_at, specs/Outer
--   list_start: begin          begin_of, list_machine specs/Begin
--   list_rows: list_rows       rows_of, specs/Rows
--   list_ends: finish          last_line, specs/Ends
--   list_ends: move_down       unread, specs/Ends
use mathlib.Core.Path.{◌≡◌, refl, ◌∙⁻¹◌}
use mathlib.Core.List.{List}
use Prim.Native.Nat.{ℕ}
use Rattle.list_machine.specs.Begin.{Rooms}
use Rattle.list_text.proofs.write_line
use Rattle.list_text.specs.contracts.write_line as write_line_contract
use Rattle.list_text.proofs.write_refused
use Rattle.list_text.specs.contracts.write_refused as write_refused_contract
use Rattle.list_text.proofs.write_bad
use Rattle.list_text.specs.contracts.write_bad as write_bad_contract
use Rattle.list_text.proofs.outer_at
use Rattle.list_text.specs.contracts.outer_at as outer_at_contract
use Rattle.list_start.proofs.begin
use Rattle.list_start.specs.contracts.begin as begin_contract
use Rattle.list_rows.proofs.list_rows
use Rattle.list_rows.specs.contracts.list_rows as list_rows_contract
use Rattle.list_ends.proofs.finish
use Rattle.list_ends.specs.contracts.finish as finish_contract
use Rattle.list_ends.proofs.move_down
use Rattle.list_ends.specs.contracts.move_down as move_down_contract
use Rattle.list_rows.specs.declared.state.State.{State}
use Rattle.list_rows.specs.Left.{LentAs}
use Rattle.unique.specs.One.{One, OneLeft}
use Rattle.unique.specs.Left.{Four, Held, in_storage, in_room, Stated, in_state}
use Rattle.unique.proofs.Compile.{storage_names, room_names}

pub one_line : One write_line_contract.ended write_line.Reads.Post
one_line κs a x y u v p q = (p.0 ∙⁻¹ q.0, λ i. ((p.1 ∙⁻¹ q.1) i, u.1))

pub one_refused : One write_refused_contract.ended write_refused.Reads.Post
one_refused κs a x y u v p q = (p.0 ∙⁻¹ q.0, λ i. ((p.1 ∙⁻¹ q.1) i, u.1))

pub one_bad : One write_bad_contract.ended write_bad.Reads.Post
one_bad κs a x y u v p q = (p.0 ∙⁻¹ q.0, λ i. ((p.1 ∙⁻¹ q.1) i, u.1))

pub one_outer : One outer_at_contract.ended outer_at.Reads.Post
one_outer κs a x y u v p q = (p ∙⁻¹ q, refl)

-- two rooms as they are lent
abbrev split : Rooms → Four × Four
split m = ((m.nums, (m.biases, (m.wires, m.coefs))), (m.work_nums, (m.work_biases, (m.work_wires, m.work_coefs))))

pub one_beginning : OneLeft begin_contract.ended begin.Reads.Post (List ℕ × (Held × Held)) (λ κs a u. (u.1.0, (in_storage u.1.1.0, in_room u.1.1.1.0)))
one_beginning κs a x y u v p q =
    let out = p.1.out_is ∙⁻¹ q.1.out_is in
    let left = p.1.left_is ∙⁻¹ q.1.left_is in (
      λ i. record { read = (p.1.read_is ∙⁻¹ q.1.read_is) i; wrote = (p.1.wrote_is ∙⁻¹ q.1.wrote_is) i; due = (p.1.due_is ∙⁻¹ q.1.due_is) i },
      λ i. (out i, ((storage_names a.1.1.0.now u.1.1.0 v.1.1.0 p.0.0 q.0.0 i, (split (left i)).0), (room_names a.1.1.1.0.now u.1.1.1.0 v.1.1.1.0 p.0.1 q.0.1 i, (split (left i)).1))),
    )

-- what is lent stays lent: its names
state_names : {a b c : State} → LentAs a b → LentAs a c → (in_state b).0 ≡ (in_state c).0
state_names p q = λ i. ((p.flags ∙⁻¹ q.flags) i, ((p.cursors ∙⁻¹ q.cursors) i, (p.values ∙⁻¹ q.values) i))

pub one_run : OneLeft list_rows_contract.ended list_rows.Reads.Post (List ℕ × Stated) (λ κs a u. (u.1.1.0, in_state u.1.1.1.1.1.0))
one_run κs a x y u v p q =
    let out = p.1.out_is ∙⁻¹ q.1.out_is in
    let kept = p.1.kept_is ∙⁻¹ q.1.kept_is in (
      λ i. record {
        read = (p.1.read_is ∙⁻¹ q.1.read_is) i;
        wrote = (p.1.wrote_is ∙⁻¹ q.1.wrote_is) i;
        number = (p.1.number_is ∙⁻¹ q.1.number_is) i;
        ended = (p.1.ended_is ∙⁻¹ q.1.ended_is) i;
      },
      λ i. (out i, (state_names p.0 q.0 i, kept i)),
    )

pub one_last_line : One finish_contract.ended finish.Reads.Post
one_last_line κs a x y u v p q = (p.0 ∙⁻¹ q.0, λ i. (tt, ((p.1 ∙⁻¹ q.1) i, tt)))

pub one_unread : One move_down_contract.ended move_down.Reads.Post
one_unread κs a x y u v p q = (p.0 ∙⁻¹ q.0, λ i. ((p.1 ∙⁻¹ q.1) i, u.1))
