-- Every line fits into a line's room.
use Rattle.std.proofs.Common.{◌≡◌, ℕ, zero, suc, ◌+◌, ◌*◌, ◌/◌, ◌%◌, ◌≤◌, Bool, true, false, cond, ltb, List, [], ◌∷◌, ◌++◌, length, refl, arith, length-append}
use Rattle.std.proofs.lemmas.Grind.{common_steps}
use Rattle.std.proofs.lemmas.List.{length-map}
use Rattle.text.specs.Text.{decimal_in, decimal}
use Rattle.list_text.specs.Line.{more, cursor_field, digit, edge_field, front, tick_line, listable, line_of, refused_line, line_room}
use Rattle.list_text.proofs.Bytes.{marks_length}

digits_fit : (most n : ℕ) → length (decimal_in most n) ≤ most
unfolding decimal_in
digits_fit zero n = omega arith
digits_fit (suc most) n = go (ltb n 10) (digits_fit most (n / 10))
  where
    go : (b : Bool) → length (decimal_in most (n / 10)) ≤ most
        → length {A = ℕ} (elim b as (λ _. List ℕ) [ true ↦ (48 + n) ∷ [] | false ↦ decimal_in most (n / 10) ++ (48 + n % 10) ∷ [] ]) ≤ suc most
    go true h = omega arith
    go false h = simp length-append (omega arith)

decimal_fits : (n : ℕ) → length (decimal n) ≤ 20
unfolding decimal
decimal_fits n = digits_fit 20 n

more_fits : (cursors : List ℕ) → length (more cursors) ≤ 21 * length cursors
unfolding more
more_fits [] = omega arith
more_fits (c ∷ cs) = simp length-append (omega (arith, more_fits cs, decimal_fits c))

cursors_fit : (cursors : List ℕ) → length (cursor_field cursors) ≤ 21 * length cursors + 1
unfolding cursor_field
cursors_fit [] = omega arith
cursors_fit (c ∷ cs) = simp length-append (omega (arith, more_fits cs, decimal_fits c))

edges_fit : (edges : List ℕ) → length (edge_field edges) ≤ length edges + 1
unfolding edge_field
edges_fit [] = omega arith
edges_fit (e ∷ es) = omega (arith, length-map (e ∷ es) digit)

front_fits : (number : ℕ) (statuses halts : List ℕ) → length (front number statuses halts) ≤ length statuses + 22
unfolding front
front_fits number statuses halts = simp length-append (omega (arith, decimal_fits number, marks_length statuses halts))

tick_fits : (number : ℕ) (statuses halts cursors edges : List ℕ) → length statuses ≤ 128 → length cursors ≤ 128 → length edges ≤ 128
    → length (tick_line number statuses halts cursors edges) ≤ line_room
unfolding tick_line
tick_fits number statuses halts cursors edges s c e =
    simp length-append (omega (arith, front_fits number statuses halts, cursors_fit cursors, edges_fit edges))

pub line_fits : (number : ℕ) (statuses halts cursors edges : List ℕ) → length (line_of number statuses halts cursors edges) ≤ line_room
unfolding line_of
line_fits number statuses halts cursors edges = go (listable statuses cursors edges) refl
  where
    go : (b : Bool) → listable statuses cursors edges ≡ b → length (cond b (tick_line number statuses halts cursors edges) []) ≤ line_room
    go true e = tick_fits number statuses halts cursors edges (grind (arith, common_steps)) (grind (arith, common_steps)) (grind (arith, common_steps))
    go false e = omega arith

pub refused_fits : (number place : ℕ) → length (refused_line number place) ≤ line_room
unfolding refused_line
refused_fits number place = simp length-append (omega (arith, decimal_fits number, decimal_fits place))
