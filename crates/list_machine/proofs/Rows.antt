-- However rows are cut into pieces, the machine prints what the rows of all pieces joined give.
use Rattle.std.proofs.Common.{◌≡◌, refl, sym, ◌∙◌, ap, Bool, true, false, cond, List, [], ◌∷◌, ◌++◌, append-nil, append_assoc, ℕ, zero, suc, ◌+◌, ◌-◌, ◌≤◌, ◌<◌, eqb, ltb, length, drop}
use Rattle.std.proofs.Common.{length-append, length-drop, ltb-true, ltb-false, eqb-true, arith}
use Rattle.std.proofs.lemmas.Bool.{eqb-false}
use Rattle.tick_check.specs.Check.{Stored}
use Rattle.list_text.specs.declared.outer.Outer.TheVariants.{Cut}
use Rattle.list_text.specs.Line.{line_room}
use Rattle.list_text.specs.Outer.{outer_at}
use Rattle.list_rows.specs.Rows.{Kept, Step, Run, waits, step_of, stopped, rows_from, rows_of}
use Rattle.list_rows.specs.Listing.{rest_from, rest_of, left_after}
use Rattle.list_rows.proofs.Turns.{modest, turn_full, turn_goes, turn_stops}
use Rattle.list_rows.proofs.Seamless.{cut_at, waits_at, seamless}
use Rattle.list_machine.specs.Heard.{joined, turns, ended_line, rows_heard}

module _ (s : Stored) (room : ℕ) (bytes : List ℕ) where
  -- a run reads on from where it began, and never past the bytes
  record Reads (from : ℕ) (r : Run) : Type 0 where
    on : from ≤ r.read
    there : r.read ≤ length bytes

  reads : (fuel : ℕ) (text : List ℕ) (read number : ℕ) (k : Kept) → read ≤ length bytes → Reads read (rows_from fuel s room bytes text read number k)
  unfolding rows_from
  reads zero text read number k h = record { on = omega arith; there = h }
  reads (suc fuel) text read number k h =
      let o = step_of s (drop read bytes) number k in
      let m = (modest s (drop read bytes) number k).there in
      let fits : read + o.read ≤ length bytes = omega (arith, length-drop read bytes) in
      go (ltb (room - length text) line_room) refl o.goes refl fits (reads fuel (text ++ o.text) (read + o.read) o.number o.kept fits)
    where
      go : (b : Bool) → ltb (room - length text) line_room ≡ b → (t : Bool) → (step_of s (drop read bytes) number k).goes ≡ t
          → read + (step_of s (drop read bytes) number k).read ≤ length bytes
          → (let o = step_of s (drop read bytes) number k in
          Reads (read + o.read) (rows_from fuel s room bytes (text ++ o.text) (read + o.read) o.number o.kept))
          → Reads read (rows_from (suc fuel) s room bytes text read number k)
      go true e t g f r = rw (turn_full fuel s room bytes text read number k (ltb-true _ _ e)) (record { on = omega arith; there = h })
      go false e true g f r =
          let on = r.on in
          rw (turn_goes fuel s room bytes text read number k (ltb-false _ _ e) g) (record { on = omega arith; there = r.there })
      go false e false g f r = rw (turn_stops fuel s room bytes text read number k (ltb-false _ _ e) g) (record { on = omega arith; there = f })

  pub run_reads : (number : ℕ) (k : Kept) → (rows_of s room bytes 0 number k).read ≤ length bytes
  unfolding rows_of
  run_reads number k = (reads (suc (length bytes)) [] 0 number k (omega arith)).there

  module _ (wide : line_room ≤ room) (number : ℕ) (k : Kept) where
    cut_by : (t : Bool) → (step_of s bytes number k).goes ≡ t → (rows_of s room bytes 0 number k).ended ≡ false
        → (rows_of s room bytes 0 number k).read ≡ 0 → outer_at bytes 0 ≡ Cut
    unfolding rows_of step_of
    cut_by true g e z =
        let o = step_of s bytes number k in
        let m = modest s bytes number k in
        let some : 4 ≤ o.read = m.some g in
        let there : o.read ≤ length bytes = m.there in
        let on = (reads (length bytes) o.text (0 + o.read) o.number o.kept (omega arith)).on in
        let none = ap (λ (r : Run). r.read) (sym (turn_goes (length bytes) s room bytes [] 0 number k (omega arith) g)) ∙ z in
        absurd (omega arith)
    cut_by false g e z =
        let turn = turn_stops (length bytes) s room bytes [] 0 number k (omega arith) g in
        cut_at s bytes number k (outer_at bytes 0) g (ap (λ (r : Run). r.ended) (sym turn) ∙ e)

    -- a run that has read nothing and has not ended waits only where the record that stands first is cut short
    pub run_cut : (rows_of s room bytes 0 number k).ended ≡ false → (rows_of s room bytes 0 number k).read ≡ 0 → outer_at bytes 0 ≡ Cut
    run_cut e z = cut_by (step_of s bytes number k).goes refl e z

  pub step_waits : (number : ℕ) (k : Kept) → outer_at bytes 0 ≡ Cut → step_of s bytes number k ≡ waits number k
  unfolding step_of
  step_waits number k e = waits_at s bytes number k (outer_at bytes 0) e

  -- it has printed nothing
  run_idle : line_room ≤ room → (number : ℕ) (k : Kept) → outer_at bytes 0 ≡ Cut → rows_of s room bytes 0 number k ≡ stopped [] 0 number false k
  unfolding rows_of
  run_idle wide number k e =
      let w = step_waits number k e in
      turn_stops (length bytes) s room bytes [] 0 number k (omega arith) (ap (λ (o : Step). o.goes) w)
      ∙ (λ i. stopped (w i).text (0 + (w i).read) (w i).number (w i).ended (w i).kept)

-- if nothing more comes, the bytes at hand are a record cut short, or none
pub rest_idle : (s : Stored) (number : ℕ) (k : Kept) (bytes : List ℕ) → step_of s bytes number k ≡ waits number k
    → rest_of s bytes number k ≡ ended_line bytes
unfolding rest_of rest_from ended_line
rest_idle s number k [] w = refl
rest_idle s number k (x ∷ xs) w = rw (rest_of, rest_from, w, w)

-- ---- piece after piece

-- what the machine prints after a run: whether it has ended, and whether it has read nothing
abbrev after : ℕ → Stored → ℕ → List ℕ → List (List ℕ) → Run → Bool → Bool → List ℕ
after fuel s room bytes pieces r ended none =
    elim ended as (λ _. List ℕ) [
      | true ↦ []
      | false ↦ elim none as (λ _. List ℕ) [
        | false ↦ rows_heard fuel s room (drop r.read bytes) pieces r.number r.kept
        | true ↦ elim pieces as (λ _. List ℕ) [
          | [] ↦ ended_line bytes
          | piece ∷ rest ↦ rows_heard fuel s room (bytes ++ piece) rest r.number r.kept
        ]
      ]
    ]

module _ (s : Stored) (room : ℕ) (wide : line_room ≤ room) where
  pub rows_heard_lem : (fuel : ℕ) (bytes : List ℕ) (pieces : List (List ℕ)) (number : ℕ) (k : Kept) → length bytes + turns pieces < fuel
      → rows_heard fuel s room bytes pieces number k ≡ rest_of s (bytes ++ joined pieces) number k
  unfolding rows_heard turns joined left_after
  rows_heard_lem zero bytes pieces number k h = absurd (omega arith)
  rows_heard_lem (suc fuel) bytes pieces number k h =
      let r = rows_of s room bytes 0 number k in
      ap (λ (l : List ℕ). r.text ++ l) (go (λ b p n q f. rows_heard_lem fuel b p n q f) pieces h r.ended refl (eqb r.read 0) refl)
      ∙ sym (seamless s room bytes (joined pieces) 0 number k)
    where
      go : ((bytes : List ℕ) (pieces : List (List ℕ)) (number : ℕ) (k : Kept) → length bytes + turns pieces < fuel
          → rows_heard fuel s room bytes pieces number k ≡ rest_of s (bytes ++ joined pieces) number k)
          → (pieces : List (List ℕ)) → length bytes + turns pieces < suc fuel
          → (ended : Bool) → (rows_of s room bytes 0 number k).ended ≡ ended → (none : Bool) → eqb (rows_of s room bytes 0 number k).read 0 ≡ none
          → (let r = rows_of s room bytes 0 number k in
          after fuel s room bytes pieces r ended none ≡ cond ended [] (rest_of s (drop r.read bytes ++ joined pieces) r.number r.kept))
      go again pieces h true e none z = refl
      go again pieces h false e false z =
          let r = rows_of s room bytes 0 number k in
          let some : (r.read ≡ 0 → ⊥) = eqb-false _ _ z in
          let there = run_reads s room bytes number k in
          again (drop r.read bytes) pieces r.number r.kept (omega (arith, length-drop r.read bytes))
      go again [] h false e true z =
          let cut = run_cut s room bytes wide number k e (eqb-true _ _ z) in
          rw (run_idle s room bytes wide number k cut, append-nil bytes, rest_idle s number k bytes (step_waits s room bytes number k cut))
      go again (piece ∷ rest) h false e true z =
          let r = rows_of s room bytes 0 number k in
          again (bytes ++ piece) rest r.number r.kept (omega (arith, length-append bytes piece))
          ∙ ap (λ (l : List ℕ). rest_of s l r.number r.kept) (append_assoc bytes piece (joined rest))
          ∙ ap (λ (read : ℕ). rest_of s (drop read bytes ++ (piece ++ joined rest)) r.number r.kept) (sym (eqb-true r.read 0 z))
