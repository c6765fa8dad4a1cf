-- No row is lost where a buffer ends: what a run over some bytes printed, and then what is left of them with all that follows, is what there was to
-- list.
use Rattle.std.proofs.Common.{◌≡◌, ℕ, zero, suc, ◌+◌, ◌-◌, Bool, true, false, cond, eqb, ltb, List, [], ◌++◌, length, drop, sym, refl, ap, ◌∙◌, append_assoc, append-nil, arith, drop-drop, ltb-false, ltb-true}
use Rattle.tick_check.specs.Check.{Stored}
use Rattle.list_text.specs.declared.outer.Outer.{Outer}
use Rattle.list_text.specs.declared.outer.Outer.TheVariants.{Whole, Cut, Bad}
use Rattle.list_text.specs.Line.{line_room}
use Rattle.list_text.specs.Outer.{outer_at}
use Rattle.list_rows.specs.Rows.{Kept, Shown, Run, row_kind, shows, waits, breaks, step_at, step_of, stopped, rows_from, rows_of}
use Rattle.list_rows.specs.Listing.{rest_of, left_after}
use Rattle.list_rows.proofs.Edges.{rest_goes, rest_ends}
use Rattle.list_rows.proofs.Turns.{turn_full, turn_goes, turn_stops}

-- a step that neither goes on nor ends the run is at a record that is cut: it has read and printed nothing
never_both : (read number : ℕ) (k : Kept) (o : Shown) (b : Bool) → (cond b (shows read number o) (breaks number k)).goes ≡ false
    → (cond b (shows read number o) (breaks number k)).ended ≡ false → ⊥
never_both read number k o true g e = cc
never_both read number k o false g e = cc

module _ (s : Stored) (bytes : List ℕ) (number : ℕ) (k : Kept) (p : Outer) where
  pub cut_at : (step_at p s bytes number k).goes ≡ false → (step_at p s bytes number k).ended ≡ false → p ≡ Cut
  unfolding step_at
  cut_at = elim p as (λ q. (step_at q s bytes number k).goes ≡ false → (step_at q s bytes number k).ended ≡ false → q ≡ Cut) [
    | Whole kind start end ↦ λ g e. absurd (never_both _ _ _ _ (eqb kind row_kind) g e)
    | Cut ↦ λ g e. refl
    | Bad ↦ λ g e. cc
  ]

  pub waits_at : p ≡ Cut → step_at p s bytes number k ≡ waits number k
  unfolding step_at
  waits_at e = rw e

module _ (s : Stored) (room : ℕ) (bytes more : List ℕ) where
  pub all_of : Run → List ℕ
  all_of r = r.text ++ left_after s bytes more r

  stops : (text : List ℕ) (read number : ℕ) (k : Kept) (t : Bool) → (step_of s (drop read bytes) number k).goes ≡ false
      → (step_of s (drop read bytes) number k).ended ≡ t
      → text ++ rest_of s (drop read bytes ++ more) number k
      ≡ (let o = step_of s (drop read bytes) number k in all_of (stopped (text ++ o.text) (read + o.read) o.number t o.kept))
  unfolding all_of left_after step_of
  stops text read number k true g e =
      let o = step_of s (drop read bytes) number k in
      ap (λ (l : List ℕ). text ++ l) (rest_ends s number k more (drop read bytes) g e) ∙ sym (append-nil (text ++ o.text))
  stops text read number k false g e =
      let here = drop read bytes in
      let cut = cut_at s here number k (outer_at here 0) g e in
      let w : waits number k ≡ step_of s here number k = sym (waits_at s here number k (outer_at here 0) cut) in
      let z : read ≡ read + 0 = omega arith in
      (λ i. sym (append-nil text) i ++ rest_of s (drop (z i) bytes ++ more) number k)
      ∙ (λ i. (text ++ (w i).text) ++ rest_of s (drop (read + (w i).read) bytes ++ more) (w i).number (w i).kept)

  pub run_all : (fuel : ℕ) (text : List ℕ) (read number : ℕ) (k : Kept)
      → text ++ rest_of s (drop read bytes ++ more) number k ≡ all_of (rows_from fuel s room bytes text read number k)
  unfolding all_of left_after rows_from
  run_all zero text read number k = refl
  run_all (suc fuel) text read number k =
      let o = step_of s (drop read bytes) number k in
      go (ltb (room - length text) line_room) refl o.goes refl (run_all fuel (text ++ o.text) (read + o.read) o.number o.kept)
    where
      go : (b : Bool) → ltb (room - length text) line_room ≡ b → (t : Bool) → (step_of s (drop read bytes) number k).goes ≡ t
          → (let o = step_of s (drop read bytes) number k in
          (text ++ o.text) ++ rest_of s (drop (read + o.read) bytes ++ more) o.number o.kept
          ≡ all_of (rows_from fuel s room bytes (text ++ o.text) (read + o.read) o.number o.kept))
          → text ++ rest_of s (drop read bytes ++ more) number k ≡ all_of (rows_from (suc fuel) s room bytes text read number k)
      go true e t g h = rw (turn_full fuel s room bytes text read number k (ltb-true _ _ e))
      go false e true g h =
          let o = step_of s (drop read bytes) number k in
          ap (λ (l : List ℕ). text ++ l) (rest_goes s number k more (drop read bytes) g)
          ∙ sym (append_assoc text o.text (rest_of s (drop o.read (drop read bytes) ++ more) o.number o.kept))
          ∙ ap (λ (l : List ℕ). (text ++ o.text) ++ rest_of s (l ++ more) o.number o.kept) (drop-drop o.read read bytes)
          ∙ h
          ∙ ap all_of (sym (turn_goes fuel s room bytes text read number k (ltb-false _ _ e) g))
      go false e false g h =
          stops text read number k (step_of s (drop read bytes) number k).ended g refl
          ∙ ap all_of (sym (turn_stops fuel s room bytes text read number k (ltb-false _ _ e) g))

  -- what was printed, and then what is left with all that follows, is what there was to list
  pub seamless : (from number : ℕ) (k : Kept)
      → rest_of s (drop from bytes ++ more) number k ≡ (let r = rows_of s room bytes from number k in r.text ++ left_after s bytes more r)
  unfolding all_of rows_of
  seamless from number k = run_all (suc (length bytes)) [] from number k
