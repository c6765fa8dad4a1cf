-- What a step prints fits and what it reads is there; the three ways through a turn.
use Rattle.std.proofs.Common.{◌≡◌, ℕ, suc, ◌+◌, ◌-◌, ◌<◌, ◌≤◌, Bool, true, false, cond, eqb, List, ◌++◌, length, take, drop, arith, le-ltb, lt-ltb}
use Rattle.std.proofs.lemmas.Bool.{false≢true}
use Rattle.tick_check.specs.Check.{Stored}
use Rattle.tick_lane.specs.Lane.{Outcome, accepted, number_of, place_of}
use Rattle.list_text.specs.declared.outer.Outer.{Outer}
use Rattle.list_text.specs.declared.outer.Outer.TheVariants.{Whole, Cut, Bad}
use Rattle.list_text.specs.Line.{refused_line, line_room}
use Rattle.list_text.specs.Outer.{outer_at}
use Rattle.list_rows.specs.Rows.{Kept, Step, row_kind, row_of, ticked_from, line_after, text_after, shows, breaks, step_at, step_of, stopped, rows_from}
use Rattle.list_rows.proofs.Fits.{line_fits, refused_fits}
use Rattle.list_rows.proofs.Steps.{Lies, lies}

-- ---- what a step prints fits, and what it reads is there

text_fits : (s : Stored) (number : ℕ) (o : Outcome) → length (text_after s number o) ≤ line_room
unfolding text_after
text_fits s number o = go (accepted o.answer)
  where
    go : (b : Bool) → length (cond b (line_after s number o.left) (refused_line (number_of o.answer) (place_of o.answer))) ≤ line_room
    go true = line_fits _ _ _ _ _
    go false = refused_fits _ _

pub record Modest (bytes : List ℕ) (o : Step) : Type 0 where
  pub fits : length o.text ≤ line_room
  pub there : o.read ≤ length bytes
  pub some : o.goes ≡ true → 4 ≤ o.read

modest_at : (s : Stored) (bytes : List ℕ) (number : ℕ) (k : Kept) (p : Outer) → Lies bytes p → Modest bytes (step_at p s bytes number k)
unfolding step_at row_of
modest_at s bytes number k (Whole kind start end) l = go (eqb kind row_kind)
  where
    go : (b : Bool) → Modest bytes (cond b (shows end number (row_of s (take (end - start) (drop start bytes)) number k)) (breaks number k))
    go true = record { fits = text_fits s number (ticked_from s (take (end - start) (drop start bytes)) k); there = l.there; some = λ _. l.long }
    go false = record { fits = omega arith; there = omega arith; some = λ e. absurd (false≢true e) }
modest_at s bytes number k Cut l = record { fits = omega arith; there = omega arith; some = λ e. absurd (false≢true e) }
modest_at s bytes number k Bad l = record { fits = omega arith; there = omega arith; some = λ e. absurd (false≢true e) }

pub modest : (s : Stored) (bytes : List ℕ) (number : ℕ) (k : Kept) → Modest bytes (step_of s bytes number k)
unfolding step_of
modest s bytes number k = modest_at s bytes number k (outer_at bytes 0) (lies bytes)

-- ---- the three ways through a turn

module _ (fuel : ℕ) (s : Stored) (room : ℕ) (bytes text : List ℕ) (read number : ℕ) (k : Kept) where
  pub turn_full : room - length text < line_room → rows_from (suc fuel) s room bytes text read number k ≡ stopped text read number false k
  unfolding rows_from
  turn_full h = rw (lt-ltb (room - length text) line_room h, rows_from)

  pub turn_goes : line_room ≤ room - length text → (step_of s (drop read bytes) number k).goes ≡ true
      → rows_from (suc fuel) s room bytes text read number k
      ≡ (let o = step_of s (drop read bytes) number k in rows_from fuel s room bytes (text ++ o.text) (read + o.read) o.number o.kept)
  unfolding rows_from
  turn_goes h g = rw (le-ltb (room - length text) line_room h, g, rows_from)

  pub turn_stops : line_room ≤ room - length text → (step_of s (drop read bytes) number k).goes ≡ false
      → rows_from (suc fuel) s room bytes text read number k
      ≡ (let o = step_of s (drop read bytes) number k in stopped (text ++ o.text) (read + o.read) o.number o.ended o.kept)
  unfolding rows_from
  turn_stops h g = rw (le-ltb (room - length text) line_room h, g, rows_from)
