-- The loop over rows: what is printed so far, and that the rest is still to come.
use Rattle.std.proofs.Common.{◌≡◌, ℕ, suc, ◌+◌, ◌-◌, ◌<◌, ◌≤◌, Bool, true, false, List, [], ◌++◌, length, take, drop, sym, refl, ap, ◌∙◌, subst, append_assoc, arith, length-append, length-drop, take-append-drop, drop-drop, take_at, drop_at, le-leb}
use Rattle.text.specs.Text.{placed}
use Rattle.tick_check.specs.Check.{Stored}
use Rattle.list_text.specs.Line.{line_room}
use Rattle.list_rows.specs.declared.state.Next.{Next}
use Rattle.list_rows.specs.declared.state.Next.TheVariants.{Goes, Waits, Ended}
use Rattle.list_rows.specs.declared.rows.Step as step
use Rattle.list_rows.specs.declared.rows.Run as run
use Rattle.list_rows.specs.Rows.{Kept, Step, Run, step_of, rows_from, rows_of}
use Rattle.list_rows.specs.Left.{next_of, StepLeft, RunLeft}
use Rattle.list_rows.proofs.Turns.{modest, turn_full, turn_goes, turn_stops}

-- by what follows a step, whether it goes on and whether it has ended
next_goes : (goes ended : Bool) → Goes ≡ next_of goes ended → goes ≡ true
next_goes true ended e = refl
next_goes false true e = cc
next_goes false false e = cc

next_ended : (goes ended : Bool) → Ended ≡ next_of goes ended → (goes ≡ false) × (ended ≡ true)
next_ended true ended e = cc
next_ended false true e = (refl, refl)
next_ended false false e = cc

next_waits : (goes ended : Bool) → Waits ≡ next_of goes ended → (goes ≡ false) × (ended ≡ false)
next_waits true ended e = cc
next_waits false true e = cc
next_waits false false e = (refl, refl)

-- so much is listed
pub record Going (s : Stored) (bytes out : List ℕ) (from number : ℕ) (k : Kept) (now : List ℕ) (r : run.Run) (k' : Kept) : Type 0 where
  pub fuel : ℕ
  pub text : List ℕ
  pub enough : length bytes < suc fuel + r.read
  pub size : r.wrote ≡ length text
  pub room : r.wrote ≤ length out
  pub printed : now ≡ text ++ drop r.wrote out
  pub same : rows_from (suc fuel) s (length out) bytes text r.read r.number k' ≡ rows_of s (length out) bytes from number k

pub going_none : (s : Stored) (bytes out : List ℕ) (from number : ℕ) (k : Kept) (r : run.Run) → r.read ≡ from → r.wrote ≡ 0 → r.number ≡ number
    → Going s bytes out from number k out r k
unfolding rows_of
going_none s bytes out from number k r e z n =
    record {
      fuel = length bytes;
      text = [];
      enough = omega arith;
      size = z;
      room = omega arith;
      printed = rw z;
      same = λ i. rows_from (suc (length bytes)) s (length out) bytes [] (e i) (n i) k;
    }

module _ {s : Stored} {bytes out : List ℕ} {from number : ℕ} {k : Kept} {now : List ℕ} {r : run.Run} {k' : Kept}
    (g : Going s bytes out from number k now r k') where
  -- the step that is due
  abbrev due : Step
  due = step_of s (drop r.read bytes) r.number k'

  pub going_length : length now ≡ length out
  going_length =
      let room = g.room in
      let size = g.size in
      ap length g.printed ∙ omega (arith, length-append g.text (drop r.wrote out), length-drop r.wrote out)

  ahead : drop r.wrote now ≡ drop r.wrote out
  ahead = ap (drop r.wrote) g.printed ∙ drop_at g.text (drop r.wrote out) r.wrote (sym g.size)

  behind : take r.wrote now ≡ g.text
  behind = ap (take r.wrote) g.printed ∙ take_at g.text (drop r.wrote out) r.wrote (sym g.size)

  -- what stands after a step that had room for its line
  joined : (t after : List ℕ) → length t ≤ length out - r.wrote → take r.wrote after ≡ take r.wrote now
      → drop r.wrote after ≡ placed t (drop r.wrote now) → after ≡ (g.text ++ t) ++ drop (r.wrote + length t) out
  joined t after h e f =
      sym (take-append-drop r.wrote after)
      ∙ (λ i. (e ∙ behind) i ++ (f ∙ ap (placed t) ahead) i)
      ∙ rw (le-leb (length t) (length (drop r.wrote out)) (omega (arith, length-drop r.wrote out)))
      (ap (λ (l : List ℕ). g.text ++ (t ++ l)) (drop-drop (length t) r.wrote out) ∙ sym (append_assoc g.text t (drop (r.wrote + length t) out)))

  pub reads_on : {read : ℕ} → read ≡ due.read → read ≤ length bytes - r.read
  reads_on e = let m = (modest s (drop r.read bytes) r.number k').there in omega (arith, e, length-drop r.read bytes)

  pub reads_some : {read : ℕ} {next : Next} → read ≡ due.read → next ≡ next_of due.goes due.ended → next ≡ Goes → 4 ≤ read
  reads_some e n f = let m = (modest s (drop r.read bytes) r.number k').some (next_goes due.goes due.ended (sym f ∙ n)) in omega (arith, e)

  pub writes_on : line_room ≤ length now - r.wrote → {wrote : ℕ} → wrote ≡ length due.text → r.wrote + wrote ≤ length out
  writes_on full e =
      let m = (modest s (drop r.read bytes) r.number k').fits in
      let room = g.room in
      omega (arith, going_length, e)

  module _ (after : List ℕ) (t : step.Step) (k'' : Kept) (full : line_room ≤ length now - r.wrote)
      (l : StepLeft due (drop r.wrote now) t k'' (drop r.wrote after))
      (front : take r.wrote after ≡ take r.wrote now) (next : run.Run) (read : next.read ≡ r.read + t.read) (wrote : next.wrote ≡ r.wrote + t.wrote)
      (number_is : next.number ≡ t.number) where
    fits : r.wrote + t.wrote ≤ length out
    fits = writes_on full l.wrote_is

    printed_on : after ≡ (g.text ++ due.text) ++ drop next.wrote out
    printed_on =
        rw (wrote, l.wrote_is)
        (joined due.text after (omega (arith, fits, l.wrote_is)) front l.out_is)

    room_is : line_room ≤ length out - length g.text
    room_is = let size = g.size in omega (arith, going_length)

    pub going_more : t.next ≡ Goes → Going s bytes out from number k after next k''
    going_more e =
        let n = sym e ∙ l.next_is in
        let some = reads_some l.read_is l.next_is e in
        let there = reads_on l.read_is in
        let enough = g.enough in
        let size = g.size in
        let p : g.fuel ≡ suc (g.fuel - 1) = omega arith in
        record {
          fuel = g.fuel - 1;
          text = g.text ++ due.text;
          enough = omega arith;
          size = omega (arith, l.wrote_is, length-append g.text due.text);
          room = omega (arith, fits);
          printed = printed_on;
          same =
              (λ i. rows_from (sym p i) s (length out) bytes (g.text ++ due.text) ((read ∙ ap (λ x. r.read + x) l.read_is) i)
              ((number_is ∙ l.number_is) i) (l.kept_is i))
              ∙ sym (turn_goes g.fuel s (length out) bytes g.text r.read r.number k' room_is (next_goes due.goes due.ended n))
              ∙ g.same;
        }

    stops : due.goes ≡ false → next.ended ≡ due.ended → RunLeft (rows_of s (length out) bytes from number k) out next k'' after
    stops e n = subst (λ (o : Run). RunLeft o out next k'' after)
        (sym (turn_stops g.fuel s (length out) bytes g.text r.read r.number k' room_is e) ∙ g.same)
        (let size = g.size in
        let d : next.wrote ≡ length (g.text ++ due.text) = omega (arith, l.wrote_is, length-append g.text due.text) in
        record {
          read_is = read ∙ ap (λ x. r.read + x) l.read_is;
          wrote_is = d;
          number_is = number_is ∙ l.number_is;
          ended_is = n;
          kept_is = l.kept_is;
          out_is =
              rw (le-leb (length (g.text ++ due.text)) (length out) (omega (arith, fits)))
              (printed_on ∙ ap (λ (j : ℕ). (g.text ++ due.text) ++ drop j out) d);
        })

    pub going_waits : t.next ≡ Waits → next.ended ≡ false → RunLeft (rows_of s (length out) bytes from number k) out next k'' after
    going_waits e n = let both = next_waits due.goes due.ended (sym e ∙ l.next_is) in stops both.0 (n ∙ sym both.1)

    pub going_ends : t.next ≡ Ended → next.ended ≡ true → RunLeft (rows_of s (length out) bytes from number k) out next k'' after
    going_ends e n = let both = next_ended due.goes due.ended (sym e ∙ l.next_is) in stops both.0 (n ∙ sym both.1)

  pub going_full : length now - r.wrote < line_room → r.ended ≡ false → RunLeft (rows_of s (length out) bytes from number k) out r k' now
  going_full h n = subst (λ (o : Run). RunLeft o out r k' now)
      (sym (turn_full g.fuel s (length out) bytes g.text r.read r.number k' (let size = g.size in omega (arith, going_length))) ∙ g.same)
      (let size = g.size in
      let room = g.room in
      record {
        read_is = refl;
        wrote_is = size;
        number_is = refl;
        ended_is = n;
        kept_is = refl;
        out_is = rw (le-leb (length g.text) (length out) (omega arith)) (g.printed ∙ ap (λ (j : ℕ). g.text ++ drop j out) size);
      })
