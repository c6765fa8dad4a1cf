-- From the front of the input to its end.
use Rattle.std.proofs.Common.{◌≡◌, Bool, true, false, ℕ, List, [], ◌++◌, Option, Result, Ok, Err, OnOk, drop, refl, sym, ◌∙◌, append-nil, inl, inr, arith}
use Rattle.std.specs.Io.KnownBytes.{Consumes, Appends, IsAtEnd}
use Rattle.std.proofs.lemmas.Grind.{common_steps}
use Rattle.wire.specs.declared.Counts.{Counts}
use Rattle.tick_check.specs.Check.{Stored, stored}
use Rattle.list_text.specs.declared.outer.Outer.TheVariants.{Cut}
use Rattle.list_text.specs.Line.{bad_line}
use Rattle.list_text.specs.Outer.{outer_at}
use Rattle.list_rows.specs.Listing.{storage_lent, at_first, listing}
use Rattle.list_machine.specs.Begin.{Rooms, lengths_of, begin_compiled, begin_tree, begin_at, begin_of}
use Rattle.list_machine.proofs.Begins.{begin_ends, begin_goes, begin_cut, begin_waits}
use Rattle.list_start.specs.declared.Due.TheVariants.{Rows, More, Nothing}
use Rattle.list_start.specs.declared.Begun as begun
use Rattle.list_start.specs.Left.{due_of}
use Rattle.list_turns.specs.Lists.{Lists}
use Rattle.list_turns.specs.Went.{Goes, Begins, rows_due}
use Rattle.list_turns.proofs.Went.{consumes_none, appends_none, appends_then}

-- ---- what is due

rows_are_due : (goes ended : Bool) (n counts : Counts) → Rows counts ≡ due_of goes ended n → (goes ≡ true) × (counts ≡ n)
rows_are_due true ended n counts e = (refl, cc)
rows_are_due false true n counts e = cc
rows_are_due false false n counts e = cc

more_is_due : (goes ended : Bool) (n : Counts) → More ≡ due_of goes ended n → (goes ≡ false) × (ended ≡ false)
more_is_due true ended n e = cc
more_is_due false true n e = cc
more_is_due false false n e = (refl, refl)

nothing_is_due : (goes ended : Bool) (n : Counts) → Nothing ≡ due_of goes ended n → ended ≡ true
nothing_is_due true ended n e = cc
nothing_is_due false true n e = refl
nothing_is_due false false n e = cc

-- ---- nothing is printed where the run has not ended

silent_waits : (m : Rooms) (bytes : List ℕ) → (begin_of m bytes).ended ≡ false → (begin_of m bytes).text ≡ []
unfolding begin_of begin_at begin_tree begin_compiled
silent_waits m bytes e = grind (arith, common_steps)

silent_goes : (m : Rooms) (bytes : List ℕ) → (begin_of m bytes).goes ≡ true → (begin_of m bytes).text ≡ []
unfolding begin_of begin_at begin_tree begin_compiled
silent_goes m bytes e = grind (arith, common_steps)

-- ---- from the front on

-- the front of the input is read
pub front_read : {a b : Option (List ℕ)} (bytes : List ℕ) (c : Option (List ℕ)) → Consumes a b bytes
    → Goes listing (λ more. listing (bytes ++ more)) a b c c
front_read bytes c h = record { read = bytes; text = []; consumed = h; written = appends_none c; same = λ more. refl }

module _ (m : Rooms) (bytes : List ℕ) {r : begun.Begun} {left : Rooms} {c d : Option (List ℕ)} (l : Begins (begin_of m bytes) r left c d) (a : Option (List ℕ))
    (lent : lengths_of m ≡ storage_lent) where
  pub nothing_follows : r.due ≡ Nothing → Lists (λ more. listing (bytes ++ more)) a a c d
  nothing_follows e =
      let b = begin_of m bytes in
      let ended = nothing_is_due b.goes b.ended b.counts (sym e ∙ l.due_is) in
      record {
        read = [];
        consumed = consumes_none a;
        written = rw (begin_ends m bytes [] lent ended) l.written;
        over = inl (λ more. begin_ends m bytes more lent ended ∙ sym (begin_ends m bytes [] lent ended));
      }

  pub more_follows : r.due ≡ More → (outer_at bytes 0 ≡ Cut → IsAtEnd a) → {d' : Option (List ℕ)} → Appends d d' bad_line
      → Lists (λ more. listing (bytes ++ more)) a a c d'
  more_follows e end {d'} h =
      let b = begin_of m bytes in
      let both = more_is_due b.goes b.ended b.counts (sym e ∙ l.due_is) in
      let silent = rw (silent_waits m bytes both.1) at l.written in
      record {
        read = [];
        consumed = consumes_none a;
        written = rw (append-nil bytes, begin_waits m bytes both.1 both.0) (appends_then c d d' [] bad_line silent h);
        over = inr (end (begin_cut m bytes both.1 both.0));
      }

  pub rows_follow : (counts : Counts) → r.due ≡ Rows counts → (s : Stored) → s ≡ stored counts left.nums left.biases left.wires left.coefs
      → (rest : List ℕ) → rest ≡ drop r.read bytes → Goes (λ more. listing (bytes ++ more)) (rows_due s rest 0 (at_first s.counts)) a a c d
  rows_follow counts e s circuit rest f =
      let b = begin_of m bytes in
      let both = rows_are_due b.goes b.ended b.counts counts (sym e ∙ l.due_is) in
      record {
        read = [];
        text = [];
        consumed = consumes_none a;
        written = rw (silent_goes m bytes both.0) at l.written;
        same = λ more. rw (begin_goes m bytes more lent both.0, circuit, f, l.read_is, l.left_is, both.1);
      }

-- of what follows from an answer that may be none
pub where_ok : {T E P Q : Type 0} (r : Result T E) → (P → Q) → OnOk r P → OnOk r Q
where_ok (Ok x) f h = f h
where_ok (Err e) f h = h
