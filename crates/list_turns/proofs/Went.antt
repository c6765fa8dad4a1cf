-- What was read and written, one part after the other.
use Rattle.std.proofs.Common.{◌≡◌, ℕ, ◌+◌, ◌≤◌, true, false, List, [], ◌++◌, Option, Some, None, length, take, drop, refl, sym, ap, ◌∙◌, append_assoc, append-nil, arith}
use Rattle.std.proofs.Common.{◌-◌, slice_range, drop-drop, ◌⊎◌, inl, inr}
use Rattle.std.proofs.Math.Seq.{take-add}
use Rattle.std.proofs.lemmas.Grind.{common_steps}
use Rattle.std.proofs.lemmas.List.{drop-take}
use Rattle.std.specs.Io.KnownBytes.{Consumes, Appends, IsAtEnd}
use Rattle.tick_check.specs.Check.{Stored}
use Rattle.list_text.specs.declared.outer.Outer.TheVariants.{Cut}
use Rattle.list_text.specs.Outer.{outer_at}
use Rattle.list_rows.specs.declared.rows.Run as run
use Rattle.list_rows.specs.Rows.{Kept, rows_of}
use Rattle.list_rows.specs.Listing.{rest_of, left_after}
use Rattle.list_rows.proofs.Seamless.{seamless}
use Rattle.list_machine.proofs.Rows.{run_cut, step_waits, rest_idle}
use Rattle.text.specs.Text.{placed}
use Rattle.list_ends.specs.Ends.{last_line, unread}
use Rattle.list_ends.proofs.Ends.{end_line}
use Rattle.list_turns.specs.Lists.{Lists}
use Rattle.list_turns.specs.Went.{Goes, Grown, NoneLeft, RowsLeft, rows_due}

-- ---- known bytes

pub consumes_none : (a : Option (List ℕ)) → Consumes a a []
consumes_none None = tt
consumes_none (Some xs) = refl

pub appends_none : (c : Option (List ℕ)) → Appends c c []
appends_none None = tt
appends_none (Some xs) = sym (append-nil xs)

pub consumes_then : (a b c : Option (List ℕ)) (xs ys : List ℕ) → Consumes a b xs → Consumes b c ys → Consumes a c (xs ++ ys)
consumes_then None b c xs ys h i = tt
consumes_then (Some x) None c xs ys h i = absurd h
consumes_then (Some x) (Some y) None xs ys h i = absurd i
consumes_then (Some x) (Some y) (Some z) xs ys h i = h ∙ ap (λ l. xs ++ l) i ∙ sym (append_assoc xs ys z)

pub appends_then : (a b c : Option (List ℕ)) (xs ys : List ℕ) → Appends a b xs → Appends b c ys → Appends a c (xs ++ ys)
appends_then None b c xs ys h i = tt
appends_then (Some x) None c xs ys h i = absurd h
appends_then (Some x) (Some y) None xs ys h i = absurd i
appends_then (Some x) (Some y) (Some z) xs ys h i = i ∙ ap (λ l. l ++ ys) h ∙ append_assoc x xs ys

-- ---- one part after the other

pub goes_none : (due : List ℕ → List ℕ) (a c : Option (List ℕ)) → Goes due due a a c c
goes_none due a c =
    record { read = []; text = []; consumed = consumes_none a; written = appends_none c; same = λ more. refl }

module _ {due due' : List ℕ → List ℕ} {a b c d : Option (List ℕ)} (g : Goes due due' a b c d) where
  pub goes_then : {due'' : List ℕ → List ℕ} {b' d' : Option (List ℕ)} → Goes due' due'' b b' d d' → Goes due due'' a b' c d'
  goes_then {due''} {b'} {d'} h =
      record {
        read = g.read ++ h.read;
        text = g.text ++ h.text;
        consumed = consumes_then a b b' g.read h.read g.consumed h.consumed;
        written = appends_then c d d' g.text h.text g.written h.written;
        same = λ more.
            ap due (append_assoc g.read h.read more) ∙ g.same (h.read ++ more) ∙ ap (λ l. g.text ++ l) (h.same more)
            ∙ sym (append_assoc g.text h.text (due'' more));
      }

  pub lists_then : {b' d' : Option (List ℕ)} → Lists due' b b' d d' → Lists due a b' c d'
  lists_then {b'} {d'} h =
      record {
        read = g.read ++ h.read;
        consumed = consumes_then a b b' g.read h.read g.consumed h.consumed;
        written = rw (g.same h.read) (appends_then c d d' g.text (due' h.read) g.written h.written);
        over = elim h.over as (λ _. ((more : List ℕ) → due ((g.read ++ h.read) ++ more) ≡ due (g.read ++ h.read)) ⊎ IsAtEnd b') [
          | inl same ↦ inl (λ more. rw (append_assoc g.read h.read more, g.same (h.read ++ more), same more, g.same h.read))
          | inr end ↦ inr end
        ];
      }

-- ---- rows

module _ (s : Stored) (bytes : List ℕ) (number : ℕ) (k : Kept) (a : Option (List ℕ)) {r : run.Run} {k' : Kept} {c d : Option (List ℕ)}
    (l : RowsLeft (rows_of s 65536 bytes 0 number k) r k' c d) where
  -- the run has ended
  pub rows_end : r.ended ≡ true → Lists (rows_due s bytes number k) a a c d
  unfolding left_after
  rows_end e =
      let o = rows_of s 65536 bytes 0 number k in
      let ended : o.ended ≡ true = sym l.ended_is ∙ e in
      let all : (more : List ℕ) → rest_of s (bytes ++ more) number k ≡ o.text =
      λ more. rw (seamless s 65536 bytes more 0 number k, ended, append-nil o.text) in
      record {
        read = [];
        consumed = consumes_none a;
        written = rw (all []) l.written;
        over = inl (λ more. all more ∙ sym (all []));
      }

  -- it has not: the bytes that it has not read are still to be listed, with those that follow
  pub rows_go : r.ended ≡ false → Goes (rows_due s bytes number k) (rows_due s (drop r.read bytes) r.number k') a a c d
  unfolding left_after
  rows_go e =
      let o = rows_of s 65536 bytes 0 number k in
      let ended : o.ended ≡ false = sym l.ended_is ∙ e in
      record {
        read = [];
        text = o.text;
        consumed = consumes_none a;
        written = l.written;
        same = λ more. rw (seamless s 65536 bytes more 0 number k, ended, l.read_is, l.number_is, l.kept_is);
      }

  -- it has not, and has read nothing: the record that stands first is cut
  pub rows_cut : r.ended ≡ false → r.read ≡ 0 → outer_at bytes 0 ≡ Cut
  rows_cut e z = run_cut s 65536 bytes (omega arith) number k (sym l.ended_is ∙ e) (sym l.read_is ∙ z)

module _ (s : Stored) (bytes : List ℕ) (number : ℕ) (k : Kept) {a b : Option (List ℕ)} where
  -- bytes more
  pub rows_more : {after : List ℕ} (c : Option (List ℕ)) → Grown a b bytes after → Goes (rows_due s bytes number k) (rows_due s after number k) a b c c
  rows_more c g =
      record {
        read = g.read;
        text = [];
        consumed = g.consumed;
        written = appends_none c;
        same = λ more. rw (g.grown, append_assoc bytes g.read more);
      }

  -- no more of them
  pub rows_over : {c d : Option (List ℕ)} → outer_at bytes 0 ≡ Cut → NoneLeft a b → Appends c d (last_line (length bytes))
      → Lists (rows_due s bytes number k) a b c d
  rows_over cut h w =
      record {
        read = [];
        consumed = h.0;
        written = rw (append-nil bytes, rest_idle s number k bytes (step_waits s 65536 bytes number k cut), end_line bytes) w;
        over = inr h.1;
      }

-- ---- the buffer

-- what is not listed yet, after so much of it is read
pub unread_on : (buffer : List ℕ) (at read end : ℕ) → at + read ≤ end → drop read (slice_range buffer at end) ≡ slice_range buffer (at + read) end
unread_on buffer at read end h =
    let e : end - at ≡ read + (end - (at + read)) = omega arith in
    rw (e, drop-take read (end - (at + read)) (drop at buffer), drop-drop read at buffer)

-- what moved to the front, and what was read behind it
moved_front : (buffer : List ℕ) (from have : ℕ) → from ≤ have → have ≤ length buffer
    → take (length (unread buffer from have)) (placed (unread buffer from have) buffer) ≡ slice_range buffer from have
moved_front buffer from have h i = grind (arith, common_steps)

pub grown : {a b : Option (List ℕ)} (buffer moved after : List ℕ) (from have left more : ℕ) → from ≤ have → have ≤ length buffer
    → left ≡ length (unread buffer from have) → moved ≡ placed (unread buffer from have) buffer → take left after ≡ take left moved
    → Consumes a b (take more (drop left after)) → Grown a b (slice_range buffer from have) (slice_range after 0 (left + more))
grown buffer moved after from have left more h i l p t w =
    let z : left + more - 0 ≡ left + more = omega arith in
    record {
      read = take more (drop left after);
      consumed = w;
      grown =
          ap (λ n. take n after) z
          ∙ take-add left more after
          ∙ ap (λ xs. xs ++ take more (drop left after)) (t ∙ (λ j. take (l j) (p j)) ∙ moved_front buffer from have h i);
    }

-- a read more at the front
pub front_more : (a b c : Option (List ℕ)) (before after : List ℕ) (have more : ℕ) → Consumes a b (take have before) → take have after ≡ take have before
    → Consumes b c (take more (drop have after)) → Consumes a c (take (have + more) after)
front_more a b c before after have more h t i =
    rw (take-add have more after, t) (consumes_then a b c (take have before) (take more (drop have after)) h i)
