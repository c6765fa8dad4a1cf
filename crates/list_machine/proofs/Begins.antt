-- From the front of the input, whether more follows or not, to the listing of all of it.
use Rattle.std.proofs.Common.{◌≡◌, refl, Bool, true, false, cond, eqb, List, ◌++◌, ℕ, ◌-◌, ◌≤◌, length, take, drop, Ok, Err}
use Rattle.std.proofs.lemmas.List.{drop-append-le}
use Rattle.tick_check.specs.Check.{Stored, stored}
use Rattle.compile.specs.Answer.{Compiled}
use Rattle.compile.specs.Compile.{Lent, Outcome, compile_of}
use Rattle.list_text.specs.declared.outer.Outer.{Outer}
use Rattle.list_text.specs.declared.outer.Outer.TheVariants.{Whole, Cut, Bad}
use Rattle.list_text.specs.Line.{bad_line}
use Rattle.list_text.specs.Outer.{outer_at}
use Rattle.list_rows.specs.Listing.{rest_of, storage_lent, at_first, tree_kind, list_from, listing_at, listing}
use Rattle.list_rows.proofs.Steps.{Lies, lies}
use Rattle.list_rows.proofs.Grown.{NotCut, outer_grows, payload_grows}
use Rattle.list_machine.specs.Begin.{Rooms, lengths_of, compiled_in, Began, spoils, begin_compiled, begin_tree, begin_at, begin_of}

abbrev pub circuit_in : Began → Stored
circuit_in b = stored b.counts b.left.nums b.left.biases b.left.wires b.left.coefs

module _ (m : Rooms) (bytes : List ℕ) where
  ended_not_cut : (begin_of m bytes).ended ≡ true → NotCut (outer_at bytes 0)
  unfolding begin_of begin_at
  ended_not_cut e = λ cut. cc

  goes_not_cut : (begin_of m bytes).goes ≡ true → NotCut (outer_at bytes 0)
  unfolding begin_of begin_at
  goes_not_cut e = λ cut. cc

-- ---- where it ends or goes on

module _ (m : Rooms) (bytes more : List ℕ) where
  -- where this much is printed in all, it is what the beginning prints or what the rows after it give
  record Begins (all : List ℕ) (b : Began) : Type 0 where
    ends : b.ended ≡ true → all ≡ b.text
    goes : b.goes ≡ true → all ≡ rest_of (circuit_in b) (drop b.read bytes ++ more) 0 (at_first b.counts)

  compiled_begins : (answer : Compiled) (o : Outcome) (end : ℕ) → end ≤ length bytes
      → Begins (list_from answer o (drop end (bytes ++ more))) (begin_compiled answer end (compiled_in m o))
  unfolding list_from begin_compiled
  compiled_begins (Ok n) o end there = record { ends = λ e. cc; goes = λ e. rw (drop-append-le end bytes more there) }
  compiled_begins (Err r) o end there = record { ends = λ e. refl; goes = λ e. cc }

  spoilt : Begins bad_line (spoils m)
  spoilt = record { ends = λ e. refl; goes = λ e. cc }

  tree_begins : (lent : Lent) → lengths_of m ≡ lent → (end : ℕ) → end ≤ length bytes → (tree tree' : List ℕ) → tree' ≡ tree → (t : Bool)
      → Begins (cond t (let o = compile_of lent tree' in list_from o.answer o (drop end (bytes ++ more))) bad_line)
      (cond t (begin_tree tree end m) (spoils m))
  unfolding begin_tree
  tree_begins lent e end there tree tree' same true =
      let p = compile_of (lengths_of m) tree in
      rw (← e, same) (compiled_begins p.answer p end there)
  tree_begins lent e end there tree tree' same false = spoilt

  module _ (lent : lengths_of m ≡ storage_lent) where
    at_begins : (p : Outer) → Lies bytes p → NotCut p → Begins (listing_at p (bytes ++ more)) (begin_at p m bytes)
    unfolding listing_at begin_at
    at_begins (Whole kind start end) l n =
        tree_begins storage_lent lent end l.there (take (end - start) (drop start bytes)) (take (end - start) (drop start (bytes ++ more)))
        (payload_grows bytes more start end l) (eqb kind tree_kind)
    at_begins Bad l n = spoilt
    at_begins Cut l n = absurd (n refl)

    begins : NotCut (outer_at bytes 0) → Begins (listing (bytes ++ more)) (begin_of m bytes)
    unfolding listing begin_of
    begins n = rw (outer_grows bytes more n) (at_begins (outer_at bytes 0) (lies bytes) n)

    -- the run ends with the record that stands first, whatever follows
    pub begin_ends : (begin_of m bytes).ended ≡ true → listing (bytes ++ more) ≡ (begin_of m bytes).text
    begin_ends e = (begins (ended_not_cut m bytes e)).ends e

    -- the tree is compiled: rows follow
    pub begin_goes : (let b = begin_of m bytes in
        b.goes ≡ true → listing (bytes ++ more) ≡ rest_of (circuit_in b) (drop b.read bytes ++ more) 0 (at_first b.counts))
    begin_goes e = (begins (goes_not_cut m bytes e)).goes e

-- ---- where it waits

module _ (m : Rooms) (bytes : List ℕ) where
  -- a whole record goes on or ends the run
  compiled_decides : (answer : Compiled) (end : ℕ) (left : Rooms) → (begin_compiled answer end left).ended ≡ false
      → (begin_compiled answer end left).goes ≡ false → ⊥
  unfolding begin_compiled
  compiled_decides (Ok n) end left e g = cc
  compiled_decides (Err r) end left e g = cc

  tree_decides : (t : Bool) (tree : List ℕ) (end : ℕ) → (cond t (begin_tree tree end m) (spoils m)).ended ≡ false
      → (cond t (begin_tree tree end m) (spoils m)).goes ≡ false → ⊥
  unfolding begin_tree
  tree_decides true tree end e g = let o = compile_of (lengths_of m) tree in compiled_decides o.answer end (compiled_in m o) e g
  tree_decides false tree end e g = cc

  cut_at : (p : Outer) → (begin_at p m bytes).ended ≡ false → (begin_at p m bytes).goes ≡ false → p ≡ Cut
  unfolding begin_at
  cut_at (Whole kind start end) e g = absurd (tree_decides (eqb kind tree_kind) (take (end - start) (drop start bytes)) end e g)
  cut_at Cut e g = refl
  cut_at Bad e g = cc

  -- it waits only where the record that stands first is cut short
  pub begin_cut : (begin_of m bytes).ended ≡ false → (begin_of m bytes).goes ≡ false → outer_at bytes 0 ≡ Cut
  unfolding begin_of
  begin_cut e g = cut_at (outer_at bytes 0) e g

  -- and if nothing more comes, that is a bad record
  pub begin_waits : (begin_of m bytes).ended ≡ false → (begin_of m bytes).goes ≡ false → listing bytes ≡ bad_line
  unfolding listing listing_at
  begin_waits e g = rw (begin_cut e g)
