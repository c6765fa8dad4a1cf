-- A record that stands whole in some bytes, or is bad, is the same where more bytes follow.
use Rattle.std.proofs.Common.{◌≡◌, ℕ, ◌+◌, ◌-◌, ◌*◌, ◌<◌, ◌≤◌, Bool, true, false, cond, ltb, List, ◌++◌, length, take, drop, refl, ap, ◌∙◌, arith, length-append, length-drop, ltb-false, le-ltb}
use Rattle.std.proofs.Math.ListN.{get_or-append}
use Rattle.std.proofs.lemmas.List.{take-append-le, drop-append-le}
use Rattle.tree_record.specs.Record.{u16_at}
use Rattle.tick_check.specs.Check.{Stored}
use Rattle.list_text.specs.declared.outer.Outer.{Outer}
use Rattle.list_text.specs.declared.outer.Outer.TheVariants.{Whole, Cut, Bad}
use Rattle.list_text.specs.Outer.{outer_at, sized_outer}
use Rattle.list_rows.specs.Rows.{Kept, step_at, step_of}
use Rattle.list_rows.proofs.Steps.{Inside, Lies, lies}

abbrev pub NotCut : Outer → Type 0
NotCut p = p ≡ Cut → ⊥

module _ (a b : List ℕ) where
  longer : length (a ++ b) ≡ length a + length b
  longer = length-append a b

  number_grows : (i : ℕ) → i + 1 < length a → u16_at (a ++ b) i ≡ u16_at a i
  number_grows i h = λ j. get_or-append a b 0 i (omega arith) j + 256 * get_or-append a b 0 (i + 1) h j

  grows_whole : (size : ℕ) (t : Bool) → ltb (length a - 0 - 2) size ≡ t → 2 ≤ size → NotCut (cond t Cut (Whole (u16_at a 2) 4 (2 + size)))
      → cond (ltb (length (a ++ b) - 0 - 2) size) Cut (Whole (u16_at (a ++ b) 2) 4 (2 + size)) ≡ cond t Cut (Whole (u16_at a 2) 4 (2 + size))
  grows_whole size true e s n = absurd (n refl)
  grows_whole size false e s n =
      let h : size ≤ length a - 0 - 2 = ltb-false _ _ e in
      rw (le-ltb (length (a ++ b) - 0 - 2) size (omega (arith, longer))) (ap (λ (kind : ℕ). Whole kind 4 (2 + size)) (number_grows 2 (omega arith)))

  grows_sized : (size : ℕ) (t : Bool) → ltb size 2 ≡ t
      → NotCut (cond t Bad (cond (ltb (length a - 0 - 2) size) Cut (Whole (u16_at a 2) 4 (2 + size))))
      → cond t Bad (cond (ltb (length (a ++ b) - 0 - 2) size) Cut (Whole (u16_at (a ++ b) 2) 4 (2 + size)))
      ≡ cond t Bad (cond (ltb (length a - 0 - 2) size) Cut (Whole (u16_at a 2) 4 (2 + size)))
  grows_sized size true e n = refl
  grows_sized size false e n = grows_whole size (ltb (length a - 0 - 2) size) refl (ltb-false _ _ e) n

  grows_some : (t : Bool) → ltb (length a - 0) 2 ≡ t → NotCut (cond t Cut (sized_outer a 0 (u16_at a 0)))
      → cond (ltb (length (a ++ b) - 0) 2) Cut (sized_outer (a ++ b) 0 (u16_at (a ++ b) 0)) ≡ cond t Cut (sized_outer a 0 (u16_at a 0))
  grows_some true e n = absurd (n refl)
  grows_some false e n =
      let h : 2 ≤ length a - 0 = ltb-false _ _ e in
      rw (le-ltb (length (a ++ b) - 0) 2 (omega (arith, longer)))
      (ap (sized_outer (a ++ b) 0) (number_grows 0 (omega arith)) ∙ grows_sized (u16_at a 0) (ltb (u16_at a 0) 2) refl n)

  pub outer_grows : NotCut (outer_at a 0) → outer_at (a ++ b) 0 ≡ outer_at a 0
  unfolding outer_at
  outer_grows n = grows_some (ltb (length a - 0) 2) refl n

  -- the payload of a record that lies in the bytes
  pub payload_grows : (start end : ℕ) → Inside a start end → take (end - start) (drop start (a ++ b)) ≡ take (end - start) (drop start a)
  payload_grows start end l =
      let starts = l.starts in
      let there = l.there in
      let long = l.long in
      ap (take (end - start)) (drop-append-le start a b (omega arith))
      ∙ take-append-le (end - start) (drop start a) b (omega (arith, length-drop start a))

  step_at_grows : (s : Stored) (number : ℕ) (k : Kept) (p : Outer) → Lies a p → NotCut p → step_at p s (a ++ b) number k ≡ step_at p s a number k
  unfolding step_at
  step_at_grows s number k (Whole kind start end) l n = rw (payload_grows start end l)
  step_at_grows s number k Cut l n = absurd (n refl)
  step_at_grows s number k Bad l n = refl

  pub step_grows : (s : Stored) (number : ℕ) (k : Kept) → NotCut (outer_at a 0) → step_of s (a ++ b) number k ≡ step_of s a number k
  unfolding step_of
  step_grows s number k n = rw (outer_grows n) (step_at_grows s number k (outer_at a 0) (lies a) n)
