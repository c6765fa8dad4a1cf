-- What is left to list, a step further on.
use Rattle.std.proofs.Common.{◌≡◌, ℕ, zero, suc, ◌≤◌, Bool, true, false, List, [], ◌∷◌, ◌++◌, length, drop, refl, ap, arith, length-append, length-drop}
use Rattle.std.proofs.lemmas.List.{drop-append-le}
use Rattle.tick_check.specs.Check.{Stored}
use Rattle.list_text.specs.Outer.{outer_at}
use Rattle.list_rows.specs.Rows.{Kept, step_at, step_of}
use Rattle.list_rows.specs.Listing.{rest_from, rest_of}
use Rattle.list_rows.proofs.Grown.{NotCut, step_grows}
use Rattle.list_rows.proofs.Turns.{modest}

module _ (s : Stored) (number : ℕ) (k : Kept) where
  -- a step that goes on, or that ends the run, is at no record that is cut
  goes_not_cut : (bytes : List ℕ) → (step_of s bytes number k).goes ≡ true → NotCut (outer_at bytes 0)
  unfolding step_of step_at
  goes_not_cut bytes e = λ cut. cc

  ended_not_cut : (bytes : List ℕ) → (step_of s bytes number k).ended ≡ true → NotCut (outer_at bytes 0)
  unfolding step_of step_at
  ended_not_cut bytes e = λ cut. cc

-- any fuel that is enough prints the same
same_rest : (f g : ℕ) (s : Stored) (bytes : List ℕ) (number : ℕ) (k : Kept) → length bytes ≤ f → length bytes ≤ g
    → rest_from f s bytes number k ≡ rest_from g s bytes number k
unfolding rest_from
same_rest zero zero s bytes number k hf hg = refl
same_rest zero (suc g) s [] number k hf hg = refl
same_rest zero (suc g) s (x ∷ xs) number k hf hg = absurd (omega arith)
same_rest (suc f) zero s [] number k hf hg = refl
same_rest (suc f) zero s (x ∷ xs) number k hf hg = absurd (omega arith)
same_rest (suc f) (suc g) s [] number k hf hg = refl
same_rest (suc f) (suc g) s (x ∷ xs) number k hf hg =
    let o = step_of s (x ∷ xs) number k in
    go o.goes refl
    (λ e. let some = (modest s (x ∷ xs) number k).some e in
    same_rest f g s (drop o.read (x ∷ xs)) o.number o.kept (omega (arith, length-drop o.read (x ∷ xs))) (omega (arith, length-drop o.read (x ∷ xs))))
  where
    go : (t : Bool) → (step_of s (x ∷ xs) number k).goes ≡ t
        → ((step_of s (x ∷ xs) number k).goes ≡ true
        → (let o = step_of s (x ∷ xs) number k in
        let left = drop o.read (x ∷ xs) in rest_from f s left o.number o.kept ≡ rest_from g s left o.number o.kept))
        → rest_from (suc f) s (x ∷ xs) number k ≡ rest_from (suc g) s (x ∷ xs) number k
    go true e h = rw (rest_from, e) (ap (λ (l : List ℕ). (step_of s (x ∷ xs) number k).text ++ l) (h e))
    go false e h = rw (rest_from, e)

module _ (s : Stored) (number : ℕ) (k : Kept) (more : List ℕ) where
  -- a step that goes on
  pub rest_goes : (bytes : List ℕ) → (step_of s bytes number k).goes ≡ true
      → rest_of s (bytes ++ more) number k ≡ (let o = step_of s bytes number k in o.text ++ rest_of s (drop o.read bytes ++ more) o.number o.kept)
  unfolding rest_of rest_from
  rest_goes [] e = let m = modest s [] number k in absurd (omega (arith, m.some e, m.there))
  rest_goes (x ∷ xs) e =
      let bytes = x ∷ xs in
      let o = step_of s bytes number k in
      let m = modest s bytes number k in
      let some = m.some e in
      let there = m.there in
      let grown = step_grows bytes more s number k (goes_not_cut s number k bytes e) in
      rw (rest_of, rest_from, grown, e, grown, drop-append-le o.read bytes more there)
      (ap (λ (l : List ℕ). o.text ++ l) (same_rest (length (xs ++ more)) _ s (drop o.read bytes ++ more) o.number o.kept
      (omega (arith, length-append {A = ℕ}, length-drop o.read bytes)) (omega arith)))

  -- a step that ends the run
  pub rest_ends : (bytes : List ℕ) → (step_of s bytes number k).goes ≡ false → (step_of s bytes number k).ended ≡ true
      → rest_of s (bytes ++ more) number k ≡ (step_of s bytes number k).text
  unfolding rest_of rest_from outer_at
  rest_ends [] g e = absurd (ended_not_cut s number k [] e refl)
  rest_ends (x ∷ xs) g e =
      let grown = step_grows (x ∷ xs) more s number k (ended_not_cut s number k (x ∷ xs) e) in
      rw (rest_of, rest_from, grown, g, grown, e, grown)
