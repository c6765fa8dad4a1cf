-- A loop that writes a list entry by entry into a slice, as far as there is room.
use Rattle.std.proofs.Common.{◌≡◌, refl, sym, ◌∙◌, ap, List, [], ◌∷◌, ◌++◌, append_assoc, append-nil, ℕ, suc, ◌+◌, arith, length, set, length-append}
use Rattle.std.proofs.Math.Seq.{sets}

sets_snoc : (l xs : List ℕ) (i x : ℕ) → sets l i (xs ++ x ∷ []) ≡ set (sets l i xs) (i + length xs) x
sets_snoc l [] i x = let e : i + 0 ≡ i = omega arith in rw e
sets_snoc l (a ∷ xs) i x =
    let e : suc i + length xs ≡ i + suc (length xs) = omega arith in
    sets_snoc (set l i a) xs (suc i) x ∙ rw e

-- the first `done` entries of the whole list are written, and `rest` is still to be
pub record Said (whole entry now : List ℕ) (done : ℕ) (rest : List ℕ) : Type 0 where
  pub said : List ℕ
  pub long : length said ≡ done
  pub written : now ≡ sets entry 0 said
  pub all : whole ≡ said ++ rest

pub said_none : (whole entry : List ℕ) → Said whole entry entry 0 whole
said_none whole entry = record { said = []; long = refl; written = refl; all = refl }

pub said_more : {whole entry now : List ℕ} {done : ℕ} (x : ℕ) (rest : List ℕ) → Said whole entry now done (x ∷ rest)
    → Said whole entry (set now done x) (done + 1) rest
said_more {whole} {entry} {now} {done} x rest s =
    let l = s.long in
    let e : 0 + length s.said ≡ done = omega arith in
    record {
      said = s.said ++ x ∷ [];
      long = length-append s.said (x ∷ []) ∙ omega arith;
      written = rw s.written (sym (sets_snoc entry s.said 0 x ∙ rw e));
      all = s.all ∙ sym (append_assoc s.said (x ∷ []) rest);
    }

-- what is left to write may be said otherwise
pub said_as : {whole entry now : List ℕ} {done : ℕ} (rest rest' : List ℕ) → rest ≡ rest' → Said whole entry now done rest → Said whole entry now done rest'
said_as rest rest' e s = record { said = s.said; long = s.long; written = s.written; all = s.all ∙ ap (λ (r : List ℕ). s.said ++ r) e }

pub said_all : {whole entry now : List ℕ} {done : ℕ} → Said whole entry now done [] → (done ≡ length whole) × (now ≡ sets entry 0 whole)
said_all {whole} {entry} s =
    let e : whole ≡ s.said = s.all ∙ append-nil s.said in
    (sym (ap length e ∙ s.long), s.written ∙ ap (sets entry 0) (sym e))
