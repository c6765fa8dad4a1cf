-- Marks, one byte after the other.
use Rattle.std.proofs.Common.{add-one, ◌≡◌, ℕ, zero, suc, ◌+◌, ◌<◌, List, [], ◌∷◌, length, ◌++◌, take, get_or, refl, ap, arith}
use Rattle.list_text.specs.Line.{mark, marks}

pub marks_length : (statuses halts : List ℕ) → length (marks statuses halts) ≡ length statuses
unfolding marks
marks_length [] halts = refl
marks_length (s ∷ ss) [] = ap suc (marks_length ss [])
marks_length (s ∷ ss) (h ∷ hs) = ap suc (marks_length ss hs)

-- a mark more
marks_suc : (statuses halts : List ℕ) (i : ℕ) → i < length statuses
    → marks (take (suc i) statuses) halts ≡ marks (take i statuses) halts ++ mark (get_or statuses i 0) (get_or halts i 0) ∷ []
unfolding marks
marks_suc [] halts i h = absurd (omega arith)
marks_suc (s ∷ ss) [] zero h = refl
marks_suc (s ∷ ss) [] (suc i) h = ap (λ l. mark s 0 ∷ l) (marks_suc ss [] i (omega arith))
marks_suc (s ∷ ss) (x ∷ hs) zero h = refl
marks_suc (s ∷ ss) (x ∷ hs) (suc i) h = ap (λ l. mark s x ∷ l) (marks_suc ss hs i (omega arith))

pub marks_more : (statuses halts : List ℕ) (i : ℕ) → i < length statuses
    → marks (take (i + 1) statuses) halts ≡ marks (take i statuses) halts ++ mark (get_or statuses i 0) (get_or halts i 0) ∷ []
marks_more statuses halts i h = rw add-one (marks_suc statuses halts i h)
