-- A part put into a line, said of the whole line.
use Rattle.std.proofs.Common.{◌≡◌, sym, ◌∙◌, ap, subst, List, ◌++◌, ℕ, ◌+◌, length, take, drop}
use Rattle.std.proofs.Common.{take-append-drop}
use Rattle.text.specs.Text.{Appended}

-- the whole line that is left
pub whole : {before : List ℕ} {at : ℕ} {part after : List ℕ} {end : ℕ} → Appended before at part after end
    → after ≡ (take at before ++ part) ++ drop (at + length part) before
whole {before} {at} {part} {after} {end} a =
    sym (take-append-drop end after) ∙ (λ i. a.text i ++ (a.rest ∙ ap (λ (k : ℕ). drop k before) a.next) i)

-- the same part, said otherwise
pub same_part : {before : List ℕ} {at : ℕ} {part part' after : List ℕ} {end : ℕ} → part ≡ part' → Appended before at part after end
    → Appended before at part' after end
same_part {before} {at} {after = after} {end = end} e a = subst (λ (p : List ℕ). Appended before at p after end) e a
