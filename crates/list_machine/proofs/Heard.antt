-- However the input is cut into pieces, the machine prints the listing of the whole.
use Rattle.std.proofs.Common.{◌≡◌, refl, sym, ◌∙◌, ap, Bool, true, false, List, [], ◌∷◌, ◌++◌, append-nil, append_assoc, ℕ, zero, suc, ◌+◌, ◌≤◌, ◌<◌, length, drop, length-append, length-drop, arith}
use Rattle.list_text.specs.Line.{bad_line, line_room}
use Rattle.list_rows.specs.Listing.{storage_lent, at_first, listing}
use Rattle.list_machine.specs.Begin.{Rooms, lengths_of, Began, begin_of}
use Rattle.list_machine.specs.Heard.{joined, turns, rows_heard, heard}
use Rattle.list_machine.proofs.Begins.{circuit_in, begin_ends, begin_goes, begin_waits}
use Rattle.list_machine.proofs.Rows.{rows_heard_lem}

-- what the machine prints after the beginning: whether it has ended, and whether rows are due
abbrev after : ℕ → Rooms → ℕ → List ℕ → List (List ℕ) → Began → Bool → Bool → List ℕ
after fuel m room bytes pieces b ended goes =
    elim ended as (λ _. List ℕ) [
      | true ↦ b.text
      | false ↦ elim goes as (λ _. List ℕ) [
        | true ↦ rows_heard fuel (circuit_in b) room (drop b.read bytes) pieces 0 (at_first b.counts)
        | false ↦ elim pieces as (λ _. List ℕ) [ [] ↦ bad_line | piece ∷ rest ↦ heard fuel m room (bytes ++ piece) rest ]
      ]
    ]

module _ (m : Rooms) (lent : lengths_of m ≡ storage_lent) (room : ℕ) (wide : line_room ≤ room) where
  pub heard_lists : (fuel : ℕ) (bytes : List ℕ) (pieces : List (List ℕ)) → length bytes + turns pieces + 1 < fuel
      → heard fuel m room bytes pieces ≡ listing (bytes ++ joined pieces)
  unfolding heard turns joined
  heard_lists zero bytes pieces h = absurd (omega arith)
  heard_lists (suc fuel) bytes pieces h =
      go (λ b p f. heard_lists fuel b p f) pieces h (begin_of m bytes).ended refl (begin_of m bytes).goes refl
    where
      go : ((bytes : List ℕ) (pieces : List (List ℕ)) → length bytes + turns pieces + 1 < fuel
          → heard fuel m room bytes pieces ≡ listing (bytes ++ joined pieces))
          → (pieces : List (List ℕ)) → length bytes + turns pieces + 1 < suc fuel
          → (ended : Bool) → (begin_of m bytes).ended ≡ ended → (goes : Bool) → (begin_of m bytes).goes ≡ goes
          → after fuel m room bytes pieces (begin_of m bytes) ended goes ≡ listing (bytes ++ joined pieces)
      go again pieces h true e goes g = sym (begin_ends m bytes (joined pieces) lent e)
      go again pieces h false e true g =
          let b = begin_of m bytes in
          rows_heard_lem (circuit_in b) room wide fuel (drop b.read bytes) pieces 0 (at_first b.counts) (omega (arith, length-drop b.read bytes))
          ∙ sym (begin_goes m bytes (joined pieces) lent g)
      go again [] h false e false g = sym (ap listing (append-nil bytes) ∙ begin_waits m bytes e g)
      go again (piece ∷ rest) h false e false g =
          again (bytes ++ piece) rest (omega (arith, length-append bytes piece)) ∙ ap listing (append_assoc bytes piece (joined rest))

  -- from the first piece on
  pub all_heard : (fuel : ℕ) (pieces : List (List ℕ)) → turns pieces + 1 < fuel → heard fuel m room [] pieces ≡ listing (joined pieces)
  all_heard fuel pieces h = heard_lists fuel [] pieces (omega arith)
