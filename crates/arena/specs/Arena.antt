-- The operations of crate arena_terms, specs/Sums, in an arena: the terms in use are those of the two lent pools below `used`, and a new form's terms are
-- written right past them.
-- An operation answers a form and the room that is left. Where there was no room it writes nothing, and the flag `ok` falls and stays down.
-- Inner: the shape of the code; nobody need believe it.
use Rattle.std.specs.Prelude.{ℕ, ◌+◌, ◌≡◌, List, [], ◌∷◌, true, false, cond, length, eqb, Float}
use Rattle.std.proofs.lemmas.List.Edits.{sets}
use Rattle.std.specs.Float.{binary32}
use Rattle.std.specs.Float.Ieee.{add}
use Rattle.exact.specs.Whole.{zero32, one32, minus_one32}
use Rattle.wire.specs.declared.Form.{Form}
use Rattle.wire.specs.declared.Term.{Term}
use Rattle.wire.specs.Terms.{terms_of, constant_form}
use Rattle.wire.specs.Storage.{term_slots}
use Rattle.arena_terms.specs.Sums.{kept, merge, times, scaled_terms}
use Rattle.arena_terms.specs.Steps.{wires_in, coefs_in}
use Rattle.arena_room.specs.declared.Room.{Room}
use Rattle.arena_room.specs.Fits.{single_fits, fits_sum, fits_scaled}

-- what an operation leaves and answers
pub record Outcome : Type 0 where
  pub wires : List ℕ
  pub coefs : List Float
  pub form : Form
  pub room : Room

-- a form that was made, and the room that is left
pub record Formed : Type 0 where
  pub form : Form
  pub room : Room

abbrev pub formed : Form → Room → Formed
formed f room = record { form = f; room = room }

-- the pools end as ws and cs, and the answer is r, as the outcome says
pub record Leaves (o : Outcome) (ws : List ℕ) (cs : List Float) (r : Formed) : Type 0 where
  pub wires : ws ≡ o.wires
  pub coefs : cs ≡ o.coefs
  pub form : r.form ≡ o.form
  pub room : r.room ≡ o.room

-- no room: nothing is written
abbrev pub refused_in : List ℕ → List Float → Room → Outcome
refused_in ws cs room = record { wires = ws; coefs = cs; form = constant_form zero32; room = record { used = room.used; ok = false } }

-- the terms of f, shared, with another bias
abbrev pub shared_in : List ℕ → List Float → Room → Float → Form → Outcome
shared_in ws cs room bias f = record { wires = ws; coefs = cs; form = record { bias = bias; first = f.first; len = f.len }; room = room }

-- the terms ts, written past those in use
abbrev pub written_in : List ℕ → List Float → ℕ → Float → List Term → Outcome
written_in ws cs used bias ts =
    record {
      wires = sets ws used (wires_in ts);
      coefs = sets cs used (coefs_in ts);
      form = record { bias = bias; first = used; len = length ts };
      room = record { used = used + length ts; ok = true };
    }

-- ---- the operations

abbrev pub offset_form : Float → Form → Form
offset_form shift f = record { bias = add binary32 f.bias shift; first = f.first; len = f.len }

unfoldable pub single_in : List ℕ → List Float → Room → ℕ → Outcome
single_in ws cs room w =
    cond (single_fits (term_slots (length ws) (length cs)) room)
    (written_in ws cs room.used zero32 (record { wire = record { 0 = w }; coef = one32 } ∷ []))
    (refused_in ws cs room)

unfoldable pub plus_in : List ℕ → List Float → Room → Form → Form → Outcome
unfolding kept merge
plus_in ws cs room a b =
    let bias = add binary32 a.bias b.bias in
    cond (eqb b.len 0)
    (shared_in ws cs room bias a)
    (cond (eqb a.len 0)
    (shared_in ws cs room bias b)
    (cond (fits_sum (term_slots (length ws) (length cs)) room a b)
    (written_in ws cs room.used bias (kept (merge (terms_of ws cs a) (terms_of ws cs b))))
    (refused_in ws cs room)))

unfoldable pub scaled_in : List ℕ → List Float → Room → Form → Float → Outcome
unfolding kept
scaled_in ws cs room a factor =
    cond (fits_scaled (term_slots (length ws) (length cs)) room a)
    (written_in ws cs room.used (times factor a.bias) (scaled_terms factor (terms_of ws cs a)))
    (refused_in ws cs room)

unfoldable pub one_minus_in : List ℕ → List Float → Room → Form → Outcome
unfolding scaled_in
one_minus_in ws cs room a =
    let o = scaled_in ws cs room a minus_one32 in
    record { wires = o.wires; coefs = o.coefs; form = offset_form one32 o.form; room = o.room }
