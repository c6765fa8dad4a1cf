-- Answers as C sees them: document 01's number and place, and of a broken invariant the case and the offending float. Definitions only.
use Rattle.std.specs.Prelude.{ℕ, Bool, Err, cond}
use Rattle.exact.specs.Whole.{zero32}
use Rattle.tick_verdict.specs.declared.InvariantError.{InvariantError}
use Rattle.tick_verdict.specs.Refusal as invariant
use Rattle.validate.specs.Validate.{Validated}
use Rattle.validate.specs.Refusal as validated
use Rattle.tick_lane.specs.declared.TickError.TheVariants as is
use Rattle.tick_lane.specs.Lane.{Ticked, number_of, place_of, Lent, Outcome}
use Rattle.tick_refusal.specs.declared.Refusal.{Refusal}

-- 17 where it is no circuit, else 0
abbrev pub check_number : Bool → ℕ
check_number ok = cond ok 0 17

abbrev pub of_validated : Validated → Refusal
of_validated v = record { number = validated.number_of v; broken = validated.case_of v; place = validated.place_of v; value = validated.float_of v }

-- no refusal, or one with no invariant in it
abbrev pub plain : ℕ → ℕ → Refusal
plain number place = record { number = number; broken = 0; place = place; value = zero32 }

-- 18, with what is broken
abbrev pub broken : InvariantError → Refusal
broken what = record { number = 18; broken = invariant.case_of what; place = invariant.place_of what; value = invariant.float_of what }

abbrev pub of_ticked : Ticked → Refusal
of_ticked (Err (is.BadInvariant what)) = broken what
of_ticked t = plain (number_of t) (place_of t)

-- a tick's outcome with the answer so
pub record Told : Type 0 where
  pub answer : Refusal
  pub left : Lent

abbrev pub told : Refusal → Lent → Told
told r l = record { answer = r; left = l }

abbrev pub tell : Outcome → Told
tell o = told (of_ticked o.answer) o.left
