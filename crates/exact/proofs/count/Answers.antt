-- `exact::count` meets its contract.
use mathlib.Core.Path.{◌≡◌, sym, ap, ◌∙◌, subst}
use mathlib.Core.Bool.{Bool, ◌&&◌, cond}
use lib.Dec.{T}
use lib.Ieee.{le}
use Rattle.exact.specs.Whole.{zero32, cursor_most32}
use Rattle.exact.specs.Tests.{natural, whole_size, count_of}
use Rattle.exact.proofs.Cursor.{Cursor, cursor_test, cursor_is, cursor_cast}
use Rattle.exact.proofs.count.Goals as goal
use Rattle.exact.proofs.count.Goals.{After-is_small, Then-is_small-x}

-- the test that the code makes is the definition's
asked : (c : After-is_small) → c.is_small.result && (le zero32 c.args.x && le c.args.x cursor_most32) ≡ natural c.args.x && le c.args.x cursor_most32
asked c = ap (λ (t : Bool). t && (le zero32 c.args.x && le c.args.x cursor_most32)) c.is_small.ensures ∙ cursor_test c.args.x

passed : (c : Then-is_small-x) → Cursor c.args.x
passed c =
    cursor_is c.args.x (subst T (sym c.well_formed.0.1) tt) (subst T (sym c.if-is_small-x.true ∙ asked c.before) tt)

pub float_to_int-result : goal.float_to_int-result
float_to_int-result c = (cursor_cast c.args.x (passed (goal.at.float_to_int-result c).Then-is_small-x)).0

pub returns-then-is_small-x : goal.returns-then-is_small-x
returns-then-is_small-x c = (cursor_cast c.args.x (passed (goal.at.returns-then-is_small-x c).Then-is_small-x)).1

pub returns : goal.returns
unfolding count_of
returns c = ap (λ (t : Bool). cond t (whole_size c.args.x) 65536) (sym c.if-is_small-x.false ∙ asked (goal.at.returns c).After-is_small)
