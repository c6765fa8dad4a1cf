-- `exact::is_natural` meets its contract.
use mathlib.Core.Path.{sym, subst}
use mathlib.Core.Bool.{Bool, not}
use lib.Dec.{T}
use Rattle.exact.proofs.Naturals.{natural_high, natural_low}
use Rattle.exact.proofs.is_natural.Goals as goal

pub returns-then-x : goal.returns-then-x
returns-then-x c = natural_high c.args.x (subst T (sym c.well_formed.0.1) tt) (subst T (sym c.if-x.true) tt)

pub returns : goal.returns
returns c = natural_low c.args.x (subst (λ (t : Bool). T (not t)) (sym c.if-x.false) tt)
