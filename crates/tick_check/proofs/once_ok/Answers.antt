-- Nothing is counted at first; and each count that is read is that of the whole list.
use Rattle.std.proofs.Common.{◌≡◌, ◌<◌, length, get_or, take, refl, sym, ap, ◌∙◌, arith, add-one}
use Rattle.std.proofs.lemmas.List.{get_or-take}
use Rattle.std.proofs.lemmas.Grind.{common_steps}
use Rattle.lists.specs.All.{all}
use Rattle.tick_check.specs.Check.{times}
use Rattle.tick_check.proofs.Count.{zeros, times_none}
use Rattle.tick_check.proofs.once_ok.Goals as goal

pub loop-x-init : goal.loop-x-init
loop-x-init c = (refl, (λ v l. zeros 129 v ∙ sym (times_none c.args.list.now 0 v)), (λ v. let z = zeros 129 v in omega arith))

pub loop-times-preserved : goal.loop-times-preserved
unfolding all
loop-times-preserved c =
    let xs = c.args.list.now in
    let v = c.loop-times.times-index in
    let inside : v < length xs = grind (arith, common_steps) in
    let counted : get_or (take (length xs) c.loop-x.seen) v 0 ≡ times xs 0 v (length xs) =
    get_or-take (length xs) c.loop-x.seen v 0 (omega arith) ∙ c.loop-x.invariant.1 v (omega arith) ∙ ap (times xs 0 v) (omega arith) in
    rw (add-one v, counted, c.loop-times.invariant) refl
