-- `wire_read::is_readable` meets its contract.
use mathlib.Core.Path.{◌≡◌, ◌∙◌}
use Prim.Native.Nat.{◌-◌}
use native.Mathlib.Omega.{arith}
use Rattle.std.proofs.Common.{rules, tests}
use Rattle.std.proofs.lemmas.Iterator.{YieldsList-from_slice}
use Rattle.std.proofs.lemmas.Iterator.Search.{all_from_yields_List}
use lib.Dec.{ltb}
use lib.ListN.{take, drop}
use Rattle.wire_read.proofs.Reading.{reads_part, reads_is}
use Rattle.wire_read.proofs.is_readable.Goals as goal

pub returns : goal.returns
returns c =
    let f = c.args.f in
    let part = take f.len (drop f.first c.args.pools.wires.now) in
    let long : c.in-Some.end - f.first ≡ f.len = omega arith in
    let items = YieldsList-from_slice part (rw long at c.iter.ensures.rest) in
    all_from_yields_List (λ w. ltb w c.args.n) _ _ _ c.all.ensures.ran items (λ x b q k. search (rules, tests))
    ∙ reads_part _ _ f.first f.len (omega arith) ∙ reads_is _ _ _ f (omega arith) (omega arith)
