-- `exact::is_small` meets its contract.
use Rattle.exact.proofs.Small.{small_test}
use Rattle.exact.proofs.is_small.Goals as goal

pub returns : goal.returns
returns c = small_test c.args.x
