-- `lower_emit::write_lists` meets its contract.
use Rattle.lower_emit.proofs.Lists.{listed_made}
use Rattle.lower_emit.proofs.write_lists.Goals as goal

pub returns-clause-listed : goal.returns-clause-listed
returns-clause-listed c =
    listed_made c.args.storage.now.nums.now c.args.kinds.now c.args.counts.now
    c.leaf_list-leaves.ensures.leaves_after c.cursor_list-cursors.ensures.cursors_after c.report_order.ensures.report_after
