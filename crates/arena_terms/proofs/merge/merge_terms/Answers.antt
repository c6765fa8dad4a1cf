-- `arena_terms::merge::merge_terms`: a turn puts one term more.
use Rattle.std.proofs.Common.{arith}
use Rattle.arena_terms.proofs.Turns.{put_short, merged_on}
use Rattle.arena_terms.proofs.merge.merge_terms.Goals as goal

pub loop-a-preserved : goal.loop-a-preserved
loop-a-preserved c =
    let short = put_short _ c.push_term-at.ensures in
    record {
      a_in_use = omega arith;
      b_in_use = omega arith;
      past_use = omega arith;
      room = omega arith;
      going = merged_on c.loop-a.invariant.going c.next_term-next.ensures c.push_term-at.ensures (omega arith) (omega arith);
    }
