-- `arena_terms::merge::scale_terms`: a turn puts one term more.
use Rattle.std.proofs.Common.{◌+◌, arith}
use Rattle.arena_terms.proofs.Turns.{put_short, scaled_on}
use Rattle.arena_terms.proofs.merge.scale_terms.Goals as goal

pub loop-i-preserved : goal.loop-i-preserved
loop-i-preserved c =
    let end = c.args.a.first + c.args.a.len in
    let put = c.push_term-at.ensures in
    let short = put_short _ put in
    record {
      past_use = omega arith;
      room = omega arith;
      going = scaled_on c.args.factor c.loop-i.i end c.loop-i.invariant.going c.term_at-term.ensures put (omega arith) (omega arith);
    }
