-- `arena_terms::merge::merge_terms`: to put the merge of what is left is to put the whole merge.
use Rattle.std.proofs.Common.{◌+◌, ◌≤◌}
use Rattle.wire.specs.Terms.{terms_of}
use Rattle.arena_terms.specs.Sums.{kept, merge}
use Rattle.arena_terms.proofs.Put.{Going}
use Rattle.arena_terms.proofs.merge.merge_terms.Given as goal

abbrev pub invariant-loop-a : goal.invariant-loop-a
invariant-loop-a l = record {
  a_in_use : l.a.first + l.a.len ≤ l.used;
  b_in_use : l.b.first + l.b.len ≤ l.used;
  past_use : l.used ≤ l.at;
  room : l.at + l.a.len + l.b.len ≤ l.used + l.initial.a.len + l.initial.b.len;
  going : Going l.wires l.coefs l.at (kept (merge (terms_of l.wires l.coefs l.a) (terms_of l.wires l.coefs l.b)))
      l.initial.wires l.initial.coefs l.used (kept
      (merge (terms_of l.initial.wires l.initial.coefs l.initial.a) (terms_of l.initial.wires l.initial.coefs l.initial.b)));
}

abbrev pub decreases-loop-a : goal.decreases-loop-a
decreases-loop-a l = l.a.len + l.b.len
