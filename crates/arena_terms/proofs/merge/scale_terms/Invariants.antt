-- `arena_terms::merge::scale_terms`: to put the multiple of what is left is to put the whole multiple.
use Rattle.std.proofs.Common.{◌+◌, ◌-◌, ◌≤◌}
use Rattle.wire.specs.Terms.{part, terms_of}
use Rattle.arena_terms.specs.Sums.{scaled_terms}
use Rattle.arena_terms.proofs.Put.{Going}
use Rattle.arena_terms.proofs.merge.scale_terms.Given as goal

abbrev pub invariant-loop-i : goal.invariant-loop-i
invariant-loop-i l = record {
  past_use : l.used ≤ l.at;
  room : l.at + l.fn.a.first ≤ l.used + l.i;
  going : Going l.wires l.coefs l.at (scaled_terms l.factor (part l.wires l.coefs l.i (l.i-end - l.i)))
      l.initial.wires l.initial.coefs l.used (scaled_terms l.factor (terms_of l.initial.wires l.initial.coefs l.fn.a));
}
