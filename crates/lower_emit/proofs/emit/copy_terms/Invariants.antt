-- `lower_emit::emit::copy_terms`: to copy what is left, from here, is to copy all of it from the start.
use Rattle.std.proofs.Common.{◌≡◌, ◌+◌, ◌-◌, length}
use Rattle.wire.specs.Terms.{part, terms_of}
use Rattle.arena_terms.proofs.Put.{Going}
use Rattle.lower_emit.proofs.emit.copy_terms.Given as goal

abbrev pub invariant-loop-k : goal.invariant-loop-k
invariant-loop-k l = record {
  wires_len : length l.wires ≡ length l.initial.wires;
  coefs_len : length l.coefs ≡ length l.initial.coefs;
  going : Going l.wires l.coefs (l.next + l.k) (part l.from.wires.now l.from.coefs.now (l.f.first + l.k) (l.f.len - l.k))
      l.initial.wires l.initial.coefs l.next (terms_of l.from.wires.now l.from.coefs.now l.f);
}
