-- `lower_emit::emit::Writer::write_ops`: the ops that are left, written from here, are all of them written from the start.
use Rattle.std.proofs.Common.{◌≡◌, ◌+◌, ◌-◌}
use Rattle.builder_table.specs.Loans.{memory}
use Rattle.lower_emit.specs.Emit.{op_lens, ops_in}
use Rattle.lower_emit.specs.Written.{image_of, WritesTo}
use Rattle.lower_emit.proofs.emit.Writer.write_ops.Given as goal

abbrev pub invariant-loop-k : goal.invariant-loop-k
invariant-loop-k l = record {
  lent : WritesTo l.initial.self l.self;
  left : l.self.next + op_lens l.b.nums.now l.k (l.b.ops - l.k) ≡ l.initial.self.next + op_lens l.b.nums.now 0 l.b.ops;
  written : ops_in (image_of l.self) (memory l.b) l.k (l.b.ops - l.k) ≡ ops_in (image_of l.initial.self) (memory l.b) 0 l.b.ops;
}
