-- `lower_emit::emit::Writer::write_outputs`: the output forms that are left, written from here, are all of them written from the start.
use Rattle.std.proofs.Common.{◌≡◌, ◌+◌, ◌-◌}
use Rattle.builder_table.specs.Loans.{memory}
use Rattle.lower_emit.specs.Emit.{output_lens, outputs_in}
use Rattle.lower_emit.specs.Written.{image_of, WritesTo}
use Rattle.lower_emit.proofs.emit.Writer.write_outputs.Given as goal

abbrev pub invariant-loop-k : goal.invariant-loop-k
invariant-loop-k l = record {
  lent : WritesTo l.initial.self l.self;
  left : l.self.next + output_lens l.b.nums.now l.nodes l.k (l.n - l.k) ≡ l.initial.self.next + output_lens l.b.nums.now l.nodes 0 l.n;
  written : outputs_in (image_of l.self) (memory l.b) l.nodes l.k (l.n - l.k) ≡ outputs_in (image_of l.initial.self) (memory l.b) l.nodes 0 l.n;
}
