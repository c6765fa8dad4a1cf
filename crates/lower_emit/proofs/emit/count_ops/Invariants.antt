-- `lower_emit::emit::count_ops`: what is counted, and what is left to count, is all.
use Rattle.std.proofs.Common.{◌≡◌, ◌+◌, ◌-◌}
use Rattle.lower_emit.specs.Emit.{op_lens}
use Rattle.lower_emit.proofs.emit.count_ops.Given as goal

abbrev pub invariant-loop-k : goal.invariant-loop-k
invariant-loop-k l = l.total + op_lens l.b.nums.now l.k (l.b.ops - l.k) ≡ op_lens l.b.nums.now 0 l.b.ops
