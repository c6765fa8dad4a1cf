-- `lower_emit::emit::count_outputs`: what is counted, and what is left to count, is all.
use Rattle.std.proofs.Common.{◌≡◌, ◌+◌, ◌-◌}
use Rattle.lower_emit.specs.Emit.{output_lens}
use Rattle.lower_emit.proofs.emit.count_outputs.Given as goal

abbrev pub invariant-loop-k : goal.invariant-loop-k
invariant-loop-k l = l.total + output_lens l.b.nums.now l.nodes l.k (l.n - l.k) ≡ output_lens l.b.nums.now l.nodes 0 l.n
