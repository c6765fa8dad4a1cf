-- What a circuit that passes the check tells whoever reads it without a test. Inner: what functions behind the check ask; nobody need believe it.
use Rattle.std.specs.Prelude.{ℕ, ◌+◌, ◌*◌, ◌≤◌, ◌<◌, ◌≡◌, length, get_or}
use Rattle.wire.specs.declared.Counts.{Counts}
use Rattle.wire.specs.Held.{Held}
use Rattle.wire.specs.Storage.{leaves_from, output_form, output_count}
use Rattle.wire_pool.specs.Values.{Readable, OpReadable}
use Rattle.tick_check.specs.Check.{Stored}

pub record Sizes (n : Counts) : Type 0 where
  pub some : 0 < n.nodes
  pub few : n.nodes ≤ 128
  pub cursors : n.cursors ≤ n.nodes
  pub leaves : n.leaves ≤ n.nodes
  pub cells : n.cells ≡ n.nodes + n.cursors + 3 * n.leaves

pub record Checked (s : Stored) : Type 0 where
  pub sizes : Sizes s.counts
  pub held : Held s.counts (length s.nums) (length s.biases) (length s.wires) (length s.coefs)
  pub ops : (i : ℕ) → i < s.counts.ops → OpReadable s.nums s.biases s.wires s.coefs (s.counts.cells + i) i
  pub outs : (k : ℕ) → k < output_count s.counts → Readable s.wires s.coefs (s.counts.cells + s.counts.ops) (output_form s.nums s.biases k)
  pub leaves : (i : ℕ) → i < s.counts.leaves → get_or s.nums (leaves_from + i) 0 < s.counts.nodes
