-- The first two loops of lower_ordered on all that is lent: whether the walk gets past each child, and whether every earlier child was passed.
-- Children stand on a stack with the first on top, so the k-th child's form is k slots below. Inner: the shape of the code; nobody need believe it.
use Rattle.std.specs.Prelude.{ℕ, zero, suc, ◌+◌, ◌-◌}
use Rattle.wire.specs.declared.Form.{Form}
use Rattle.construct_floats.specs.Floats.{number}
use Rattle.builder_table.specs.Work.{Standing, Mem, Ended, loaded, saved, Stood}
use Rattle.builder_table.specs.Slots.{before_from, blocked_from, clear_from}
use Rattle.builder_table.specs.Steps.{plus_in, one_minus_in}
use Rattle.builder.specs.Bits.{is_zero_in, at_least_in, or_in}

-- ---- before_k = [k < cursor]; blocked_k = NOT (before_k OR advance_k)

unfoldable pub block_in : Mem → Standing → Form → Form → ℕ → Stood
block_in m b later t k =
    let pass = or_in m b later t in
    let n = one_minus_in pass.mem pass.builder pass.form in
    record { mem = saved n.mem (blocked_from + k) n.form; builder = n.builder }

unfoldable pub gate_in : Mem → Standing → Form → Form → ℕ → Stood
gate_in m b cursor t k =
    let later = at_least_in m b cursor (number (k + 1)) in
    block_in (saved later.mem (before_from + k) later.form) later.builder later.form t k

-- the children from the k-th on, of which there are so many
unfoldable pub gates_in : Mem → Standing → Form → ℕ → ℕ → ℕ → Stood
gates_in m b cursor top k zero = record { mem = m; builder = b }
gates_in m b cursor top k (suc rest) =
    let s = gate_in m b cursor (loaded m (top - k)) k in
    gates_in s.mem s.builder cursor top (k + 1) rest

-- ---- `none_earlier`: clear_k = [the sum of the earlier blocked bits is 0]; the form is that sum, with the k-th child's bit added

unfoldable pub clear_in : Mem → Standing → Form → ℕ → Ended
clear_in m b earlier k =
    let z = is_zero_in m b earlier in
    let m' = saved z.mem (clear_from + k) z.form in
    plus_in m' z.builder earlier (loaded m' (blocked_from + k))

unfoldable pub clears_in : Mem → Standing → Form → ℕ → ℕ → Stood
clears_in m b earlier k zero = record { mem = m; builder = b }
clears_in m b earlier k (suc rest) =
    let e = clear_in m b earlier k in
    clears_in e.mem e.builder e.form (k + 1) rest
