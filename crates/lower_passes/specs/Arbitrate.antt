-- arbitrate on all that is lent: from the last node to the first, what each would return if it were ticked, with a stack of the statuses that no parent has
-- taken yet. Where a node asks for what is not there (a child, a leaf slot, a cursor cell, a row), which no tree does, nothing is done and the flag falls.
-- Inner: the shape of the code; nobody need believe it.
use Rattle.std.specs.Prelude.{ℕ, zero, suc, ◌+◌, ◌-◌, ◌*◌, ◌≤◌, Bool, true, false, cond, ◌&&◌, List, leb, ltb, get_or}
use Rattle.exact.specs.Whole.{zero32}
use Rattle.wire.specs.declared.Form.{Form}
use Rattle.wire.specs.Terms.{constant_form}
use Rattle.walk.specs.Kind.{kind_of}
use Rattle.construct.specs.Lower.{Flat, leaf, fixed, invert, force, ordered, flat_of}
use Rattle.builder_table.specs.Work.{Standing, Mem, loaded, saved}
use Rattle.builder_table.specs.Slots.{raw_success_from, raw_failure_from, raw_running_from, stack_success_from, stack_failure_from}
use Rattle.builder_table.specs.Slots.{stack_running_from, arbitrated_from}
use Rattle.builder_table.specs.Steps.{wire_in, full_builder}
use Rattle.builder.specs.Bits.{bit_form}
use Rattle.status.specs.declared.Status.{Status}
use Rattle.status.specs.declared.StatusBits.{StatusBits}
use Rattle.status.specs.Bits.{bits, unticked_bits, with_bit, inverted_bits, finished_in, forced_bits}
use Rattle.lower_passes.specs.Marks.{Ordered, Up}
use Rattle.lower_passes.specs.Ordered.{Ordains, ordered_in}

-- ---- the state of the pass

pub record Raised : Type 0 where
  pub mem : Mem
  pub up : Up

abbrev pub up : Standing → ℕ → ℕ → ℕ → ℕ → Up
up b depth row slot cell = record { builder = b; depth = depth; row = row; slot = slot; cell = cell }

-- what holds of it throughout
abbrev pub Bounded : Up → Type 0
Bounded u = (u.depth ≤ 128) × (u.row ≤ 128) × (u.slot ≤ 128) × (u.cell ≤ 128)

unfoldable pub stuck : Mem → Up → Raised
stuck m u = record { mem = m; up = up (full_builder u.builder) u.depth u.row u.slot u.cell }

-- the status of node i is written, and put at depth d of the stack
unfoldable pub raw_in : Mem → ℕ → ℕ → StatusBits → Mem
raw_in m i d x =
    let s = x.success.0 in
    let f = x.failure.0 in
    let r = x.running.0 in
    let raw = saved (saved (saved m (raw_success_from + i) s) (raw_failure_from + i) f) (raw_running_from + i) r in
    saved (saved (saved raw (stack_success_from + d) s) (stack_failure_from + d) f) (stack_running_from + d) r

-- the status at depth d of the stack
abbrev pub status_in : Mem → ℕ → StatusBits
status_in m d = bits (loaded m (stack_success_from + d)) (loaded m (stack_failure_from + d)) (loaded m (stack_running_from + d))

-- true stands for success
abbrev pub own_of : Bool → Status
own_of true = Status.Success
own_of false = Status.Failure

-- ---- a node of each family. Leaf slots and cursor cells are given from the last to the first; the leaves' cells begin at base

unfoldable pub leaf_in : Mem → Up → ℕ → ℕ → Raised
leaf_in m u i base =
    let w = base + 3 * (u.slot - 1) in
    let s = wire_in m u.builder w in
    let f = wire_in s.mem s.builder (w + 1) in
    let r = wire_in f.mem f.builder (w + 2) in
    record { mem = raw_in r.mem i u.depth (bits s.form f.form r.form); up = up r.builder (u.depth + 1) u.row (u.slot - 1) u.cell }

unfoldable pub fixed_within : Mem → Up → ℕ → Bool → Raised
fixed_within m u i own =
    record {
      mem = raw_in m i u.depth (with_bit unticked_bits (own_of own) (bit_form true));
      up = up u.builder (u.depth + 1) u.row u.slot u.cell;
    }

-- a decorator takes the status on top of the stack, and its own takes that place
unfoldable pub invert_in : Mem → Up → ℕ → Raised
invert_in m u i = record { mem = raw_in m i (u.depth - 1) (inverted_bits (status_in m (u.depth - 1))); up = u }

unfoldable pub force_in : Mem → Up → ℕ → Bool → Raised
force_in m u i own =
    let x = status_in m (u.depth - 1) in
    let f = finished_in m u.builder x in
    record { mem = raw_in f.mem i (u.depth - 1) (forced_bits x (own_of own) f.form); up = up f.builder u.depth u.row u.slot u.cell }

-- lower_ordered, where success (true) or failure advances
abbrev pub lowered_in : Mem → Standing → Form → Bool → ℕ → ℕ → ℕ → Ordains
lowered_in m b cursor true top row n = ordered_in m b cursor (stack_success_from + top) (stack_failure_from + top) (stack_running_from + top) row n
lowered_in m b cursor false top row n = ordered_in m b cursor (stack_failure_from + top) (stack_success_from + top) (stack_running_from + top) row n

abbrev pub status_of : Bool → Ordered → StatusBits
status_of true o = bits o.advance o.other o.run
status_of false o = bits o.other o.advance o.run

unfoldable pub composite_in : Mem → Up → ℕ → Bool → Form → ℕ → Raised
composite_in m u i on cursor n =
    let o = lowered_in m u.builder cursor on (u.depth - 1) u.row n in
    record {
      mem = saved (raw_in o.mem i (u.depth - n) (status_of on o.ordered)) (arbitrated_from + i) o.ordered.cursor;
      up = up o.ordered.builder (u.depth - n + 1) (u.row + n) u.slot u.cell;
    }

unfoldable pub memory_in : Mem → Up → ℕ → Bool → ℕ → ℕ → Raised
memory_in m u i on n nodes =
    let c = wire_in m u.builder (nodes + (u.cell - 1)) in
    composite_in c.mem (up c.builder u.depth u.row u.slot (u.cell - 1)) i on c.form n

-- what a node asks for is there
abbrev pub ready : Up → Flat → Bool
ready u leaf = ltb u.depth 128 && ltb 0 u.slot
ready u (fixed own) = ltb u.depth 128
ready u invert = ltb 0 u.depth
ready u (force own) = ltb 0 u.depth
ready u (ordered true on n) = ltb 0 n && (leb n u.depth && (leb (u.row + n) 128 && ltb 0 u.cell))
ready u (ordered false on n) = ltb 0 n && (leb n u.depth && leb (u.row + n) 128)

abbrev pub node_in : Mem → Up → ℕ → Flat → ℕ → ℕ → Raised
node_in m u i leaf nodes base = leaf_in m u i base
node_in m u i (fixed own) nodes base = fixed_within m u i own
node_in m u i invert nodes base = invert_in m u i
node_in m u i (force own) nodes base = force_in m u i own
node_in m u i (ordered true on n) nodes base = memory_in m u i on n nodes
node_in m u i (ordered false on n) nodes base = composite_in m u i on (constant_form zero32) n

unfoldable pub step_within : Mem → Up → ℕ → Flat → ℕ → ℕ → Raised
step_within m u i n nodes base = cond (ready u n) (node_in m u i n nodes base) (stuck m u)

-- ---- all nodes

-- the node with this number, from the slots of kinds and of child counts
abbrev pub flat_at : List ℕ → List ℕ → ℕ → Flat
flat_at kinds counts i = flat_of (kind_of (get_or kinds i 0)) (get_or counts i 0)

-- the nodes before i are still to come, from node i - 1 down
unfoldable pub arbitrate_in : Mem → Up → List ℕ → List ℕ → ℕ → ℕ → ℕ → Raised
arbitrate_in m u kinds counts nodes base zero = record { mem = m; up = u }
arbitrate_in m u kinds counts nodes base (suc i) =
    let s = step_within m u i (flat_at kinds counts i) nodes base in
    arbitrate_in s.mem s.up kinds counts nodes base i
