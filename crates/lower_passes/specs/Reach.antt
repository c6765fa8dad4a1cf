-- reach and the next running flags on all that is lent: from the first node to the last, whether it is ticked or halted, with a stack of what nodes to come
-- are told by their parents. Where something asked for is not there, which no tree does, nothing is done and the flag falls.
-- Inner: the shape of the code; nobody need believe it.
use Rattle.std.specs.Prelude.{ℕ, zero, suc, ◌+◌, ◌-◌, ◌≤◌, Bool, true, false, cond, ◌&&◌, List, leb, ltb}
use Rattle.exact.specs.Whole.{zero32, one32}
use Rattle.wire.specs.declared.Form.{Form}
use Rattle.wire.specs.Terms.{constant_form}
use Rattle.construct.specs.Lower.{Flat, leaf, fixed, invert, force, ordered}
use Rattle.builder_table.specs.Work.{Standing, Mem, Ended, loaded, saved, Stood}
use Rattle.builder_table.specs.Slots.{raw_running_from, reach_from, after_stop_from, arbitrated_from, next_cursor_from, reached_from, halted_from}
use Rattle.builder_table.specs.Slots.{untouched_from, next_running_from, entry_reached_from, entry_called_from}
use Rattle.builder_table.specs.Steps.{wire_in, plus_in, one_minus_in, push_in, full_builder}
use Rattle.builder.specs.Bits.{and_in, or_in}
use Rattle.lower_passes.specs.Arbitrate.{flat_at}
use Rattle.lower_passes.specs.Marks.{Down}

-- ---- the state of the pass

pub record Lowered : Type 0 where
  pub mem : Mem
  pub down : Down

abbrev pub down : Standing → ℕ → ℕ → ℕ → Down
down b depth row cell = record { builder = b; depth = depth; row = row; cell = cell }

abbrev pub Bounded : Down → Type 0
Bounded v = (v.depth ≤ 128) × (v.row ≤ 128) × (v.cell ≤ 128)

unfoldable pub stuck : Mem → Down → Lowered
stuck m v = record { mem = m; down = down (full_builder v.builder) v.depth v.row v.cell }

unfoldable pub entry_in : Mem → ℕ → Form → Form → Mem
entry_in m d reached called = saved (saved m (entry_reached_from + d) reached) (entry_called_from + d) called

-- ---- a node: halted = called AND the flag; untouched = NOT reached AND NOT halted

unfoldable pub halt_in : Mem → Standing → Form → Form → ℕ → Ended
halt_in m b reached called i =
    let was = wire_in m b i in
    let h = and_in was.mem was.builder called was.form in
    record { mem = saved (saved h.mem (reached_from + i) reached) (halted_from + i) h.form; builder = h.builder; form = h.form }

unfoldable pub untouched_in : Mem → Standing → Form → Form → ℕ → Stood
untouched_in m b reached halted i =
    let r = one_minus_in m b reached in
    let h = one_minus_in r.mem r.builder halted in
    let u = and_in h.mem h.builder r.form h.form in
    record { mem = saved u.mem (untouched_from + i) u.form; builder = u.builder }

-- a cursor's next value: the arbitrated one if reached, the current one if untouched
unfoldable pub keep_in : Mem → Standing → Form → Form → ℕ → ℕ → Stood
keep_in m b moved untouched cell nodes =
    let w = wire_in m b (nodes + cell) in
    let k = push_in w.mem w.builder w.form untouched in
    let s = plus_in k.mem k.builder moved k.form in
    record { mem = saved s.mem (next_cursor_from + cell) s.form; builder = s.builder }

unfoldable pub cursor_in : Mem → Standing → ℕ → ℕ → ℕ → Stood
cursor_in m b i cell nodes =
    let a = push_in m b (loaded m (arbitrated_from + i)) (loaded m (reached_from + i)) in
    keep_in a.mem a.builder a.form (loaded a.mem (untouched_from + i)) cell nodes

-- ---- what a node's children are told: of a composite's, reached AND reach_k, halted OR (reached AND after_stop_k)

unfoldable pub spread_one_in : Mem → Standing → Form → Form → ℕ → ℕ → Stood
spread_one_in m b reached halted row d =
    let a = and_in m b reached (loaded m (reach_from + row)) in
    let s = and_in a.mem a.builder reached (loaded m (after_stop_from + row)) in
    let c = or_in s.mem s.builder halted s.form in
    record { mem = entry_in c.mem d a.form c.form; builder = c.builder }

-- the children from the k-th on, of which there are so many; the last child's entry is at depth d, the first child's on top
unfoldable pub spread_in : Mem → Standing → Form → Form → ℕ → ℕ → ℕ → ℕ → Stood
spread_in m b reached halted row d k zero = record { mem = m; builder = b }
spread_in m b reached halted row d k (suc rest) =
    let s = spread_one_in m b reached halted (row + k) (d + rest) in
    spread_in s.mem s.builder reached halted row d (k + 1) rest

abbrev pub kids_in : Mem → Down → Flat → Form → Form → Lowered
kids_in m v leaf reached halted = record { mem = m; down = v }
kids_in m v (fixed own) reached halted = record { mem = m; down = v }
kids_in m v invert reached halted = record { mem = entry_in m v.depth reached halted; down = down v.builder (v.depth + 1) v.row v.cell }
kids_in m v (force own) reached halted = record { mem = entry_in m v.depth reached halted; down = down v.builder (v.depth + 1) v.row v.cell }
kids_in m v (ordered memory on n) reached halted =
    let s = spread_in m v.builder reached halted (v.row - n) v.depth 0 n in
    record { mem = s.mem; down = down s.builder (v.depth + n) (v.row - n) v.cell }

-- a node's own cursor, where it has one
abbrev pub turn_in : Mem → Down → ℕ → Flat → ℕ → Lowered
turn_in m v i leaf nodes = record { mem = m; down = v }
turn_in m v i (fixed own) nodes = record { mem = m; down = v }
turn_in m v i invert nodes = record { mem = m; down = v }
turn_in m v i (force own) nodes = record { mem = m; down = v }
turn_in m v i (ordered true on n) nodes =
    let c = cursor_in m v.builder i v.cell nodes in
    record { mem = c.mem; down = down c.builder v.depth v.row (v.cell + 1) }
turn_in m v i (ordered false on n) nodes = record { mem = m; down = v }

-- what a node asks for is there: its own entry, and room for its children's
abbrev pub ready : Down → Flat → Bool
ready v leaf = ltb 0 v.depth
ready v (fixed own) = ltb 0 v.depth
ready v invert = ltb 0 v.depth
ready v (force own) = ltb 0 v.depth
ready v (ordered true on n) = ltb 0 v.depth && (leb (v.depth + n) 129 && (leb n v.row && ltb v.cell 128))
ready v (ordered false on n) = ltb 0 v.depth && (leb (v.depth + n) 129 && leb n v.row)

unfoldable pub node_in : Mem → Down → ℕ → Flat → ℕ → Lowered
node_in m v i n nodes =
    let reached = loaded m (entry_reached_from + (v.depth - 1)) in
    let called = loaded m (entry_called_from + (v.depth - 1)) in
    let h = halt_in m v.builder reached called i in
    let u = untouched_in h.mem h.builder reached h.form i in
    let t = turn_in u.mem (down u.builder (v.depth - 1) v.row v.cell) i n nodes in
    kids_in t.mem t.down n reached h.form

unfoldable pub step_within : Mem → Down → ℕ → Flat → ℕ → Lowered
step_within m v i n nodes = cond (ready v n) (node_in m v i n nodes) (stuck m v)

-- ---- all nodes: from the i-th on, of which there are so many

unfoldable pub reach_in : Mem → Down → List ℕ → List ℕ → ℕ → ℕ → ℕ → Lowered
reach_in m v kinds counts nodes i zero = record { mem = m; down = v }
reach_in m v kinds counts nodes i (suc rest) =
    let s = step_within m v i (flat_at kinds counts i) nodes in
    reach_in s.mem s.down kinds counts nodes (i + 1) rest

-- "the root is reached, and no halt is called on it"
abbrev pub root_in : Mem → Mem
root_in m = entry_in m 0 (constant_form one32) (constant_form zero32)

-- ---- next running: reached AND running, or untouched AND the flag

unfoldable pub flag_in : Mem → Standing → ℕ → Stood
flag_in m b i =
    let a = and_in m b (loaded m (reached_from + i)) (loaded m (raw_running_from + i)) in
    let was = wire_in a.mem a.builder i in
    let k = and_in was.mem was.builder (loaded a.mem (untouched_from + i)) was.form in
    let s = plus_in k.mem k.builder a.form k.form in
    record { mem = saved s.mem (next_running_from + i) s.form; builder = s.builder }

unfoldable pub flags_in : Mem → Standing → ℕ → ℕ → Stood
flags_in m b i zero = record { mem = m; builder = b }
flags_in m b i (suc rest) =
    let s = flag_in m b i in
    flags_in s.mem s.builder (i + 1) rest
