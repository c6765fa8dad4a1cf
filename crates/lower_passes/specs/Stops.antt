-- The last two loops of lower_ordered on all that is lent: which children are reached, where the walk stops, and the stop's status.
-- Inner: the shape of the code; nobody need believe it.
use Rattle.std.specs.Prelude.{ℕ, zero, suc, ◌+◌, ◌-◌}
use Rattle.wire.specs.declared.Form.{Form}
use Rattle.construct_floats.specs.Floats.{number}
use Rattle.builder_table.specs.Work.{Standing, Mem, Ended, loaded, saved, Stood}
use Rattle.builder_table.specs.Slots.{before_from, blocked_from, clear_from, stops_from, reach_from, after_stop_from}
use Rattle.builder_table.specs.Steps.{plus_in, scaled_in, one_minus_in}
use Rattle.builder.specs.Bits.{and_in}
use Rattle.lower_passes.specs.Marks.{Picked}

-- ---- reach_k = clear_k AND NOT before_k; stop_k = clear_k AND blocked_k; after_stop_k is the sum of the earlier stops

unfoldable pub reach_in : Mem → Standing → ℕ → ℕ → Stood
reach_in m b k row =
    let n = one_minus_in m b (loaded m (before_from + k)) in
    let r = and_in n.mem n.builder (loaded m (clear_from + k)) n.form in
    record { mem = saved r.mem (reach_from + row) r.form; builder = r.builder }

-- the form is the sum of the stops so far
unfoldable pub stop_in : Mem → Standing → Form → ℕ → Ended
stop_in m b sum k =
    let s = and_in m b (loaded m (clear_from + k)) (loaded m (blocked_from + k)) in
    plus_in (saved s.mem (stops_from + k) s.form) s.builder sum s.form

unfoldable pub stops_in : Mem → Standing → Form → ℕ → ℕ → ℕ → Ended
stops_in m b sum row k zero = record { mem = m; builder = b; form = sum }
stops_in m b sum row k (suc rest) =
    let r = reach_in (saved m (after_stop_from + (row + k)) sum) b k (row + k) in
    let s = stop_in r.mem r.builder sum k in
    stops_in s.mem s.builder s.form row (k + 1) rest

-- ---- the stop's status, bit by bit, and its position if it is running

-- what is left, and the three sums so far
pub record Chosen : Type 0 where
  pub mem : Mem
  pub picked : Picked

-- a child that stops the walk running: its bit, and its position times its bit, are added
unfoldable pub run_in : Mem → Standing → Form → Form → Form → ℕ → Form → Chosen
run_in m b run cur bit k other =
    let r = plus_in m b run bit in
    let x = scaled_in r.mem r.builder bit (number k) in
    let c = plus_in x.mem x.builder cur x.form in
    record { mem = c.mem; picked = record { other = other; run = r.form; cursor = c.form; builder = c.builder } }

unfoldable pub pick_in : Mem → Picked → ℕ → Form → Form → Chosen
pick_in m p k finished running =
    let a = and_in m p.builder (loaded m (stops_from + k)) finished in
    let r = and_in a.mem a.builder (loaded m (stops_from + k)) running in
    let o = plus_in r.mem r.builder p.other a.form in
    run_in o.mem o.builder p.run p.cursor r.form k o.form

-- the children's other finished bits, and their running bits, stand below `others` and `runs`, the first child's on top
unfoldable pub picks_in : Mem → Picked → ℕ → ℕ → ℕ → ℕ → Chosen
picks_in m p others runs k zero = record { mem = m; picked = p }
picks_in m p others runs k (suc rest) =
    let c = pick_in m p k (loaded m (others - k)) (loaded m (runs - k)) in
    picks_in c.mem c.picked others runs (k + 1) rest
