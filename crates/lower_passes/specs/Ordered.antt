-- lower_ordered on all that is lent: its four loops one after the other. The children stand on the stack, the first on top: their bits of the status that
-- the composite advances on below `advance`, of the other finished status below `other`, of running below `run`.
-- Inner: the shape of the code; nobody need believe it.
use Rattle.std.specs.Prelude.{ℕ}
use Rattle.exact.specs.Whole.{zero32}
use Rattle.wire.specs.declared.Form.{Form}
use Rattle.wire.specs.Terms.{constant_form}
use Rattle.builder_table.specs.Work.{Standing, Mem}
use Rattle.builder_table.specs.Steps.{one_minus_in}
use Rattle.lower_passes.specs.Gates.{gates_in, clears_in}
use Rattle.lower_passes.specs.Marks.{Picked, Ordered}
use Rattle.lower_passes.specs.Stops.{stops_in, picks_in}

-- what is left, and the composite's status and next cursor
pub record Ordains : Type 0 where
  pub mem : Mem
  pub ordered : Ordered

-- no stop yet
abbrev pub no_pick : Standing → Picked
no_pick b = record { other = constant_form zero32; run = constant_form zero32; cursor = constant_form zero32; builder = b }

-- the children are given the rows from `row` on; "the advance status if there is none" is 1 - the sum of all stops
unfoldable pub ordered_in : Mem → Standing → Form → ℕ → ℕ → ℕ → ℕ → ℕ → Ordains
ordered_in m b cursor advance other run row n =
    let g = gates_in m b cursor advance 0 n in
    let c = clears_in g.mem g.builder (constant_form zero32) 0 n in
    let s = stops_in c.mem c.builder (constant_form zero32) row 0 n in
    let p = picks_in s.mem (no_pick s.builder) other run 0 n in
    let a = one_minus_in p.mem p.picked.builder s.form in
    record {
      mem = a.mem;
      ordered = record { advance = a.form; other = p.picked.other; run = p.picked.run; cursor = p.picked.cursor; builder = a.builder };
    }
