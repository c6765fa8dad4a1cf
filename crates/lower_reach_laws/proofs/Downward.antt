-- Reaching, and the next running flags, give the construction's `down` and `flags`. The laws themselves are `reach_law` and `flags_law` of proofs/.
-- Definitions only.
use Prim.Native.Nat.{ℕ, ◌+◌, ◌*◌, ◌≤◌}
use mathlib.Core.Path.{◌≡◌}
use mathlib.Core.List.{List, [], ◌∷◌}
use lib.ListN.{length}
use Rattle.wire.specs.Terms.{Affine}
use Rattle.construct.specs.Builder.{Op}
use Rattle.construct.specs.Lower.{Flat, Arbitration, NodeReach, Many, flags}
use Rattle.construct.specs.Lower as L
use Rattle.construct.specs.Circuit.{cell_end, root}
use Rattle.construct_floats.specs.Floats.{floats}
use Rattle.builder_table.specs.Work.{Standing, Mem, Stood}
use Rattle.builder_table.specs.Whole.{Whole}
use Rattle.builder_laws.specs.Table.{Ops}
use Rattle.lower_room.proofs.Uses.{flags_use, down_use, down_more}
use Rattle.builder_laws.proofs.Running.{Not, Runs, Rows}
use Rattle.builder_table.specs.Slots.{next_cursor_from, reached_from, halted_from, untouched_from, next_running_from, entry_reached_from, entry_called_from, ops_from}
use Rattle.lower_passes.specs.Reach.{Lowered, down, root_in, reach_in, flags_in}
use Rattle.lower_ordered_laws.proofs.Passes.{roots, Sound, rows_in, NodesAt, ArbitrationsAt, OutsAt}

-- ---- next running

-- the slots left alone by the flags from node i on
abbrev pub Flagless : ℕ → ℕ → Type 0
Flagless i k = Not (next_running_from + i) entry_reached_from k

pub record FlagsRuns (i n need : ℕ) (m : Mem) (b : Standing) (e : Stood) (g : Many Affine Affine) : Type 0 where
  pub runs : Runs (Flagless i) m b e.mem e.builder g.ops need (2 * n)
  pub rows : Rows e.mem e.builder (next_running_from + i) g.items

abbrev pub FlagsLaw : Type 0
FlagsLaw =
    (m : Mem) (b : Standing) (i cursorsAt : ℕ) (outs : List (NodeReach Affine)) (os : List (Op Affine))
    → Whole m.nums m.biases → Ops m b os → OutsAt m b i outs → i + length outs ≤ 128
    → FlagsRuns i (length outs) (flags_use floats b.cells outs os) m b (flags_in m b i (length outs)) (flags floats b.cells cursorsAt outs os)

-- ---- reaching

-- the slots left alone from node i and cell c on, where the d lowest entries stay
abbrev pub Past : ℕ → ℕ → ℕ → ℕ → Type 0
Past i c d k =
    Not (next_cursor_from + c) reached_from k
    × Not (reached_from + i) halted_from k
    × Not (halted_from + i) untouched_from k
    × Not (untouched_from + i) next_running_from k
    × Not (entry_reached_from + d) entry_called_from k
    × Not (entry_called_from + d) ops_from k

pub record ReachRuns (i c need more : ℕ) (m : Mem) (b : Standing) (e : Lowered) (d : L.Down Affine) : Type 0 where
  pub runs : Runs (Past i c 0) m b e.mem e.down.builder d.ops need more
  pub outs : OutsAt e.mem e.down.builder i d.outs
  pub cursors : Rows e.mem e.down.builder (next_cursor_from + c) d.cursors

abbrev pub ReachLaw : Type 0
ReachLaw =
    (m : Mem) (b : Standing) (kinds counts : List ℕ) (ns : List Flat) (infos : List (Arbitration Affine)) (os : List (Op Affine))
    → Whole m.nums m.biases → Ops m b os → ArbitrationsAt m b 0 ns infos → NodesAt kinds counts 0 ns → Sound ns → roots ns ≡ 1 → length ns ≤ 128 → cell_end 0 ns ≤ 128
    → let N = length ns in
    ReachRuns 0 0 (down_use floats b.cells N 0 0 infos (root floats ∷ []) os) (down_more ns) m b
    (reach_in (root_in m) (down b 1 (rows_in ns) 0) kinds counts N 0 N)
    (L.down floats b.cells N 0 0 infos (root floats ∷ []) os)
