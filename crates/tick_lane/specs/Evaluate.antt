-- What a circuit computes of flags, cursors and a leaf row: the value table, then the values of the output forms. Definitions only.
use Rattle.std.specs.Prelude.{ℕ, zero, suc, ◌+◌, ◌*◌, min, List, Bool, cond, get_or, set, eqb, Float}
use Rattle.std.specs.Float.{binary32}
use Rattle.exact.specs.Whole.{diff, zero32, one32}
use Rattle.wire.specs.declared.Counts.{Counts}
use Rattle.lists.specs.Each.{each}
use Rattle.wire.specs.Terms.{value_in}
use Rattle.wire.specs.Storage.{op_at, output_at, output_count}
use Rattle.wire_pool.specs.Values.{table_after}
use Rattle.walk.specs.Walk.{is_running}
use Rattle.lists.specs.Fill.{fill_at}
use Rattle.tick_check.specs.Check.{Stored}

-- ---- the input cells: "running flag of node i at i; cursor c at N + c; leaf slot s at N + C + 3s for success, then failure, then running"

abbrev pub bit : Bool → Float
bit b = cond b one32 zero32

abbrev pub flag_cell : List ℕ → ℕ → Float
flag_cell flags i = bit (is_running (get_or flags i 0))

-- "the cursor, read as 65,535 if larger"
abbrev pub cursor_cell : List ℕ → ℕ → Float
cursor_cell cursors c = diff binary32 (min (get_or cursors c 0) 65535) 0

-- 1 where the status is this code
abbrev pub status_bit : ℕ → ℕ → Float
status_bit status code = bit (eqb status code)

-- the list with three cells for each of n leaves, from base on
unfoldable pub leaves_at : ℕ → List ℕ → List Float → ℕ → List Float
leaves_at base row xs zero = xs
leaves_at base row xs (suc n) =
    let at = base + 3 * n in
    let status = get_or row n 0 in
    set (set (set (leaves_at base row xs n) at (status_bit status 0)) (at + 1) (status_bit status 1)) (at + 2) (status_bit status 2)

-- the cells written over a table
unfoldable pub cells_of : Counts → List ℕ → List ℕ → List ℕ → List Float → List Float
unfolding fill_at leaves_at
cells_of n row flags cursors table =
    leaves_at (n.nodes + n.cursors) row (fill_at n.nodes (cursor_cell cursors) (fill_at 0 (flag_cell flags) table n.nodes) n.cursors) n.leaves

-- ---- the value table, and the values of the output forms

-- "Ops follow": the cells, then each op's value, written over a table; what stands past them stays
unfoldable pub table_of : Stored → List ℕ → List ℕ → List ℕ → List Float → List Float
unfolding cells_of table_after
table_of s row flags cursors table =
    table_after (op_at s.nums s.biases s.wires s.coefs) s.counts.cells (cells_of s.counts row flags cursors table) s.counts.ops

-- the value of output form k against a table
unfoldable pub out_value : Stored → List Float → ℕ → Float
unfolding output_at
out_value s table k = value_in table (output_at s.nums s.biases s.wires s.coefs k)

-- all of them, in order
unfoldable pub outs_of : Stored → List Float → List Float
unfolding each out_value
outs_of s table = each (out_value s table) 0 (output_count s.counts)
