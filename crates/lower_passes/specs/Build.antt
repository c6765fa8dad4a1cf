-- The building phase: arbitrate, reach, next running, in the Rust's op order, from an empty arena and no ops.
-- Inner: the shape of the code; nobody need believe it.
use Rattle.std.specs.Prelude.{ℕ, ◌+◌, ◌*◌, true, List}
use Rattle.builder_table.specs.Work.{Standing, Mem, Stood}
use Rattle.lower_passes.specs.Arbitrate.{up, arbitrate_in}
use Rattle.lower_passes.specs.Reach.{down, root_in, reach_in, flags_in}

-- nothing is built yet; the ops' wires follow the cells
abbrev pub fresh : ℕ → Standing
fresh cells = record { room = record { used = 0; ok = true }; ops = 0; cells = cells }

unfoldable pub build_in : Mem → List ℕ → List ℕ → ℕ → ℕ → ℕ → Stood
build_in m kinds counts nodes cursors leaves =
    let u = arbitrate_in m (up (fresh (nodes + cursors + 3 * leaves)) 0 0 leaves cursors) kinds counts nodes (nodes + cursors) nodes in
    let v = reach_in (root_in u.mem) (down u.up.builder 1 u.up.row 0) kinds counts nodes 0 nodes in
    flags_in v.mem v.down.builder 0 nodes
