-- How long the table of forms is. Inner: the shape of the code; nobody need believe it.
use Rattle.std.specs.Prelude.{ℕ, ◌+◌, ◌*◌, ◌≤◌, List, length, Float}
use Rattle.builder_table.specs.Slots.{ops_from}

abbrev pub ops_most : ℕ
ops_most = 2200

abbrev pub slots_most : ℕ
slots_most = ops_from + 2 * ops_most

-- both slices hold the whole table
abbrev pub Whole : List ℕ → List Float → Type 0
Whole nums biases = (2 * slots_most ≤ length nums) × (slots_most ≤ length biases)
