-- "N nodes, C cursors, L leaves. Cells: running flag of node i at i; cursor c at N + c; leaf slot s at N + C + 3s for success, then failure,
-- then running." A cell past the largest wire is the largest wire; within document 01's limits there is none.
use Rattle.std.specs.Prelude.{ℕ, ◌+◌, ◌*◌, min}
use Rattle.plan.specs.declared.cells.Plan.{Plan}
use Rattle.plan.specs.declared.cells.Status.{Status}
use Rattle.plan.specs.declared.cells.Status.TheVariants.{Success, Failure, Running}

-- a cell, or the largest number that a wire can hold
abbrev pub wire : ℕ → ℕ
wire cell = min cell 4294967295

abbrev pub running_cell : ℕ → ℕ
running_cell i = wire i

abbrev pub cursor_cell : Plan → ℕ → ℕ
cursor_cell plan c = wire (plan.nodes + c)

abbrev pub leaf_cell : Plan → ℕ → ℕ
leaf_cell plan s = wire (plan.nodes + plan.cursors + 3 * s)

-- "for success, then failure, then running"
abbrev pub offset_of : Status → ℕ
offset_of Success = 0
offset_of Failure = 1
offset_of Running = 2

abbrev pub leaf_status_cell : Plan → ℕ → Status → ℕ
leaf_status_cell plan s status = wire (plan.nodes + plan.cursors + 3 * s + offset_of status)

-- "the input cells": N + C + 3L
abbrev pub cell_count : Plan → ℕ
cell_count plan = wire (plan.nodes + plan.cursors + 3 * plan.leaves)
