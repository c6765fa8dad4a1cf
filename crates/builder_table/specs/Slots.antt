-- The map of the table: rows of 128 slots, each for one sort of form, then the ops. Code has the same names (`Table`).
-- Inner: the shape of the code; nobody need believe it.
use Rattle.std.specs.Prelude.{ℕ}

-- the status a node would return, by node
abbrev pub raw_success_from : ℕ
raw_success_from = 0

abbrev pub raw_failure_from : ℕ
raw_failure_from = 128

abbrev pub raw_running_from : ℕ
raw_running_from = 256

-- the stack of statuses of arbitrate
abbrev pub stack_success_from : ℕ
stack_success_from = 384

abbrev pub stack_failure_from : ℕ
stack_failure_from = 512

abbrev pub stack_running_from : ℕ
stack_running_from = 640

-- the five bits of lower_ordered: before, blocked, clear and stop by the child's position, reach and after_stop by the row that the child is given
abbrev pub before_from : ℕ
before_from = 768

abbrev pub blocked_from : ℕ
blocked_from = 896

abbrev pub clear_from : ℕ
clear_from = 1024

abbrev pub stops_from : ℕ
stops_from = 1152

abbrev pub reach_from : ℕ
reach_from = 1280

abbrev pub after_stop_from : ℕ
after_stop_from = 1408

-- the next cursor that a composite's arbitration decided, by node; the one to be stored, by cursor cell
abbrev pub arbitrated_from : ℕ
arbitrated_from = 1536

abbrev pub next_cursor_from : ℕ
next_cursor_from = 1664

-- by node
abbrev pub reached_from : ℕ
reached_from = 1792

abbrev pub halted_from : ℕ
halted_from = 1920

abbrev pub untouched_from : ℕ
untouched_from = 2048

abbrev pub next_running_from : ℕ
next_running_from = 2176

-- the stack of entries of reach: whether a node is reached, and whether a halt is called on it
abbrev pub entry_reached_from : ℕ
entry_reached_from = 2304

abbrev pub entry_called_from : ℕ
entry_called_from = 2432

-- op k is in slots ops_from + 2 k, its left form, and ops_from + 2 k + 1, its gate
abbrev pub ops_from : ℕ
ops_from = 2560
