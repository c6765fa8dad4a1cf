-- What a tick writes, of the values of the output forms. Node i's six stand at 6 i and on: success, failure, running, reached, halted, next running;
-- cursor cell c's next value at 6 N + c. Definitions only.
use Rattle.std.specs.Prelude.{ℕ, ◌+◌, ◌*◌, List, Bool, cond, get_or, Float}
use Rattle.std.specs.Float.{nan}
use Rattle.std.specs.Float.Ieee.{ne}
use Rattle.wire.specs.Storage.{leaves_from}
use Rattle.exact.specs.Whole.{zero32}
use Rattle.exact.specs.Tests.{count_of}
use Rattle.walk.specs.Walk.{is_running, edge}
use Rattle.walk.specs.Status.{not_ticked, code_of, Success, Failure, Running}

-- a bit is set where its value is not zero, as tick.rs has it
abbrev pub is_set : Float → Bool
is_set x = ne x zero32

abbrev pub bit_of : Float → ℕ
bit_of x = cond (is_set x) 1 0

-- "0 success, 1 failure, 2 running; 3 not ticked"; "a reached node with none of its three bits set is reported as running"
abbrev pub status_of : Float → Float → Float → ℕ
status_of reached success failure =
    cond (is_set reached) (cond (is_set success) (code_of Success) (cond (is_set failure) (code_of Failure) (code_of Running))) not_ticked

unfoldable pub status_at : List Float → ℕ → ℕ
status_at outs i = status_of (get_or outs (6 * i + 3) nan) (get_or outs (6 * i) nan) (get_or outs (6 * i + 1) nan)

unfoldable pub halt_at : List Float → ℕ → ℕ
halt_at outs i = bit_of (get_or outs (6 * i + 4) nan)

unfoldable pub flag_at : List Float → ℕ → ℕ
flag_at outs i = bit_of (get_or outs (6 * i + 5) nan)

-- the edge of leaf slot s, whose node the leaf list gives: its flag as it was, and as it will be
unfoldable pub edge_at : List ℕ → List ℕ → List Float → ℕ → ℕ
unfolding flag_at
edge_at nums flags outs s =
    let node = get_or nums (leaves_from + s) 0 in
    edge (is_running (get_or flags node 0)) (is_running (flag_at outs node))

unfoldable pub cursor_at : List Float → ℕ → ℕ → ℕ
cursor_at outs nodes c = count_of (get_or outs (6 * nodes + c) nan)
