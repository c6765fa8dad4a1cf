-- `list_turns::rows::list_all`: the first turn is with all flags and cursors 0.
use Rattle.std.proofs.Common.{ℕ}
use Rattle.std.proofs.lemmas.List.{take-replicate}
use Rattle.list_turns.proofs.rows.list_all.Goals as goal

pub returns : goal.returns
returns g c =
    let n = c.args.circuit.now.counts in
    let flags = take-replicate {X = ℕ} n.nodes 128 0 c.if-nodes-gt128.false in
    let cursors = take-replicate {X = ℕ} n.cursors 128 0 c.if-cells-gt128.false in
    rw (← flags, ← cursors, ← c.values_room-values.ensures) c.take_turns.ensures
