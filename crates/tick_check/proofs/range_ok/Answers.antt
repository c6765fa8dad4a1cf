-- The range is part of the pool.
use Rattle.std.proofs.Common.{arith, ◌+◌, get_or}
use Rattle.std.proofs.lemmas.Bool.{le-leb}
use Rattle.tick_check.specs.Parts.{range_ok}
use Rattle.tick_check.proofs.Part.{rises_part}
use Rattle.tick_check.proofs.range_ok.Goals as goal

pub returns-then-end-circuit : goal.returns-then-end-circuit
unfolding range_ok
returns-then-end-circuit c =
    let circuit = c.args.circuit.now in
    let first = get_or circuit.nums.now c.args.at 0 in
    let len = get_or circuit.nums.now (c.args.at + 1) 0 in
    rw (le-leb (first + len) circuit.counts.terms (omega arith), rises_part circuit.pools.wires.now first len c.args.limit (omega arith)) c.rises_below.ensures
