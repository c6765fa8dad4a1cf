-- What compiling answers: the counts of the circuit that now stands in storage, or why there is none.
use Rattle.std.specs.Prelude.{Result}
use Rattle.tree_record.specs.declared.refusal.Refusal.{Refusal}
use Rattle.wire.specs.declared.Counts.{Counts}

abbrev pub Compiled : Type 0
Compiled = Result Counts Refusal
