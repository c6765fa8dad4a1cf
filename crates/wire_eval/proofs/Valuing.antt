-- The value of an op in storage is that of the op that it means.
use mathlib.Core.Path.{◌≡◌}
use mathlib.Core.List.{List}
use mathlib.Core.Bool.{true}
use Prim.Native.Nat.{ℕ}
use native.Mathlib.Omega.{arith}
use lib.ListN.{length}
use lib.Ieee.{Float}
use Rattle.std.proofs.Common.{Ok}
use Rattle.std.proofs.lemmas.Bool.Decides.{nat_tests}
use Rattle.wire.specs.Storage.{op_of, op_at}
use Rattle.wire_pool.specs.Values.{op_value}
use Rattle.wire_read.specs.Reading.{stored_op, op_reads, slot_reads}
use Rattle.wire_eval.specs.Evaluation.{value_of, gated, op_value_of}

pub same_value : (nums : List ℕ) (bs : List Float) (ws : List ℕ) (cs table : List Float) (i : ℕ)
    → slot_reads ws cs (length table) (stored_op nums bs i) ≡ true
    → op_value_of ws cs table (stored_op nums bs i) ≡ Ok (op_value table (op_at nums bs ws cs i))
unfolding stored_op slot_reads op_reads op_value_of value_of gated op_at op_of op_value
same_value nums bs ws cs table i e = grind (arith, nat_tests)
