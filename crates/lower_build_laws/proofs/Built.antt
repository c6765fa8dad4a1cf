-- What the building phase has left, for nodes of these kinds and child counts: the table stands for the constructed circuit, and there was room for all of it.
-- The law is `build_law` of proofs/. Definitions only.
use Prim.Native.Nat.{ℕ, ◌≤◌}
use mathlib.Core.Path.{◌≡◌}
use mathlib.Core.Bool.{true}
use mathlib.Core.List.{List}
use lib.ListN.{length}
use Rattle.plan.specs.Plan.{cursors_of}
use Rattle.construct_floats.specs.Floats.{floats}
use Rattle.construct.specs.Circuit.{flats, build, construct, op_count}
use Rattle.builder_table.specs.Work.{Mem, Stood}
use Rattle.lower_emit_laws.specs.Emitted.{CircuitAt}

pub record Built (m : Mem) (s : Stood) (ks cs : List ℕ) : Type 0 where
  -- the circuit
  pub circuit : CircuitAt s.mem s.builder.room.used (build floats (flats ks cs)).running.ops (construct floats (flats ks cs))
  pub ops : s.builder.ops ≡ op_count (construct floats (flats ks cs))
  pub nodes : length ks ≡ length (construct floats (flats ks cs)).outputs
  pub cursors : length (cursors_of ks) ≡ length (construct floats (flats ks cs)).cursors
  -- the room
  pub ok : s.builder.room.ok ≡ true
  pub used : s.builder.room.used ≤ 262144
  pub op_room : s.builder.ops ≤ 2163
  -- lengths stay
  pub wires : length s.mem.wires ≡ length m.wires
  pub coefs : length s.mem.coefs ≡ length m.coefs
  pub nums : length s.mem.nums ≡ length m.nums
  pub biases : length s.mem.biases ≡ length m.biases
