-- What compile goes by once all is built: the table stands for the circuit, and all of it fits. Inner: the shape of the code; nobody need believe it.
use Rattle.std.specs.Prelude.{ℕ, ◌≤◌, ◌<◌, ◌≡◌, List, length}
use Rattle.wire.specs.Terms.{Affine}
use Rattle.construct_floats.specs.Floats.{floats}
use Rattle.tree.specs.Tree.{tree_of, accepted}
use Rattle.plan.specs.Plan.{leaves_of, cursors_of}
use Rattle.construct.specs.Builder.{Op}
use Rattle.construct.specs.Circuit.{Circuit, term_count}
use Rattle.compile.specs.Compile.{circuit_of}
use Rattle.builder_table.specs.Whole.{ops_most}
use Rattle.builder_table.specs.Work.{Mem, Stood}
use Rattle.lower_passes.specs.Build.{build_in}
use Rattle.lower_emit_laws.specs.Emitted.{CircuitAt}

-- the circuit c, of so many nodes and cursors, was built, and this is left
pub record BuiltAs (s : Stood) (c : Circuit Affine) (n k : ℕ) : Type 0 where
  pub newest : List (Op Affine)
  pub circuit : CircuitAt s.mem s.builder.room.used newest c
  pub ops : s.builder.ops ≡ length newest
  pub few : s.builder.ops ≤ ops_most
  pub wires : s.builder.room.used ≤ length s.mem.wires
  pub coefs : s.builder.room.used ≤ length s.mem.coefs
  pub nodes : n ≡ length c.outputs
  pub cursors : k ≡ length c.cursors
  pub terms : term_count floats c < 4294967296

-- building in this memory gives the circuit of these nodes
abbrev pub Builds : Mem → List ℕ → List ℕ → Type 0
Builds m kinds counts =
    BuiltAs (build_in m kinds counts (length kinds) (length (cursors_of kinds)) (length (leaves_of kinds))) (circuit_of kinds counts) (length kinds) (length (cursors_of kinds))

-- whatever nodes these bytes are accepted as
pub record Buildable (m : Mem) (bytes : List ℕ) : Type 0 where
  pub counted : (kinds counts : List ℕ) → tree_of bytes ≡ accepted kinds counts → length counts ≡ length kinds
  pub builds : (kinds counts : List ℕ) → tree_of bytes ≡ accepted kinds counts → Builds m kinds counts
