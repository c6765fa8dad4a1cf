-- The contracts of `lower::compile` and `tick::tick`, of plain lists: `Post` is what the toolchain reads off their `ensures`, so a contract
-- that said less would permit more here. Definitions only.
use Rattle.std.specs.Prelude.{ℕ, List, length, Float}
use Rattle.std.specs.Borrow.{GName, Bor, MutBor}
use contract.Lifetimes.{Lfts}
use borrow.Fn.Kinds.{Dens}
use Rattle.wire.specs.declared.Counts.{Counts}
use Rattle.wire.specs.declared.Circuit.{Circuit}
use Rattle.wire.specs.declared.storage.Storage.{Storage}
use Rattle.compile.specs.declared.WorkRoom.{WorkRoom}
use Rattle.tick_lane.specs.declared.lent.Lane.{Lane}
use Rattle.tick_check.specs.Check.{Stored, stored}
use Rattle.tick_lane.specs.Lane.{Lent, Outcome}
use Rattle.tick.proofs.tick.Kinds as tick-kinds
use Rattle.tick.proofs.tick.Reads as tick-reads
use Rattle.compile.specs.Answer.{Compiled}
use Rattle.compile.specs.Compile as compile
use Rattle.lower.proofs.compile.Kinds as compile-kinds
use Rattle.lower.proofs.compile.Reads as compile-reads

-- where a slice or a struct lies: its address, and the name under which its contents are tracked, which a contract keeps
pub record Place : Type 0 where
  pub ptr : ℕ × ℕ
  pub name : GName

-- lent as `&`, and as `&mut`: a slice of a list, or a struct
abbrev pub ref : {A : Type 0} → Place → A → Bor A
ref p x = record { ref_ptr = p.ptr; now = x }

abbrev pub mut_ref : {A : Type 0} → Place → A → MutBor A
mut_ref p x = record { ref_ptr = p.ptr; ghost_name = p.name; now = x }

-- arguments in their order
infixr 30 ◌&◌
abbrev pub ◌&◌ : {A B : Type 0} → A → B → A × B
a & b = (a, b)

-- ---- lower::compile

-- all that is lent for compiling: circuit storage, then work room
pub record Rooms : Type 0 where
  pub nums : List ℕ
  pub biases : List Float
  pub wires : List ℕ
  pub coefs : List Float
  pub work_nums : List ℕ
  pub work_biases : List Float
  pub work_wires : List ℕ
  pub work_coefs : List Float

abbrev pub lengths_of : Rooms → compile.Lent
lengths_of m =
    compile.lent (length m.nums) (length m.biases) (length m.wires) (length m.coefs) (length m.work_nums)
    (length m.work_biases) (length m.work_wires) (length m.work_coefs)

-- "storage unaltered": the circuit that stands in the rooms
abbrev pub circuit_in : Counts → Rooms → Stored
circuit_in n m = stored n m.nums m.biases m.wires m.coefs

abbrev pub storage : (ℕ → Place) → Rooms → Storage
storage at m = record { nums = mut_ref (at 1) m.nums; biases = mut_ref (at 2) m.biases; wires = mut_ref (at 3) m.wires; coefs = mut_ref (at 4) m.coefs }

abbrev pub work_room : (ℕ → Place) → Rooms → WorkRoom
work_room at m =
    record {
      nums = mut_ref (at 5) m.work_nums;
      biases = mut_ref (at 6) m.work_biases;
      wires = mut_ref (at 7) m.work_wires;
      coefs = mut_ref (at 8) m.work_coefs;
    }

abbrev pub compile_given : (κs : Lfts 5) → (ℕ → Place) → List ℕ → Rooms → Dens κs compile-kinds.ps
compile_given κs at tree m = ref (at 0) tree & mut_ref (at 9) (storage at m) & mut_ref (at 10) (work_room at m) & tt

-- of these bytes and rooms, wherever they lie, it may answer so and leave the rooms so
pub record CompilePermits (tree : List ℕ) (m : Rooms) (answer : Compiled) (left : Rooms) : Type 0 where
  pub κs : Lfts 5
  pub at : ℕ → Place
  pub post : compile-reads.Post κs (compile_given κs at tree m) answer (compile_given κs at tree left)

-- ---- tick::tick

abbrev pub circuit : (ℕ → Place) → Stored → Circuit
circuit at s =
    record {
      counts = s.counts;
      nums = ref (at 0) s.nums;
      biases = ref (at 1) s.biases;
      pools = record { wires = ref (at 2) s.wires; coefs = ref (at 3) s.coefs };
    }

abbrev pub lane : (ℕ → Place) → Lent → Lane
lane at m =
    record {
      flags = mut_ref (at 5) m.flags;
      cursors = mut_ref (at 6) m.cursors;
      values = mut_ref (at 7) m.values;
      statuses = mut_ref (at 8) m.statuses;
      halts = mut_ref (at 9) m.halts;
      edges = mut_ref (at 10) m.edges;
    }

abbrev pub tick_given : (κs : Lfts 5) → (ℕ → Place) → Stored → List ℕ → Lent → Dens κs tick-kinds.ps
tick_given κs at s row m = ref (at 11) (circuit at s) & ref (at 4) row & mut_ref (at 12) (lane at m) & tt

-- of this circuit, row and what is lent, wherever it lies, it may answer and leave this
pub record TickPermits (s : Stored) (row : List ℕ) (m : Lent) (o : Outcome) : Type 0 where
  pub κs : Lfts 5
  pub at : ℕ → Place
  pub post : tick-reads.Post κs (tick_given κs at s row m) o.answer (tick_given κs at s row o.left)
