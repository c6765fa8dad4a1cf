-- The listing program at the front of its input: the record that holds the tree. Definitions only.
use Rattle.std.specs.Prelude.{ℕ, ◌-◌, Bool, true, false, cond, List, [], eqb, length, take, drop, Float, Ok, Err}
use Rattle.tree_record.specs.Refusal.{number_of}
use Rattle.wire.specs.declared.Counts.{Counts}
use Rattle.compile.specs.Answer.{Compiled}
use Rattle.compile.specs.Compile.{Lent, lent, Outcome, compile_of}
use Rattle.lower_emit.specs.Settle.{zeros, zeros32}
use Rattle.list_text.specs.declared.outer.Outer.{Outer}
use Rattle.list_text.specs.declared.outer.Outer.TheVariants.{Whole, Cut, Bad}
use Rattle.list_text.specs.Line.{refused_line, bad_line}
use Rattle.list_text.specs.Outer.{outer_at}
use Rattle.list_rows.specs.Listing.{tree_kind}

-- all that is lent for compiling: circuit storage, then work room
pub record Rooms : Type 0 where
  pub nums : List ℕ
  pub biases : List Float
  pub wires : List ℕ
  pub coefs : List Float
  pub work_nums : List ℕ
  pub work_biases : List Float
  pub work_wires : List ℕ
  pub work_coefs : List Float

abbrev pub rooms : List ℕ → List Float → List ℕ → List Float → List ℕ → List Float → List ℕ → List Float → Rooms
rooms nums biases wires coefs work_nums work_biases work_wires work_coefs =
    record {
      nums = nums;
      biases = biases;
      wires = wires;
      coefs = coefs;
      work_nums = work_nums;
      work_biases = work_biases;
      work_wires = work_wires;
      work_coefs = work_coefs;
    }

abbrev pub lengths_of : Rooms → Lent
lengths_of m =
    lent (length m.nums) (length m.biases) (length m.wires) (length m.coefs)
    (length m.work_nums) (length m.work_biases) (length m.work_wires) (length m.work_coefs)

-- what compiling leaves in them
abbrev pub compiled_in : Rooms → Outcome → Rooms
compiled_in m o =
    rooms o.nums o.biases o.wires o.coefs (zeros m.work_nums) (zeros32 m.work_biases) (zeros m.work_wires) (zeros32 m.work_coefs)

-- what is printed, how many bytes are read, whether rows are due, whether the run has ended, the circuit's counts where rows are due, and what
-- the rooms hold
pub record Began : Type 0 where
  pub text : List ℕ
  pub read : ℕ
  pub goes : Bool
  pub ended : Bool
  pub counts : Counts
  pub left : Rooms

abbrev pub no_counts : Counts
no_counts = record { nodes = 0; cursors = 0; leaves = 0; cells = 0; ops = 0; terms = 0 }

-- the bytes end inside the record: more may come
abbrev pub awaits : Rooms → Began
awaits m = record { text = []; read = 0; goes = false; ended = false; counts = no_counts; left = m }

-- "with length below 2 or not of the kind due .. prints `bad record` and ends the run"
abbrev pub spoils : Rooms → Began
spoils m = record { text = bad_line; read = 0; goes = false; ended = true; counts = no_counts; left = m }

-- "A refusal prints `refused NO at PLACE` and ends the run"
unfoldable pub begin_compiled : Compiled → ℕ → Rooms → Began
begin_compiled (Ok n) end m = record { text = []; read = end; goes = true; ended = false; counts = n; left = m }
begin_compiled (Err r) end m =
    record { text = refused_line (number_of r.cause) r.place; read = end; goes = false; ended = true; counts = no_counts; left = m }

unfoldable pub begin_tree : List ℕ → ℕ → Rooms → Began
begin_tree tree end m = let o = compile_of (lengths_of m) tree in begin_compiled o.answer end (compiled_in m o)

-- "one of kind 0x0101 holding the tree"
unfoldable pub begin_at : Outer → Rooms → List ℕ → Began
begin_at (Whole kind start end) m bytes = cond (eqb kind tree_kind) (begin_tree (take (end - start) (drop start bytes)) end m) (spoils m)
begin_at Cut m bytes = awaits m
begin_at Bad m bytes = spoils m

unfoldable pub begin_of : Rooms → List ℕ → Began
begin_of m bytes = begin_at (outer_at bytes 0) m bytes
