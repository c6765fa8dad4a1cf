-- What it is for the circuit of a tree to mean the walk: cells that hold a state and a row, and outputs that hold what the walk makes of them.
use Rattle.std.specs.Prelude.{◌*◌, ◌+◌, ◌<◌, ℕ, List, ◌≡◌, get_or, length}
use Rattle.construct.specs.Circuit.{Circuit, Output, construct, flats}
use Rattle.construct.specs.Lower.{flags}
use Rattle.construct.specs.Pairs.{Form, pairs}
use Rattle.construct.specs.Value.{Bit, BitsAre, Val, cell}
use Rattle.tree.specs.Forest.{Forest, counts, node, none, preorder, size, width}
use Rattle.walk.specs.Kind.{Kind, arity, bit, has_cursor}
use Rattle.lists.specs.Every.{All2}
use Rattle.walk.specs.Status.{is_failure, is_running_status, is_success, status_of}
use Rattle.walk.specs.Walk.{Fate, as_read, cells_in, each, fates_of, is_running, next_cursor, next_flag, slots_in, status}

-- every node has as many children as its kind may have: leaves and constants none, decorators one
abbrev pub Shaped : {X : Type 0} → (X → Kind) → Forest X → Type 0
Shaped kind none = Unit {0}
Shaped kind (node x kids rest) = (width kids ≡ arity (kind x) (width kids)) × Shaped kind kids × Shaped kind rest

-- "Cells: running flag of node i at i; cursor c at N + c; leaf slot s at N + C + 3s for success, then failure, then running." The input cells
-- of a tree's state and row
pub record Loaded (f : Forest ℕ) (flags cursors row ins : List ℕ) : Type 0 where
  pub long : length ins ≡ size f + cells_in f + 3 * slots_in f
  pub flag : (i : ℕ) → i < size f → cell ins i ≡ bit (is_running (get_or flags i 0))
  pub cursor : (c : ℕ) → c < cells_in f → cell ins (size f + c) ≡ as_read (get_or cursors c 0)
  pub success : (s : ℕ) → s < slots_in f → cell ins (size f + cells_in f + 3 * s) ≡ bit (is_success (status_of (get_or row s 0)))
  pub failure : (s : ℕ) → s < slots_in f → cell ins (size f + cells_in f + 3 * s + 1) ≡ bit (is_failure (status_of (get_or row s 0)))
  pub running : (s : ℕ) → s < slots_in f → cell ins (size f + cells_in f + 3 * s + 2) ≡ bit (is_running_status (status_of (get_or row s 0)))

-- the circuit of a tree
abbrev pub circuit_of : Forest ℕ → Circuit Form
circuit_of f = construct pairs (flats (preorder f) (counts f))

-- a node's outputs, in a table ρ, are what becomes of it: its would-be status, ticked, halted, its next flag
pub record OutputIs (ρ : ℕ → ℕ) (o : Output Form) (x : Fate) : Type 0 where
  pub status : BitsAre ρ o.status x.would
  pub reached : Bit ρ o.reached x.ticked
  pub halted : Bit ρ o.halted x.halted
  pub running : Bit ρ o.running (next_flag x)

-- the next cursors of the nodes that have one
abbrev pub cursors_of : List Fate → List ℕ
cursors_of xs = each (λ x. has_cursor x.own.kind) next_cursor xs

pub record Means (f : Forest ℕ) (flags cursors row table : List ℕ) : Type 0 where
  pub outputs : All2 (OutputIs (cell table)) (circuit_of f).outputs (fates_of f flags cursors row)
  pub resumes : All2 (Val (cell table)) (circuit_of f).cursors (cursors_of (fates_of f flags cursors row))
