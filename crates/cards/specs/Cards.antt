-- Document 01's bench cards, those to be proved, as rows of one table, and what it is for a row to hold. Those on ticks are the walk's.
use Rattle.std.specs.Prelude.{ℕ, ◌+◌, ◌≤◌, ◌≡◌, true, List, [], ◌∷◌, ◌++◌, map, length, Ok, Err}
use Rattle.tree.specs.Bytes.{bytes_of}
use Rattle.tree_record.specs.Refusal.{number_of, kind_of}
use Rattle.wire.specs.declared.Counts.{Counts}
use Rattle.wire.specs.Storage.{op_slots, term_slots}
use Rattle.walk.specs.Walk.{Answer}
use Rattle.walk.specs.Cards.{Card, document}
use Rattle.tick_check.specs.Check.{stored}
use Rattle.tick_lane.specs.Lane.{Lent, Outcome}
use Rattle.tick.specs.Tick.{tick_of}
use Rattle.compile.specs.Answer.{Compiled}
use Rattle.compile.specs.Compile as compile
use Rattle.demands.specs.Demands.{over}

-- what compile says, in document 01's words: a number, its place and its kind; or how many cells and ops the circuit has
pub data Said : Type 0 where
  refused : ℕ → ℕ → ℕ → Said
  accepted : ℕ → ℕ → Said

-- a row: bytes, and what compile says of them; or a card of the walk, a tick of what its tree's bytes compile to
pub data Row : Type 0 where
  compiles : List ℕ → Said → Row
  ticks : Card → Row

-- ---- the table

abbrev pub leaf : List ℕ
leaf = 0x02 ∷ 0x00 ∷ 0x01 ∷ 0x00 ∷ []

-- a Sequence is of kind 4, a ReactiveSequence of kind 5
abbrev pub composite : ℕ → ℕ → List ℕ
composite kind count = 0x04 ∷ 0x00 ∷ kind ∷ 0x00 ∷ count ∷ 0x00 ∷ []

abbrev pub table : List Row
table =
    compiles [] (refused 1 0 0)
    ∷ compiles (0x02 ∷ 0x00 ∷ 0x0B ∷ 0x00 ∷ []) (refused 4 0 11)
    ∷ compiles (0x04 ∷ 0x00 ∷ 0x04 ∷ 0x00 ∷ 0x00 ∷ 0x00 ∷ []) (refused 5 0 0)
    ∷ compiles (leaf ++ 0x00 ∷ []) (refused 8 1 0)
    ∷ compiles leaf (accepted 4 0)
    ∷ compiles (composite 4 2 ++ leaf ++ leaf) (accepted 10 21)
    ∷ compiles (composite 5 2 ++ leaf ++ leaf) (accepted 9 10)
    ∷ map ticks document

-- ---- when a row holds

-- room for every tree: what docs/ asks, 2,163 op slots and 507,904 term slots
pub record Enough (l : compile.Lent) : Type 0 where
  pub fixed : compile.roomy l ≡ true
  pub ops : 2163 ≤ op_slots l.nums l.biases
  pub terms : 507904 ≤ term_slots l.wires l.coefs

abbrev pub told : Compiled → Said
told (Ok n) = accepted n.cells n.ops
told (Err r) = refused (number_of r.cause) r.place (kind_of r.cause)

-- the card's state, and outputs with room, whatever stands in them
pub record Given (c : Card) (n : Counts) (m : Lent) : Type 0 where
  pub flags : m.flags ≡ c.flags
  pub cursors : m.cursors ≡ c.cursors
  pub values_room : n.cells + n.ops ≤ length m.values
  pub statuses_room : n.nodes ≤ length m.statuses
  pub halts_room : n.nodes ≤ length m.halts
  pub edges_room : n.leaves ≤ length m.edges

-- what comes: statuses, halts and edges in their outputs, nothing written past them, and the next state
pub record Comes (a : Answer) (m : Lent) (o : Outcome) : Type 0 where
  pub accepted : o.answer ≡ Ok tt
  pub statuses : o.left.statuses ≡ over a.statuses m.statuses
  pub halts : o.left.halts ≡ over a.halts m.halts
  pub edges : o.left.edges ≡ over a.edges m.edges
  pub flags : o.left.flags ≡ a.flags
  pub cursors : o.left.cursors ≡ a.cursors

-- the tree's bytes compile, and the tick of the circuit left gives what comes
pub record Ticked (l : compile.Lent) (c : Card) : Type 0 where
  pub n : Counts
  pub compiled : (compile.compile_of l (bytes_of c.tree)).answer ≡ Ok n
  pub comes : (m : Lent) → Given c n m
      → let o = compile.compile_of l (bytes_of c.tree) in
      Comes c.answer m (tick_of (stored n o.nums o.biases o.wires o.coefs) c.row m)

abbrev pub Holds : compile.Lent → Row → Type 0
Holds l (compiles bytes said) = told (compile.compile_of l bytes).answer ≡ said
Holds l (ticks c) = Ticked l c
