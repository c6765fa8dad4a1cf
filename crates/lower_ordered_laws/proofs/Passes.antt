-- What stands in the table after each pass over the nodes: the passes' results, as the construction has them. Definitions only.
use Prim.Native.Nat.{ℕ, suc, ◌+◌, ◌-◌, ◌≤◌, ◌<◌}
use mathlib.Core.Path.{◌≡◌}
use mathlib.Core.List.{List, [], ◌∷◌, map}
use lib.ListN.{length}
use Rattle.wire.specs.Terms.{Affine}
use Rattle.construct.specs.Lower.{Flat, leaf, fixed, invert, force, ordered, StatusBits, Arbitration, Entry, NodeReach}
use Rattle.construct.specs.Lower as L
use Rattle.construct_floats.specs.Floats.{floats}
use Rattle.builder_table.specs.Work.{Standing, Mem, loaded}
use Rattle.builder_laws.specs.Table.{Ops, Stands}
use Rattle.lower_room.proofs.Uses.{kids_of}
use Rattle.builder_laws.proofs.Running.{Rows, StackAt}
use Rattle.lower_passes.specs.Marks.{Up}
use Rattle.lower_passes.specs.Arbitrate.{flat_at}
use Rattle.builder_table.specs.Slots.{reach_from, after_stop_from, raw_success_from, raw_failure_from, raw_running_from, stack_success_from, stack_failure_from, stack_running_from, arbitrated_from, reached_from, halted_from, untouched_from, entry_reached_from, entry_called_from}
use Rattle.lower_ordered_laws.proofs.Orders.{ss, fs, rs, reaches, afters}

-- ---- lists of nodes that are a forest's, in pre-order

abbrev pub takes : Flat → ℕ
takes leaf = 0
takes (fixed b) = 0
takes invert = 1
takes (force b) = 1
takes (ordered m q n) = n

-- how many trees the nodes make
unfoldable pub roots : List Flat → ℕ
roots [] = 0
roots (n ∷ ns) = suc (roots ns - takes n)

-- a composite has a child
abbrev pub Childed : Flat → Type 0
Childed leaf = Unit {0}
Childed (fixed b) = Unit {0}
Childed invert = Unit {0}
Childed (force b) = Unit {0}
Childed (ordered m q n) = 0 < n

-- each node finds the children that it asks for
unfoldable pub Sound : List Flat → Type 0
Sound [] = Unit {0}
Sound (n ∷ ns) = (takes n ≤ roots ns) × Childed n × Sound ns

-- rows that the composites' children have
unfoldable pub rows_in : List Flat → ℕ
rows_in [] = 0
rows_in (n ∷ ns) = rows_in ns + kids_of n

-- the nodes ns are those in the slots of kinds and counts from the i-th on
abbrev pub NodesAt : List ℕ → List ℕ → ℕ → List Flat → Type 0
NodesAt kinds counts i [] = Unit {0}
NodesAt kinds counts i (n ∷ ns) = (flat_at kinds counts i ≡ n) × NodesAt kinds counts (suc i) ns

module _ (m : Mem) (b : Standing) where
  -- what node i would return
  pub record RawAt (i : ℕ) (t : StatusBits Affine) : Type 0 where
    pub success : Stands m b (loaded m (raw_success_from + i)) t.success
    pub failure : Stands m b (loaded m (raw_failure_from + i)) t.failure
    pub running : Stands m b (loaded m (raw_running_from + i)) t.running

  -- a composite's arbitrated cursor
  abbrev pub CurAt : ℕ → Flat → Affine → Type 0
  CurAt i leaf x = Unit {0}
  CurAt i (fixed own) x = Unit {0}
  CurAt i invert x = Unit {0}
  CurAt i (force own) x = Unit {0}
  CurAt i (ordered memory on n) x = Stands m b (loaded m (arbitrated_from + i)) x

  -- what arbitrating keeps of node i, which is n, its children's rows being the last before `row`
  pub record ArbitrationAt (i row : ℕ) (n : Flat) (x : Arbitration Affine) : Type 0 where
    pub node : x.node ≡ n
    pub count : length x.kids ≡ kids_of n
    pub raw : RawAt i x.raw
    pub cursor : CurAt i n x.cursor
    pub reach : Rows m b (reach_from + (row - kids_of n)) (reaches x.kids)
    pub after : Rows m b (after_stop_from + (row - kids_of n)) (afters x.kids)

  -- of all nodes from the i-th on; the first has the last rows
  abbrev pub ArbitrationsAt : ℕ → List Flat → List (Arbitration Affine) → Type 0
  ArbitrationsAt i [] [] = Unit {0}
  ArbitrationsAt i [] (x ∷ xs) = ⊥
  ArbitrationsAt i (n ∷ ns) [] = ⊥
  ArbitrationsAt i (n ∷ ns) (x ∷ xs) = ArbitrationAt i (rows_in (n ∷ ns)) n x × ArbitrationsAt (suc i) ns xs

  -- the statuses that no parent has taken yet
  pub record StatusesAt (ts : List (StatusBits Affine)) : Type 0 where
    pub success : StackAt m b stack_success_from (ss ts)
    pub failure : StackAt m b stack_failure_from (fs ts)
    pub running : StackAt m b stack_running_from (rs ts)

  -- what nodes to come are told
  pub record EntriesAt (es : List (Entry Affine)) : Type 0 where
    pub reached : StackAt m b entry_reached_from (map (λ (e : Entry Affine). e.reached) es)
    pub called : StackAt m b entry_called_from (map (λ (e : Entry Affine). e.called) es)

  -- what reach leaves of node i
  pub record OutAt (i : ℕ) (x : NodeReach Affine) : Type 0 where
    pub raw : RawAt i x.raw
    pub reached : Stands m b (loaded m (reached_from + i)) x.reached
    pub halted : Stands m b (loaded m (halted_from + i)) x.halted
    pub untouched : Stands m b (loaded m (untouched_from + i)) x.untouched
    pub was : x.was ≡ floats.wire i

  abbrev pub OutsAt : ℕ → List (NodeReach Affine) → Type 0
  OutsAt i [] = Unit {0}
  OutsAt i (x ∷ xs) = OutAt i x × OutsAt (suc i) xs

-- after arbitrating the nodes ns, which are those from the i-th on: s leaf slots and c cursor cells come before them
pub record UpAt (i s c : ℕ) (ns : List Flat) (m : Mem) (v : Up) (u : L.Up Affine) : Type 0 where
  pub depth : v.depth ≡ roots ns
  pub stacked : length u.stack ≡ roots ns
  pub row : v.row ≡ rows_in ns
  pub slot : v.slot ≡ s
  pub cell : v.cell ≡ c
  pub stack : StatusesAt m v.builder u.stack
  pub arbitrations : ArbitrationsAt m v.builder i ns u.arbitrations
  pub ops : Ops m v.builder u.ops
