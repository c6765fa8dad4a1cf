-- What arbitrating leaves: the construction's statuses, infos and ops stand in the table, and so much room is enough. Definitions only.
use Prim.Native.Nat.{ℕ}
use mathlib.Core.List.{List}
use Rattle.wire.specs.Terms.{Affine}
use Rattle.construct.specs.Lower.{Flat}
use Rattle.construct.specs.Lower as L
use Rattle.builder_table.specs.Work.{Mem}
use Rattle.builder_laws.proofs.Running.{Runs}
use Rattle.lower_passes.specs.Marks.{Up}
use Rattle.lower_passes.specs.Arbitrate.{Raised}
use Rattle.lower_ordered_laws.proofs.Passes.{UpAt}

-- no slot need stay
abbrev pub None : ℕ → Type 0
None k = ⊥

-- from m and v to e, where the nodes done are ns, those from the i-th on: s leaf slots and c cursor cells come before them
pub record Arbitrated (i s c : ℕ) (ns : List Flat) (m : Mem) (v : Up) (e : Raised) (u : L.Up Affine) (need more : ℕ) : Type 0 where
  pub stands : UpAt i s c ns e.mem e.up u
  pub runs : Runs None m v.builder e.mem e.up.builder u.ops need more
