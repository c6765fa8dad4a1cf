-- What lower_ordered leaves, and what it answers, is the construction's `lower_seq`. The law itself is `ordered_runs` of proofs/Ordered. Definitions only.
use Prim.Native.Nat.{ℕ, ◌+◌, ◌*◌, ◌≤◌, ◌<◌}
use mathlib.Core.List.{List, map}
use lib.ListN.{length}
use Rattle.wire.specs.declared.Form.{Form}
use Rattle.wire.specs.Terms.{Affine}
use Rattle.construct.specs.Builder.{Op}
use Rattle.construct.specs.Lower.{StatusBits, ArbitratedChild, Ordered, lower_seq}
use Rattle.construct_floats.specs.Floats.{floats}
use Rattle.builder_table.specs.Work.{Standing, Mem}
use Rattle.builder_table.specs.Whole.{Whole}
use Rattle.builder_laws.specs.Table.{Ops, Stands}
use Rattle.builder_table.specs.Slots.{before_from, reach_from, after_stop_from}
use Rattle.lower_room.proofs.Uses.{seq_use}
use Rattle.builder_laws.proofs.Running.{Not, Runs, Rows, Falls}
use Rattle.lower_passes.specs.Ordered.{Ordains, ordered_in}

-- the slots that it leaves alone, where its n children have the rows from `row` on
abbrev pub Apart : ℕ → ℕ → ℕ → Type 0
Apart row n k = Not before_from reach_from k × Not (reach_from + row) (reach_from + row + n) k × Not (after_stop_from + row) (after_stop_from + row + n) k

-- the three bits of some statuses
abbrev pub ss : List (StatusBits Affine) → List Affine
ss ts = map (λ (t : StatusBits Affine). t.success) ts

abbrev pub fs : List (StatusBits Affine) → List Affine
fs ts = map (λ (t : StatusBits Affine). t.failure) ts

abbrev pub rs : List (StatusBits Affine) → List Affine
rs ts = map (λ (t : StatusBits Affine). t.running) ts

-- what reach needs of children
abbrev pub reaches : List (ArbitratedChild Affine) → List Affine
reaches ks = map (λ (k : ArbitratedChild Affine). k.reach) ks

abbrev pub afters : List (ArbitratedChild Affine) → List Affine
afters ks = map (λ (k : ArbitratedChild Affine). k.after_stop) ks

pub record OrderedRuns (m : Mem) (b : Standing) (row n need : ℕ) (e : Ordains) (o : Ordered Affine) : Type 0 where
  pub runs : Runs (Apart row n) m b e.mem e.ordered.builder o.ops need (8 * n)
  pub advance : Stands e.mem e.ordered.builder e.ordered.advance o.status.success
  pub other : Stands e.mem e.ordered.builder e.ordered.other o.status.failure
  pub run : Stands e.mem e.ordered.builder e.ordered.run o.status.running
  pub cursor : Stands e.mem e.ordered.builder e.ordered.cursor o.cursor
  pub reach : Rows e.mem e.ordered.builder (reach_from + row) (reaches o.kids)
  pub after : Rows e.mem e.ordered.builder (after_stop_from + row) (afters o.kids)

abbrev pub OrderedLaw : Type 0
OrderedLaw =
    (m : Mem) (b : Standing) (cursor : Form) (advance other run row : ℕ) (c : Affine) (ts : List (StatusBits Affine)) (os : List (Op Affine))
    → Whole m.nums m.biases → Ops m b os → Stands m b cursor c
    → Falls m b advance (ss ts) → Falls m b other (fs ts) → Falls m b run (rs ts)
    → advance < 768 → other < 768 → run < 768 → row + length ts ≤ 128
    → OrderedRuns m b row (length ts) (seq_use floats b.cells c ts os) (ordered_in m b cursor advance other run row (length ts)) (lower_seq floats b.cells c ts os)
