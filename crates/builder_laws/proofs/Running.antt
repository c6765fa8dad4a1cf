-- How work on the table is followed from one step to the next: which slots stay as they are, which ops have been made, how much room is enough, and what
-- the slots stand for. Definitions only.
use Prim.Native.Nat.{ℕ, suc, ◌+◌, ◌-◌, ◌≤◌, ◌<◌}
use mathlib.Core.Path.{◌≡◌}
use mathlib.Core.List.{List, [], ◌∷◌}
use lib.ListN.{length}
use Rattle.wire.specs.Terms.{Affine}
use Rattle.arena_laws.specs.Holds.{Grows}
use Rattle.construct.specs.Builder.{Op}
use Rattle.builder_table.specs.Work.{Standing, Mem, loaded}
use Rattle.builder_table.specs.Slots.{ops_from}
use Rattle.builder_laws.specs.Table.{Ops, Stands, Lasts}

-- k is none of the slots from lo up to hi
abbrev pub Not : ℕ → ℕ → ℕ → Type 0
Not lo hi k = lo ≤ k → k < hi → ⊥

-- the arena grows, lengths stay, and so do the slots below the ops that K holds of
pub record Keeps (K : ℕ → Type 0) (m : Mem) (b : Standing) (m' : Mem) (b' : Standing) : Type 0 where
  pub arena : Grows m.wires m.coefs b.room m'.wires m'.coefs b'.room
  pub nums : length m'.nums ≡ length m.nums
  pub biases : length m'.biases ≡ length m.biases
  pub slots : (k : ℕ) → k < ops_from → K k → loaded m' k ≡ loaded m k
  pub cells : b'.cells ≡ b.cells

-- from m and b to m' and b', where the ops made are os; room for `need` more terms and `more` ops is enough
pub record Runs (K : ℕ → Type 0) (m : Mem) (b : Standing) (m' : Mem) (b' : Standing) (os : List (Op Affine)) (need more : ℕ) : Type 0 where
  pub keeps : Keeps K m b m' b'
  pub ops : Ops m' b' os
  pub lasts : Lasts m b b' need more

-- the slots from `from` on stand for xs
abbrev pub Rows : Mem → Standing → ℕ → List Affine → Type 0
Rows m b from [] = Unit {0}
Rows m b from (x ∷ xs) = Stands m b (loaded m from) x × Rows m b (suc from) xs

-- the slots from `top` down stand for xs
abbrev pub Falls : Mem → Standing → ℕ → List Affine → Type 0
Falls m b top [] = Unit {0}
Falls m b top (x ∷ xs) = Stands m b (loaded m top) x × Falls m b (top - 1) xs

-- a stack whose bottom is slot `base` stands for xs, the head on top
abbrev pub StackAt : Mem → Standing → ℕ → List Affine → Type 0
StackAt m b base [] = Unit {0}
StackAt m b base (x ∷ xs) = Stands m b (loaded m (base + length xs)) x × StackAt m b base xs
