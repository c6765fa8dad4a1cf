-- Demand 2: "On every tree of the lowered kinds within the limits, every state and row of the right shape and range, and enough room: statuses,
-- halts and next state equal the direct walk's." Edges too.
use mathlib.Core.Path.{◌≡◌, sym, ◌∙◌, subst}
use mathlib.Core.Bool.{true}
use mathlib.Core.List.{List}
use Prim.Native.Nat.{ℕ, ◌≤◌}
use lib.ListN.{length}
use Rattle.tree.specs.Forest.{Forest, preorder}
use Rattle.tree.specs.Bytes.{Within, bytes_of}
use Rattle.wire.specs.declared.Counts.{Counts}
use Rattle.wire.specs.Storage.{op_slots, term_slots}
use Rattle.tick_check.specs.Check.{Stored}
use Rattle.tick_lane.specs.Lane.{Lent, Outcome, outcome}
use Rattle.tick.specs.Tick.{tick_of}
use Rattle.std.specs.Prelude.{Ok}
use Rattle.compile.specs.Answer.{Compiled}
use Rattle.compile.specs.Compile.{roomy, counts_of}
use Rattle.compile_laws.proofs.Compiles.{tree_circuit}
use Rattle.demands.specs.Contracts.{Rooms, lengths_of, circuit_in, CompilePermits, TickPermits}
use Rattle.demands.specs.Demands.{ValidRow, Ready, walked}
use Rattle.demands.proofs.Permitted.{tick_is}
use Rattle.demands.proofs.Left.{left_as}
use Rattle.demands.proofs.Once.{ticks}
use Rattle.demands.proofs.Demand1.{accepts_trees}

-- Whatever compile's contract permits of the tree's bytes, if it accepts them, and then whatever tick's contract permits on what it left: the
-- tick is accepted, and leaves the walk's answer in all that is lent.
pub demand_2 : (f : Forest ℕ) → Within f → (m left : Rooms) (n : Counts) → CompilePermits (bytes_of f) m (Ok n) left
    → (row : List ℕ) (l : Lent) (o : Outcome) → ValidRow f row → Ready f n l → TickPermits (circuit_in n left) row l o
    → o ≡ outcome (Ok tt) (walked (circuit_in n left) f row l)
demand_2 f w m left n p row l o valid ready q =
    let b = left_as f w m left n p in
    tick_is (circuit_in n left) row l o q
    ∙ subst (λ (s : Stored). Ready f s.counts l → tick_of s row l ≡ outcome (Ok tt) (walked s f row l)) (sym b.same)
    (λ r. ticks f w (lengths_of m) b.slots row l valid r) ready

-- With room for any tree in the storage lent, compile does accept it.
pub demand_2_in_room : (f : Forest ℕ) → Within f → (m left : Rooms) (answer : Compiled) → CompilePermits (bytes_of f) m answer left
    → roomy (lengths_of m) ≡ true → 2163 ≤ op_slots (length m.nums) (length m.biases) → 507904 ≤ term_slots (length m.wires) (length m.coefs)
    → (n : Counts) × (answer ≡ Ok n)
    × ((row : List ℕ) (l : Lent) (o : Outcome) → ValidRow f row → Ready f n l → TickPermits (circuit_in n left) row l o
    → o ≡ outcome (Ok tt) (walked (circuit_in n left) f row l))
demand_2_in_room f w m left answer p room ops terms =
    let n = counts_of (preorder f) (tree_circuit f) in
    let e = accepts_trees f w m answer left p room ops terms in
    (n, e, demand_2 f w m left n (subst (λ (a : Compiled). CompilePermits (bytes_of f) m a left) e p))
