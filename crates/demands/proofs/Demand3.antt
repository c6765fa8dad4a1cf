-- Demand 3: "Any compiled tree, storage unaltered, from any 0/1 flags and any cursors, any number of valid rows: no tick refused, each would-be
-- status exactly one of three, no node both ticked and halted, every running sum whole and below 2^24 in size, so f32 drops nothing, and each
-- tick's answers and state those of the direct walk." By induction on the ticks.
use mathlib.Core.Path.{◌≡◌, sym, ◌∙◌, ap, subst}
use mathlib.Core.List.{List, [], ◌∷◌}
use Prim.Native.Nat.{ℕ}
use Rattle.tree.specs.Forest.{Forest}
use Rattle.tree.specs.Bytes.{Bytes, Within, bytes_of}
use Rattle.wire.specs.declared.Counts.{Counts}
use Rattle.lists.specs.Every.{All}
use Rattle.tick_check.specs.Check.{Stored}
use Rattle.tick_lane.specs.Lane.{Outcome, outcome}
use Rattle.std.specs.Prelude.{Ok}
use Rattle.compile.specs.Compile as compile
use Rattle.compile_laws.proofs.Compiles.{tree_circuit, stored_of, Slots}
use Rattle.demands.specs.Contracts.{Rooms, lengths_of, circuit_in, CompilePermits}
use Rattle.demands.specs.Demands.{ValidState, Ready, walked, Tick, Step, Run, Sure}
use Rattle.demands.proofs.Permitted.{compile_is, tick_is}
use Rattle.demands.proofs.Left.{left_as}
use Rattle.demands.proofs.Trees.{compiled_tree}
use Rattle.demands.proofs.Once.{ticks, state_next}
use Rattle.demands.proofs.Clauses.{sure}

module _ (f : Forest ℕ) (w : Within f) (l : compile.Lent) (slots : Slots l (tree_circuit f)) where
  abbrev s : Stored
  s = stored_of l f

  module _ (flags cursors : List ℕ) (state : ValidState f flags cursors) (t : Tick) (step : Step s f flags cursors t) where
    ready : Ready f s.counts t.lent
    ready = record { state = rw (step.from_flags, step.from_cursors) state; room = step.room }

    is_walked : t.out ≡ outcome (Ok tt) (walked s f t.row t.lent)
    is_walked = tick_is s t.row t.lent t.out step.permitted ∙ ticks f w l slots t.row t.lent step.valid ready

    tick_sure : Sure s f t
    tick_sure =
        subst (λ (o : Outcome). Sure s f (record { row = t.row; lent = t.lent; out = o })) (sym is_walked)
        (sure f w l slots t.row t.lent step.valid ready)

    state_after : ValidState f t.out.left.flags t.out.left.cursors
    unfolding walked
    state_after =
        subst (λ (o : Outcome). ValidState f o.left.flags o.left.cursors) (sym is_walked)
        (state_next f t.lent.flags t.lent.cursors t.row)

  runs : (ts : List Tick) (flags cursors : List ℕ) → ValidState f flags cursors → Run s f flags cursors ts → All (Sure s f) ts
  runs [] flags cursors state run = tt
  runs (t ∷ ts) flags cursors state run = (
    tick_sure flags cursors state t run.0,
    runs ts t.out.left.flags t.out.left.cursors (state_after flags cursors state t run.0) run.1,
  )

-- Whatever compile's contract permits of the tree's bytes, if it accepts them, and then whatever tick's contract permits, tick after tick.
pub demand_3 : (f : Forest ℕ) → Within f → (m left : Rooms) (n : Counts) → CompilePermits (bytes_of f) m (Ok n) left
    → (flags cursors : List ℕ) → ValidState f flags cursors → (ts : List Tick) → Run (circuit_in n left) f flags cursors ts
    → All (Sure (circuit_in n left) f) ts
demand_3 f w m left n p flags cursors state ts run =
    let b = left_as f w m left n p in
    subst (λ (s : Stored). Run s f flags cursors ts → All (Sure s f) ts) (sym b.same) (runs f w (lengths_of m) b.slots ts flags cursors state) run

-- Whatever bytes compile accepts, they are such a tree's.
pub demand_3_compiled : (bytes : List ℕ) → Bytes bytes → (m left : Rooms) (n : Counts) → CompilePermits bytes m (Ok n) left
    → (f : Forest ℕ) × (bytes ≡ bytes_of f) × Within f
    × ((flags cursors : List ℕ) → ValidState f flags cursors → (ts : List Tick) → Run (circuit_in n left) f flags cursors ts
    → All (Sure (circuit_in n left) f) ts)
demand_3_compiled bytes b m left n p =
    let said = ap (λ (o : compile.Outcome). o.answer) (sym (compile_is bytes m (Ok n) left p)) in
    let t = compiled_tree (lengths_of m) bytes n b said in
    let f = t.0 in
    let w = t.2.within in
    (f, t.1, w, demand_3 f w m left n (subst (λ (bs : List ℕ). CompilePermits bs m (Ok n) left) t.1 p))
