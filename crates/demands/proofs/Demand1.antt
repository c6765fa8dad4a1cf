-- Demand 1: "Any input. Tree bytes, circuits, flags, cursors and leaf statuses may hold anything; each entry point answers or gives a refusal
-- from a fixed table, exactly when the table says, and what a refusal leaves in lent storage is fixed too."
-- Here of compile and tick; that each contract permits one outcome, and the table of all functions: crate unique.
use mathlib.Core.Path.{◌≡◌, refl, sym, ◌∙◌, ap, subst}
use mathlib.Core.Bool.{Bool, true, false, cond}
use mathlib.Core.List.{List}
use Prim.Native.Nat.{ℕ, ◌≤◌, ◌<◌}
use contract.Lifetimes.{Lfts}
use borrow.Author.Tests.{le-ltb, lt-ltb}
use borrow.Fn.Kinds.{Dens}
use lib.Dec.{ltb}
use Rattle.tree.specs.Forest.{Forest, preorder, counts}
use Rattle.tree.specs.Bytes.{Bytes, Within, bytes_of}
use Rattle.tree.specs.Tree.{refused, tree_of}
use Rattle.tree_record.specs.declared.refusal.Cause.TheVariants.{NoOpRoom, NoTermRoom, ShortRoom}
use Rattle.tree_record.specs.declared.refusal.Refusal.{Refusal}
use Rattle.tree_laws.proofs.Exact.{accepts}
use Rattle.wire.specs.declared.Counts.{Counts}
use Rattle.wire.specs.Storage.{op_slots, term_slots}
use Rattle.construct_floats.specs.Floats.{floats}
use Rattle.construct.specs.Circuit.{op_count, term_count}
use Rattle.tick_check.specs.Check.{Stored}
use Rattle.tick_lane.specs.Lane as tick
use Rattle.tick.specs.Tick.{tick_of}
use Rattle.tick.proofs.tick.Kinds as tick-kinds
use Rattle.tick.proofs.tick.Reads as tick-reads
use Rattle.std.specs.Prelude.{Ok, Err}
use Rattle.compile.specs.Answer.{Compiled}
use Rattle.compile.specs.Compile.{Lent, Outcome, roomy, refusal, counts_of, stored, compile_tree, compile_of}
use Rattle.compile_laws.proofs.Compiles.{tree_circuit}
use Rattle.lower_emit.specs.Settle.{zeros, zeros32}
use Rattle.lower.proofs.compile.Kinds as compile-kinds
use Rattle.lower.proofs.compile.Reads as compile-reads
use Rattle.demands.specs.Contracts.{Rooms, lengths_of, CompilePermits, TickPermits}
use Rattle.demands.specs.Demands.{unwritten}
use Rattle.demands.proofs.Permitted.{compile_is, work_is, tick_is}
use Rattle.demands.proofs.Left.{left_by}
use Rattle.demands.proofs.Trees.{compiled_tree, compiles_all}
use Rattle.demands.proofs.Refused.{zero_left, tick_leaves}

-- ---- any input: neither contract asks anything of what it is given

pub compile_any : (κs : Lfts 5) (given : Dens κs compile-kinds.ps) → compile-reads.Pre κs given
compile_any κs given = tt

pub tick_any : (κs : Lfts 5) (given : Dens κs tick-kinds.ps) → tick-reads.Pre κs given
tick_any κs given = tt

-- ---- compile, whatever its contract permits of bytes that may hold anything

module _ (bytes : List ℕ) (m : Rooms) (answer : Compiled) (left : Rooms) (permitted : CompilePermits bytes m answer left) where
  abbrev lengths : Lent
  lengths = lengths_of m

  answered : {o : Outcome} → compile_of lengths bytes ≡ o → answer ≡ o.answer
  answered e = ap (λ (o : Outcome). o.answer) (compile_is bytes m answer left permitted ∙ e)

  -- 14, "before any record is read"; then the reader's refusal, 1 to 8, as it is
  pub short_room : roomy lengths ≡ false → answer ≡ Err (record { cause = ShortRoom; place = 0 })
  unfolding compile_of
  short_room e = answered (λ i. cond (e i) (compile_tree lengths (tree_of bytes)) (refusal lengths ShortRoom 0))

  pub reader_tied : roomy lengths ≡ true → (r : Refusal) → tree_of bytes ≡ refused r → answer ≡ Err r
  unfolding compile_of compile_tree
  reader_tied room r e = answered (λ i. cond (room i) (compile_tree lengths (e i)) (refusal lengths ShortRoom 0))

  -- bytes that are no tree's within the limits are refused, whatever is lent
  pub refuses_others : Bytes bytes → ((f : Forest ℕ) → Within f → bytes ≡ bytes_of f → ⊥) → (r : Refusal) × (answer ≡ Err r)
  refuses_others b none = go answer refl
    where
      go : (c : Compiled) → answer ≡ c → (r : Refusal) × (answer ≡ Err r)
      go (Ok n) e = let t = compiled_tree lengths bytes n b (sym (answered refl) ∙ e) in absurd (none t.0 t.2.within t.1)
      go (Err r) e = (r, e)

  -- "A refused compile leaves all lent circuit storage zero"
  pub refused_zero : (r : Refusal) → answer ≡ Err r
      → (left.nums ≡ zeros m.nums) × (left.biases ≡ zeros32 m.biases) × (left.wires ≡ zeros m.wires) × (left.coefs ≡ zeros32 m.coefs)
  refused_zero r e =
      let same = compile_is bytes m answer left permitted in
      let z = zero_left lengths bytes r (sym (answered refl) ∙ e) in (
        ap (λ (o : Outcome). o.nums) same ∙ z.0,
        ap (λ (o : Outcome). o.biases) same ∙ z.1,
        ap (λ (o : Outcome). o.wires) same ∙ z.2,
        ap (λ (o : Outcome). o.coefs) same ∙ z.3,
      )

  -- "Compiling leaves that room zero", whatever it answers
  pub work_zero : (left.work_nums ≡ zeros m.work_nums) × (left.work_biases ≡ zeros32 m.work_biases)
      × (left.work_wires ≡ zeros m.work_wires) × (left.work_coefs ≡ zeros32 m.work_coefs)
  work_zero = work_is bytes m answer left permitted

-- ---- exactness: so that a compiler that refuses every tree does not meet the contract, and counts are the construction's

module _ (f : Forest ℕ) (w : Within f) (m : Rooms) (answer : Compiled) (left : Rooms) (permitted : CompilePermits (bytes_of f) m answer left) where
  abbrev l : Lent
  l = lengths_of m

  answers : {o : Outcome} → compile_of l (bytes_of f) ≡ o → answer ≡ o.answer
  answers e = answered (bytes_of f) m answer left permitted e

  -- every tree within the limits is accepted where there is room for any
  pub accepts_trees : roomy l ≡ true → 2163 ≤ op_slots l.nums l.biases
      → 507904 ≤ term_slots l.wires l.coefs → answer ≡ Ok (counts_of (preorder f) (tree_circuit f))
  accepts_trees room ops terms = answers refl ∙ (compiles_all f w l room ops terms).accepted

  -- what an accepted tree's answer counts
  pub counts_tied : (n : Counts) → answer ≡ Ok n → (n.ops ≡ op_count (tree_circuit f)) × (n.terms ≡ term_count floats (tree_circuit f))
  counts_tied n e =
      let same = (left_by l f n (record { within = w; accepted = sym (answers refl) ∙ e })).same in
      (ap (λ (s : Stored). s.counts.ops) same, ap (λ (s : Stored). s.counts.terms) same)

  -- 9 and 10: more ops than slots, else more terms than slots
  module _ (room : roomy l ≡ true) where
    abbrev no_ops : Bool
    no_ops = ltb (op_slots l.nums l.biases) (op_count (tree_circuit f))

    abbrev no_terms : Bool
    no_terms = ltb (term_slots l.wires l.coefs) (term_count floats (tree_circuit f))

    abbrev made : Outcome
    made = stored l (preorder f) (counts f)

    counted : compile_of l (bytes_of f) ≡ cond no_ops (refusal l NoOpRoom 0) (cond no_terms (refusal l NoTermRoom 0) made)
    unfolding compile_of compile_tree
    counted = λ i. cond (room i) (compile_tree l (accepts f w i)) (refusal l ShortRoom 0)

    pub ops_tied : op_slots l.nums l.biases < op_count (tree_circuit f) → answer ≡ Err (record { cause = NoOpRoom; place = 0 })
    ops_tied h =
        let a = lt-ltb (op_slots l.nums l.biases) (op_count (tree_circuit f)) h in
        answers (counted ∙ (λ i. cond (a i) (refusal l NoOpRoom 0) (cond no_terms (refusal l NoTermRoom 0) made)))

    pub terms_tied : op_count (tree_circuit f) ≤ op_slots l.nums l.biases → term_slots l.wires l.coefs < term_count floats (tree_circuit f)
        → answer ≡ Err (record { cause = NoTermRoom; place = 0 })
    terms_tied k h =
        let a = le-ltb (op_slots l.nums l.biases) (op_count (tree_circuit f)) k in
        let b = lt-ltb (term_slots l.wires l.coefs) (term_count floats (tree_circuit f)) h in
        answers (counted ∙ (λ i. cond (a i) (refusal l NoOpRoom 0) (cond (b i) (refusal l NoTermRoom 0) made)))

    -- and where the slots are enough for this tree, it is accepted
    pub accepted_tied : op_count (tree_circuit f) ≤ op_slots l.nums l.biases → term_count floats (tree_circuit f) ≤ term_slots l.wires l.coefs
        → answer ≡ Ok (counts_of (preorder f) (tree_circuit f))
    unfolding stored
    accepted_tied k h =
        let a = le-ltb (op_slots l.nums l.biases) (op_count (tree_circuit f)) k in
        let b = le-ltb (term_slots l.wires l.coefs) (term_count floats (tree_circuit f)) h in
        answers (counted ∙ (λ i. cond (a i) (refusal l NoOpRoom 0) (cond (b i) (refusal l NoTermRoom 0) made)))

-- ---- tick, whatever its contract permits of a circuit, row and state that may hold anything

module _ (s : Stored) (row : List ℕ) (given : tick.Lent) (o : tick.Outcome) (permitted : TickPermits s row given o) where
  -- 17, 11 to 16 and 18 "in this order", and all that is left
  pub tick_tied : o ≡ tick_of s row given
  tick_tied = tick_is s row given o permitted

  -- "what a refusal leaves": nothing is written, except that 18 leaves the value table computed
  pub refused_unwritten : tick.accepted o.answer ≡ false → o.left ≡ unwritten s row given o.answer
  refused_unwritten =
      subst (λ (o : tick.Outcome). tick.accepted o.answer ≡ false → o.left ≡ unwritten s row given o.answer) (sym tick_tied) (tick_leaves s row given)
