-- What an accepted compile left, and that there was room for it.
use mathlib.Core.Path.{◌≡◌, refl, sym, ◌∙◌, ap}
use mathlib.Core.Bool.{Bool, true, false, cond}
use Prim.Native.Nat.{ℕ}
use native.Mathlib.Omega.{arith}
use borrow.Author.Tests.{leb-true, ltb-false}
use lib.Dec.{leb, ltb}
use Rattle.tree.specs.Forest.{Forest, preorder, counts}
use Rattle.tree.specs.Bytes.{Within, bytes_of}
use Rattle.tree.specs.Tree.{Parsed, accepted, tree_of}
use Rattle.tree_record.specs.declared.refusal.Cause.{Cause}
use Rattle.tree_record.specs.declared.refusal.Cause.TheVariants.{NoOpRoom, NoTermRoom, ShortRoom}
use Rattle.tree_laws.proofs.Exact.{accepts}
use Rattle.wire.specs.declared.Counts.{Counts}
use Rattle.wire.specs.Storage.{ops_from, op_biases_from, op_slots, term_slots}
use Rattle.lists.proofs.Tests.{both_left, both_right}
use Rattle.construct_floats.specs.Floats.{floats}
use Rattle.construct.specs.Circuit.{op_count, term_count}
use Rattle.std.specs.Prelude.{Ok}
use Rattle.compile.specs.Answer.{Compiled}
use Rattle.compile.specs.Compile.{Lent, Outcome, roomy, refusal, counts_of, stored, compile_tree, compile_of}
use Rattle.compile_laws.proofs.Compiles.{tree_circuit, stored_of, Slots}
use Rattle.tick_check.specs.Check.{Stored, stored as storedIn}
use Rattle.demands.specs.Contracts.{Rooms, lengths_of, circuit_in, CompilePermits}
use Rattle.demands.proofs.Permitted.{compile_is}

-- compile accepts the bytes of the tree f and answers the counts n
pub record Compiles (l : Lent) (f : Forest ℕ) (n : Counts) : Type 0 where
  pub within : Within f
  pub accepted : (compile_of l (bytes_of f)).answer ≡ Ok n

-- the circuit as it leaves it
abbrev pub left_within : Lent → Forest ℕ → Counts → Stored
left_within l f n = let o = compile_of l (bytes_of f) in storedIn n o.nums o.biases o.wires o.coefs

pub clash : (l : Lent) (c : Cause) (p : ℕ) (n : Counts) → (refusal l c p).answer ≡ Ok n → ⊥
clash l c p n e = let z : ◌≡◌ {A = ℕ} 0 1 = cc in omega arith

-- a test that an accepted compile passed
pub passed : (l : Lent) (c : Cause) (n : Counts) (b : Bool) (next : Outcome) → (cond b next (refusal l c 0)).answer ≡ Ok n
    → (b ≡ true) × (next.answer ≡ Ok n)
passed l c n true next e = (refl, e)
passed l c n false next e = absurd (clash l c 0 n e)

missed : (l : Lent) (c : Cause) (n : Counts) (b : Bool) (next : Outcome) → (cond b (refusal l c 0) next).answer ≡ Ok n
    → (b ≡ false) × (next.answer ≡ Ok n)
missed l c n true next e = absurd (clash l c 0 n e)
missed l c n false next e = (refl, e)

pub record LeftBy (l : Lent) (f : Forest ℕ) (n : Counts) : Type 0 where
  pub slots : Slots l (tree_circuit f)
  pub same : left_within l f n ≡ stored_of l f

pub left_by : (l : Lent) (f : Forest ℕ) (n : Counts) → Compiles l f n → LeftBy l f n
unfolding compile_of compile_tree roomy stored
left_by l f n c =
    let ks = preorder f in
    let cs = counts f in
    let circuit = tree_circuit f in
    let tree : tree_of (bytes_of f) ≡ accepted ks cs = accepts f c.within in
    let a = passed l ShortRoom n (roomy l) (compile_tree l (tree_of (bytes_of f))) c.accepted in
    let b : (compile_tree l (accepted ks cs)).answer ≡ Ok n = ap (λ (p : Parsed). (compile_tree l p).answer) (sym tree) ∙ a.1 in
    let ops = ltb (op_slots l.nums l.biases) (op_count circuit) in
    let terms = ltb (term_slots l.wires l.coefs) (term_count floats circuit) in
    let d = missed l NoOpRoom n ops (cond terms (refusal l NoTermRoom 0) (stored l ks cs)) b in
    let e = missed l NoTermRoom n terms (stored l ks cs) d.1 in
    let all : compile_of l (bytes_of f) ≡ stored l ks cs
    = (λ i. cond (a.0 i) (compile_tree l (tree i)) (refusal l ShortRoom 0))
    ∙ (λ i. cond (d.0 i) (refusal l NoOpRoom 0) (cond (e.0 i) (refusal l NoTermRoom 0) (stored l ks cs))) in
    let counted : n ≡ counts_of ks circuit = number e.1 in
    let k1 = leb-true ops_from l.nums (both_left (leb ops_from l.nums) _ a.0) in
    let k2 = leb-true op_biases_from l.biases (both_left (leb op_biases_from l.biases) _ (both_right (leb ops_from l.nums) _ a.0)) in
    let h = ltb-false (op_slots l.nums l.biases) (op_count circuit) d.0 in
    let k = ltb-false (term_slots l.wires l.coefs) (term_count floats circuit) e.0 in
    record {
      slots = record { in_nums = omega arith; in_biases = omega arith; in_wires = omega arith; in_coefs = omega arith };
      same = λ i. record { counts = counted i; nums = (all i).nums; biases = (all i).biases; wires = (all i).wires; coefs = (all i).coefs };
    }
  where
    number : ◌≡◌ {A = Compiled} (Ok (counts_of (preorder f) (tree_circuit f))) (Ok n) → n ≡ counts_of (preorder f) (tree_circuit f)
    number e = cc

-- and so of what its contract permits
pub record LeftAs (m left : Rooms) (f : Forest ℕ) (n : Counts) : Type 0 where
  pub slots : Slots (lengths_of m) (tree_circuit f)
  pub same : circuit_in n left ≡ stored_of (lengths_of m) f

pub left_as : (f : Forest ℕ) → Within f → (m left : Rooms) (n : Counts) → CompilePermits (bytes_of f) m (Ok n) left → LeftAs m left f n
left_as f w m left n p =
    let e = compile_is (bytes_of f) m (Ok n) left p in
    let b = left_by (lengths_of m) f n (record { within = w; accepted = ap (λ (o : Outcome). o.answer) (sym e) }) in
    record { slots = b.slots; same = (λ i. storedIn n (e i).nums (e i).biases (e i).wires (e i).coefs) ∙ b.same }
