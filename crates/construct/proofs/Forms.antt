-- Every form of the circuit, ops in order: its scope.
use Prim.Native.Nat.{◌+◌, ◌≤◌, suc, ℕ}
use native.Mathlib.Omega.{arith}
use mathlib.Core.List.{List, [], ◌++◌, ◌∷◌, reverse, reverse-cons, reverse_aux}
use mathlib.Core.Path.{◌≡◌, ap, sym}
use lib.ListN.{length, length-reverse}
use Rattle.construct.proofs.Scope.{Wf, reads_up}
use Rattle.construct.proofs.Scoped.{circuit_made}
use Rattle.construct.specs.Circuit.{build, construct, forms_of, inputs, op_forms, output_forms, outputs_of}
use Rattle.construct.specs.Lower.{Flat}
use Rattle.construct.specs.Pairs.{Form, NodeReach, Op, pairs}
use Rattle.construct.specs.Scope.{InOrder, Reads, Scoped}
use Rattle.lists.proofs.Every.{all_append, all_map}
use Rattle.lists.specs.Every.{All}

-- from ops newest first to ops in order
module _ (R : Form → Type 0) where
  ops_onto : (os ps : List Op) → All R (op_forms os) → All R (op_forms ps) → All R (op_forms (reverse_aux os ps))
  unfolding op_forms
  ops_onto [] ps h k = k
  ops_onto (o ∷ os) ps h k = ops_onto os (o ∷ ps) h.1.1 (h.0, (h.1.0, k))

  outputs_have : (xs : List NodeReach) (fs : List Form) → All (λ (x : NodeReach). R x.raw.success × R x.raw.failure × R x.raw.running × R x.reached × R x.halted) xs → All R fs → All R (output_forms (outputs_of xs fs))
  unfolding output_forms
  outputs_have [] fs h k = tt
  outputs_have (x ∷ xs) [] h k = tt
  outputs_have (x ∷ xs) (f ∷ fs) h k = (h.0.0, (h.0.1, (h.0.2, (h.0.3, (h.0.4, (k.0, outputs_have xs fs h.1 k.1))))))

  -- a fact of every form that the passes leave is one of every form of the circuit
  pub forms_have : (ns : List Flat) → All R (op_forms (build pairs ns).running.ops)
      → All (λ (x : NodeReach). R x.raw.success × R x.raw.failure × R x.raw.running × R x.reached × R x.halted) (build pairs ns).pass.outs
      → All R (build pairs ns).running.items → All R (build pairs ns).pass.cursors → All R (forms_of (construct pairs ns))
  unfolding construct op_forms
  forms_have ns os xs fs cs =
      let b = build pairs ns in
      all_append R (op_forms (reverse b.running.ops)) (output_forms (outputs_of b.pass.outs b.running.items) ++ b.pass.cursors)
      (ops_onto b.running.ops [] os tt)
      (all_append R (output_forms (outputs_of b.pass.outs b.running.items)) b.pass.cursors (outputs_have b.pass.outs b.running.items xs fs) cs)

-- ---- scope

in_order_append : (n : ℕ) (xs : List Op) (o : Op) → InOrder n xs → Reads (n + length xs) o.left → Reads (n + length xs) o.gate → InOrder n (xs ++ (o ∷ []))
in_order_append n [] o h l g = let e : n + 0 ≡ n = omega arith in (rw e at l, rw e at g, tt)
in_order_append n (x ∷ xs) o h l g =
    let e : n + suc (length xs) ≡ suc n + length xs = omega arith in
    (h.0, h.1, in_order_append (suc n) xs o h.2 (rw e at l) (rw e at g))

in_order : (n : ℕ) (os : List Op) → Wf n os → InOrder n (reverse os)
in_order n [] w = tt
in_order n (o ∷ os) w =
    let e : n + length os ≡ n + length (reverse os) = ap (λ (k : ℕ). n + k) (sym (length-reverse os)) in
    rw (reverse-cons o os) (in_order_append n (reverse os) o (in_order n os w.2) (rw e at w.0) (rw e at w.1))

ops_read : (n : ℕ) (os : List Op) (m : ℕ) → n + length os ≤ m → Wf n os → All (Reads m) (op_forms os)
unfolding op_forms
ops_read n [] m l w = tt
ops_read n (o ∷ os) m l w = (
  reads_up (n + length os) m o.left (omega arith) w.0,
  (reads_up (n + length os) m o.gate (omega arith) w.1, ops_read n os m (omega arith) w.2),
)

-- THE LAW: every op reads earlier wires, every form wires of the table
pub circuit_scoped : (ns : List Flat) → Scoped (inputs ns) (construct pairs ns)
unfolding construct
circuit_scoped ns =
    let h = circuit_made ns in
    let opsAt = inputs ns in
    let os = (build pairs ns).running.ops in
    let m : opsAt + length os ≡ opsAt + length (reverse os) = ap (λ (k : ℕ). opsAt + k) (sym (length-reverse os)) in
    record {
      ops = in_order opsAt os h.wf;
      forms = rw m at (forms_have (Reads (opsAt + length os)) ns (ops_read opsAt os (opsAt + length os) (omega arith) h.wf)
          (all_map (λ x k. (k.raw.success, k.raw.failure, k.raw.running, k.reached, k.halted)) (build pairs ns).pass.outs h.outs) h.running h.cursors);
    }
