-- Whatever bytes are accepted, with the work room lent, building gives their circuit: what compile goes by.
use Prim.Native.Nat.{ℕ, ◌≤◌, ◌-◌}
use native.Mathlib.Omega.{arith}
use mathlib.Core.Path.{◌≡◌, ap, subst, ◌∙◌}
use mathlib.Core.List.{List, ◌++◌, append-nil}
use lib.ListN.{length, replicate, length-reverse}
use Rattle.tree.specs.Bytes.{Bytes}
use Rattle.tree.specs.Tree.{padded}
use Rattle.plan.specs.Plan.{leaves_of, cursors_of}
use Rattle.wire.specs.Storage.{term_slots}
use Rattle.construct_floats.specs.Floats.{floats}
use Rattle.construct.specs.Circuit.{flats, build}
use Rattle.builder_table.specs.Whole.{Whole}
use Rattle.builder_table.specs.Work.{Mem}
use Rattle.lower_passes.specs.Build.{build_in}
use Rattle.lower_build_laws.proofs.Facts.{accepted_tree_facts}
use Rattle.lower_emit_laws.specs.Built.{Buildable}
use Rattle.lower_build_laws.proofs.Built.{Built}
use Rattle.lower_build_laws.proofs.Build.{build_law}

-- no slots past the last
none_padded : (xs : List ℕ) → padded 0 xs ≡ xs
none_padded xs =
    let z : 0 - length xs ≡ 0 = omega arith in
    ap (λ (n : ℕ). xs ++ replicate n 0) z ∙ append-nil xs

pub buildable : (m : Mem) (bytes : List ℕ) → Bytes bytes → Whole m.nums m.biases → 262144 ≤ term_slots (length m.wires) (length m.coefs) → Buildable m bytes
buildable m bytes low w room =
    record {
      counted = λ ks cs e. (accepted_tree_facts bytes ks cs low e).counted;
      builds = λ ks cs e.
          let a = accepted_tree_facts bytes ks cs low e in
          let b : Built m (build_in m ks cs (length ks) (length (cursors_of ks)) (length (leaves_of ks))) ks cs
          = subst (λ (l : List ℕ). Built m (build_in m l cs (length ks) (length (cursors_of ks)) (length (leaves_of ks))) ks cs) (none_padded ks)
          (subst (λ (l : List ℕ). Built m (build_in m (padded 0 ks) l (length ks) (length (cursors_of ks)) (length (leaves_of ks))) ks cs) (none_padded cs) (build_law m ks cs 0 0 a w room)) in
          record {
            newest = (build floats (flats ks cs)).running.ops;
            circuit = b.circuit;
            ops = b.ops ∙ ap length b.circuit.order ∙ length-reverse (build floats (flats ks cs)).running.ops;
            few = omega (arith, b.op_room);
            wires = omega (arith, b.used, b.wires, room);
            coefs = omega (arith, b.used, b.coefs, room);
            nodes = b.nodes;
            cursors = b.cursors;
            terms = omega (arith, a.circuit_terms_lem);
          };
    }
