-- For the nodes of accepted bytes the building phase has room, and leaves the constructed circuit.
use Prim.Native.Nat.{ℕ, ◌≤◌}
use native.Mathlib.Omega.{arith}
use mathlib.Core.Path.{sym, ap, ◌∙◌}
use mathlib.Core.List.{List}
use lib.ListN.{length, length-reverse}
use Rattle.tree.specs.Tree.{padded}
use Rattle.plan.specs.Plan.{leaves_of, cursors_of}
use Rattle.wire.specs.Storage.{term_slots}
use Rattle.construct_floats.specs.Floats.{floats}
use Rattle.construct.specs.Circuit.{flats, build}
use Rattle.builder_table.specs.Whole.{Whole}
use Rattle.builder_table.specs.Work.{Mem}
use Rattle.lower_passes.specs.Build.{build_in}
use Rattle.lower_build_laws.proofs.Accepted.{Accepted}
use Rattle.lower_build_laws.proofs.Built.{Built}
use Rattle.lower_build_laws.proofs.Nodes.{Passed, nodes_built}

pub build_law : (m : Mem) (ks cs : List ℕ) (kn cn : ℕ) → Accepted ks cs → Whole m.nums m.biases → 262144 ≤ term_slots (length m.wires) (length m.coefs)
    → Built m (build_in m (padded kn ks) (padded cn cs) (length ks) (length (cursors_of ks)) (length (leaves_of ks))) ks cs
build_law m ks cs kn cn a w room =
    let ns = flats ks cs in
    let p =
    nodes_built m (padded kn ks) (padded cn cs) ns (a.read kn cn) a.sound a.root (omega (arith, a.nodes, a.most)) (omega (arith, a.cells, a.cursors_few)) w
    (omega (arith, a.inputs_are, a.most, a.cursors_few, a.leaves_few)) (omega (arith, a.ops)) (omega (arith, a.terms, room)) in
    let q : Passed m (build_in m (padded kn ks) (padded cn cs) (length ks) (length (cursors_of ks)) (length (leaves_of ks))) ns = rw (a.nodes, a.cells, a.slots) at p in
    record {
      circuit = q.circuit;
      ops = q.ops ∙ sym (ap length q.circuit.order ∙ length-reverse (build floats ns).running.ops);
      nodes = sym a.nodes ∙ sym q.outputs;
      cursors = sym a.cells ∙ sym q.cursors;
      ok = q.ok;
      used = omega (arith, q.used, a.terms);
      op_room = omega (arith, q.made, a.ops);
      wires = q.wires;
      coefs = q.coefs;
      nums = q.nums;
      biases = q.biases;
    }
