-- Accepted bytes give the nodes of a tree within the limits, in slots that are enough for all that follows.
use Prim.Native.Nat.{ℕ, ◌+◌, ◌≤◌}
use native.Mathlib.Omega.{arith}
use mathlib.Core.List.{List}
use mathlib.Core.Path.{◌≡◌, ◌∙◌, ap, refl, sym}
use lib.ListN.{length, take}
use Rattle.lower_build_laws.proofs.Accepted.{Accepted}
use Rattle.lower_build_laws.proofs.Places.{nodes_at, padded_back, same_cursors, same_leaves}
use Rattle.lower_build_laws.proofs.Shape.{cells_below, count_most, roots_are, rows_few, sound}
use Rattle.lower_room.proofs.Slots.{ops_room}
use Rattle.construct_means.proofs.Sizes.{sizes}
use Rattle.plan.proofs.Laws.{report_tree}
use Rattle.plan_laws.proofs.Nodes.{cursors_count, leaves_count, report_count, shaped}
use Rattle.lower_room.proofs.Counted.{float_ops, float_pool}
use Rattle.lower_room.proofs.Enough.{room_enough}
use Rattle.tree_laws.proofs.Exact.{accepted_tree}
use Rattle.tree.proofs.Lengths.{counts_length, preorder_length}
use Rattle.tree.specs.Bytes.{Bytes, Within}
use Rattle.tree.specs.Forest.{Forest, counts, preorder, size, width}
use Rattle.tree.specs.Tree.{accepted, padded, tree_of}
use Rattle.walk.specs.Kind.{has_cursor, is_leaf}
use Rattle.walk.specs.Walk.{cells_in}

-- of a tree within the limits
tree_facts : (f : Forest ℕ) → Within f → Accepted (preorder f) (counts f)
tree_facts f w =
    let ok = w.lowered in
    let few = w.few in
    let long = preorder_length f in
    let below : cells_in f + width f ≤ size f = cells_below f ok in
    let short : length (preorder f) ≤ 128 = omega arith in
    let leaves = leaves_count f ok few in
    let cursors = cursors_count f ok few in
    let z = sizes f in
    record {
      tree = f;
      kinds_are = refl;
      counts_are = refl;
      shaped = shaped f ok;
      one = w.one;
      few = few;
      sound = sound f ok;
      root = roots_are f ok ∙ w.one;
      nodes = z.nodes ∙ sym long;
      counted = counts_length f ∙ sym long;
      some = omega (arith, w.one, below);
      most = short;
      rows = rows_few f w.one few;
      read = λ n m. nodes_at n m (preorder f) (counts f);
      leaves_same = λ n. same_leaves n (preorder f) short;
      cursors_same = λ n. same_cursors n (preorder f) short;
      kinds_back = λ n. padded_back n (preorder f);
      counts_back = λ n. ap (λ (k : ℕ). take k (padded n (counts f))) (long ∙ sym (counts_length f)) ∙ padded_back n (counts f);
      slots = z.slots ∙ sym leaves;
      cells = z.cells ∙ sym cursors;
      leaves_few = omega (arith, leaves, count_most is_leaf f);
      cursors_few = omega (arith, cursors, count_most has_cursor f);
      inputs_are = omega (arith, z.nodes, z.cells, z.slots, leaves, cursors);
      report = report_tree f few;
      reported = report_count f ok few ∙ sym long;
      circuit_ops = float_ops f few (omega (arith, w.one, below));
      circuit_terms_lem = float_pool f few;
      ops = ops_room f w.one few (omega (arith, below, w.one));
      terms = room_enough f few;
    }

-- of lists that are such a tree's
list_facts : (ks cs : List ℕ) (f : Forest ℕ) → Within f → ks ≡ preorder f → cs ≡ counts f → Accepted ks cs
list_facts ks cs f w e d = rw (e, d) (tree_facts f w)

-- THE LAW
pub accepted_tree_facts : (bytes ks cs : List ℕ) → Bytes bytes → tree_of bytes ≡ accepted ks cs → Accepted ks cs
accepted_tree_facts bytes ks cs ok e = let t = accepted_tree bytes ks cs ok e in list_facts ks cs t.tree t.within t.kinds_are t.counts_are
