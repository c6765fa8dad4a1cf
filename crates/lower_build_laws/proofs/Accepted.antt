-- What holds of the kinds ks and child counts cs of accepted bytes. Definitions only.
use Prim.Native.Nat.{ℕ, ◌+◌, ◌*◌, ◌≤◌}
use mathlib.Core.List.{List}
use mathlib.Core.Path.{◌≡◌}
use lib.ListN.{length, take}
use Rattle.tree.specs.Forest.{Forest, counts, preorder, size, width}
use Rattle.tree.specs.Tree.{padded}
use Rattle.plan.specs.Plan.{cursors_of, leaves_of, report_in, report_of}
use Rattle.walk.specs.Kind.{kind_of}
use Rattle.construct.specs.Circuit.{cell_end, construct, flats, inputs, op_count, slot_end, term_count}
use Rattle.construct_means.specs.Means.{Shaped}
use Rattle.construct_floats.specs.Floats.{floats}
use Rattle.lower_room.proofs.Uses.{arena_use, ops_use}
use Rattle.lower_ordered_laws.proofs.Passes.{NodesAt, Sound, roots, rows_in}

pub record Accepted (ks cs : List ℕ) : Type 0 where
  -- they are a tree's, in pre-order
  pub tree : Forest ℕ
  pub kinds_are : ks ≡ preorder tree
  pub counts_are : cs ≡ counts tree
  pub shaped : Shaped kind_of tree
  pub one : width tree ≡ 1
  pub few : size tree ≤ 128
  -- as nodes, each finds its children, and one is the root
  pub sound : Sound (flats ks cs)
  pub root : roots (flats ks cs) ≡ 1
  pub nodes : length (flats ks cs) ≡ length ks
  pub counted : length cs ≡ length ks
  pub some : 1 ≤ length ks
  pub most : length ks ≤ 128
  pub rows : rows_in (flats ks cs) ≤ 127
  -- slots that hold them, and zeros after them, hold these nodes, and give the same lists
  pub read : (n m : ℕ) → NodesAt (padded n ks) (padded m cs) 0 (flats ks cs)
  pub leaves_same : (n : ℕ) → leaves_of (padded n ks) ≡ leaves_of ks
  pub cursors_same : (n : ℕ) → cursors_of (padded n ks) ≡ cursors_of ks
  pub kinds_back : (n : ℕ) → take (length ks) (padded n ks) ≡ ks
  pub counts_back : (n : ℕ) → take (length ks) (padded n cs) ≡ cs
  -- leaf slots, cursor cells and input cells are as many as the lists say
  pub slots : slot_end 0 (flats ks cs) ≡ length (leaves_of ks)
  pub cells : cell_end 0 (flats ks cs) ≡ length (cursors_of ks)
  pub leaves_few : length (leaves_of ks) ≤ 128
  pub cursors_few : length (cursors_of ks) ≤ 128
  pub inputs_are : inputs (flats ks cs) ≡ length ks + length (cursors_of ks) + 3 * length (leaves_of ks)
  -- each node is reported once, in post-order
  pub report : report_of cs ≡ report_in tree
  pub reported : length (report_of cs) ≡ length ks
  -- ops and terms that the circuit has, and that building asks for at most
  pub circuit_ops : op_count (construct floats (flats ks cs)) ≤ 2163
  pub circuit_terms_lem : term_count floats (construct floats (flats ks cs)) ≤ 507904
  pub ops : ops_use (flats ks cs) ≤ 2163
  pub terms : arena_use floats (flats ks cs) ≤ 262144
