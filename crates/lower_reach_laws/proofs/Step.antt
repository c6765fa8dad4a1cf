-- What a node of a list that is a forest's asks for is there, so that a step of reaching is the node's.
use Prim.Native.Nat.{ℕ, suc, ◌+◌, ◌-◌, ◌≤◌, ◌<◌}
use native.Mathlib.Omega.{arith}
use native.Mathlib.Numerals.{add-one}
use mathlib.Core.Path.{◌≡◌, ap, ◌∙◌}
use mathlib.Core.Bool.{Bool, true, false, cond, ◌&&◌}
use mathlib.Core.List.{List}
use borrow.Author.Tests.{lt-ltb, le-leb}
use Rattle.construct.specs.Lower.{Flat, leaf, fixed, invert, force, ordered, cell_after}
use Rattle.builder_table.specs.Work.{Mem}
use Rattle.lower_room.proofs.Uses.{kids_of}
use Rattle.lower_passes.specs.Arbitrate.{flat_at}
use Rattle.lower_passes.specs.Marks.{Down}
use Rattle.lower_passes.specs.Reach.{Lowered, ready, stuck, node_in, step_within, reach_in}
use Rattle.lower_reach_laws.proofs.Node.{node_reach, node_at}

pub ready_law : (v : Down) (node : Flat) → 0 < v.depth → v.depth + kids_of node ≤ 129 → kids_of node ≤ v.row → cell_after node v.cell ≤ 128 → ready v node ≡ true
ready_law v leaf h d r c = lt-ltb 0 v.depth h
ready_law v (fixed own) h d r c = lt-ltb 0 v.depth h
ready_law v invert h d r c = lt-ltb 0 v.depth h
ready_law v (force own) h d r c = lt-ltb 0 v.depth h
ready_law v (ordered true on n) h d r c =
    λ i. lt-ltb 0 v.depth h i && (le-leb (v.depth + n) 129 d i && (le-leb n v.row r i && lt-ltb v.cell 128 c i))
ready_law v (ordered false on n) h d r c = λ i. lt-ltb 0 v.depth h i && (le-leb (v.depth + n) 129 d i && le-leb n v.row r i)

-- its own entry is at depth d
pub step_law : (m : Mem) (v : Down) (i : ℕ) (node : Flat) (nodes d row c : ℕ) → v.depth ≡ suc d → v.row ≡ row → v.cell ≡ c → d + kids_of node ≤ 128 → kids_of node ≤ row → cell_after node c ≤ 128
    → step_within m v i node nodes ≡ node_reach m v.builder d row c i node nodes
unfolding step_within
step_law m v i node nodes d row c ed er ec hd hr hc =
    let e : v.depth - 1 ≡ d = omega arith in
    ap (λ (t : Bool). cond t (node_in m v i node nodes) (stuck m v)) (ready_law v node (omega arith) (omega arith) (omega arith) (rw ec hc))
    ∙ node_at m v i node nodes
    ∙ (λ j. node_reach m v.builder (e j) (er j) (ec j) i node nodes)

pub reach_next : (m : Mem) (v : Down) (kinds counts : List ℕ) (nodes i rest : ℕ) {node : Flat} {s : Lowered} → flat_at kinds counts i ≡ node → step_within m v i node nodes ≡ s
    → reach_in m v kinds counts nodes i (suc rest) ≡ reach_in s.mem s.down kinds counts nodes (suc i) rest
unfolding reach_in
reach_next m v kinds counts nodes i rest f e =
    let p = ap (λ (n : Flat). step_within m v i n nodes) f ∙ e in
    λ j. reach_in (p j).mem (p j).down kinds counts nodes (add-one i j) rest
