-- Reaching all nodes on memory is the construction's `down`.
use Prim.Native.Nat.{ℕ, suc, ◌+◌, ◌≤◌, ◌<◌}
use native.Mathlib.Omega.{arith}
use native.Mathlib.Nat.{add-zero}
use mathlib.Core.Path.{◌≡◌, refl, sym, ap, subst, ◌∙◌}
use mathlib.Core.List.{List, [], ◌∷◌, ◌++◌, map}
use lib.ListN.{length, length-map, length-append}
use Rattle.wire.specs.Terms.{Affine}
use Rattle.construct.specs.Builder.{Op}
use Rattle.construct.specs.Lower.{Flat, cell_after, Arbitration, Entry}
use Rattle.construct.specs.Lower as L
use Rattle.construct.specs.Circuit.{cell_end, root}
use Rattle.construct_floats.specs.Floats.{floats}
use Rattle.builder_table.specs.Work.{Standing, Mem}
use Rattle.builder_laws.proofs.Builder.{stands_one, stands_zero}
use Rattle.lower_room.proofs.Uses.{down_use, down_more}
use Rattle.builder_laws.proofs.Running.{Rows}
use Rattle.builder_laws.proofs.Runs.{rows_kept, Ready, runs_none, runs_then, runs_less, runs_wide, ready_after}
use Rattle.lower_passes.specs.Marks.{Down}
use Rattle.builder_table.specs.Slots.{next_cursor_from}
use Rattle.lower_passes.specs.Reach.{Lowered, down, root_in, reach_in}
use Rattle.lower_ordered_laws.proofs.Passes.{takes, roots, Sound, rows_in, NodesAt, ArbitrationsAt, EntriesAt}
use Rattle.lower_ordered_laws.proofs.Counts.{rows_most, kids_taken}
use Rattle.construct.proofs.Arbitrate.{cell_end_ge, cells_ge}
use Rattle.lower_ordered_laws.proofs.Kept.{infos_kept, out_kept}
use Rattle.lower_reach_laws.proofs.Downward.{Past, ReachRuns, ReachLaw}
use Rattle.lower_reach_laws.proofs.Counts.{children_count, next_count, outs_count, curs_count}
use Rattle.lower_reach_laws.proofs.Spread.{Entered, entry_law, entries_push}
use Rattle.lower_reach_laws.proofs.Node.{halt_of, rest_of, cur_of, kid_of, out_of, node_use, node_more, NodeRuns, past_told, node_reach, node_law}
use Rattle.lower_reach_laws.proofs.Step.{step_law, reach_next}

-- ---- the construction, one node at a time

module _ (n cursorsAt i c : ℕ) (x : Arbitration Affine) (xs : List (Arbitration Affine)) (e : Entry Affine) (es : List (Entry Affine)) (os : List (Op Affine)) where
  -- all that comes after a node
  abbrev after : Flat → L.Down Affine
  after node = let s = kid_of n cursorsAt i c node x e os in L.down floats n cursorsAt (suc i) (cell_after node c) xs (s.items ++ es) s.ops

  down_next : {node : Flat} → x.node ≡ node
      → L.down floats n cursorsAt i c (x ∷ xs) (e ∷ es) os
      ≡ record { outs = out_of n cursorsAt i c node x e os ∷ (after node).outs; cursors = (cur_of n cursorsAt i c node x e os).items ++ (after node).cursors; ops = (after node).ops }
  unfolding L.down
  down_next h = λ j. record { outs = out_of n cursorsAt i c (h j) x e os ∷ (after (h j)).outs; cursors = (cur_of n cursorsAt i c (h j) x e os).items ++ (after (h j)).cursors; ops = (after (h j)).ops }

  use_next : {node : Flat} → x.node ≡ node
      → down_use floats n cursorsAt i c (x ∷ xs) (e ∷ es) os
      ≡ node_use n cursorsAt i c node x e os + (let s = kid_of n cursorsAt i c node x e os in down_use floats n cursorsAt (suc i) (cell_after node c) xs (s.items ++ es) s.ops)
  unfolding down_use
  use_next h = λ j. node_use n cursorsAt i c (h j) x e os + (let s = kid_of n cursorsAt i c (h j) x e os in down_use floats n cursorsAt (suc i) (cell_after (h j) c) xs (s.items ++ es) s.ops)

-- ---- slots

-- what is left alone from the first node on is left alone by each
past_deep : (i c d k : ℕ) → Past i c 0 k → Past i c d k
past_deep i c d k p = (p.0, p.1, p.2, p.3, λ a e. p.4 (omega arith) e, λ a e. p.5 (omega arith) e)

past_next : (i c c' k : ℕ) → c ≤ c' → Past i c 0 k → Past (suc i) c' 0 k
past_next i c c' k l p =
    (λ a e. p.0 (omega arith) e, λ a e. p.1 (omega arith) e, λ a e. p.2 (omega arith) e, λ a e. p.3 (omega arith) e, p.4, p.5)

rows_append : (m : Mem) (b : Standing) (from : ℕ) (xs ys : List Affine) → Rows m b from xs → Rows m b (from + length xs) ys → Rows m b from (xs ++ ys)
rows_append m b from [] ys h t = subst (λ (j : ℕ). Rows m b j ys) (add-zero from) t
rows_append m b from (x ∷ xs) ys h t =
    let e : from + suc (length xs) ≡ suc from + length xs = omega arith in
    (h.0, rows_append m b (suc from) xs ys h.1 (subst (λ (j : ℕ). Rows m b j ys) e t))

-- ---- a node, and those that come after it

module _ {n cursorsAt i c rows : ℕ} {node : Flat} {x : Arbitration Affine} {e : Entry Affine} {es : List (Entry Affine)} {os : List (Op Affine)} {m : Mem} {b : Standing} {s : Lowered} {need more : ℕ}
    {f : Lowered} {d : L.Down Affine} where
  join : NodeRuns n cursorsAt i c rows node x e es os m b s → ReachRuns (suc i) (cell_after node c) need more s.mem s.down.builder f d → i < 128 → c ≤ cell_after node c → cell_after node c ≤ 128
      → ReachRuns i c (node_use n cursorsAt i c node x e os + need) (node_more node + more) m b f
      (record { outs = out_of n cursorsAt i c node x e os ∷ d.outs; cursors = (cur_of n cursorsAt i c node x e os).items ++ d.cursors; ops = d.ops })
  join a r l more' lc =
      let g = r.runs.keeps in
      let items = (cur_of n cursorsAt i c node x e os).items in
      let count = next_count floats n cursorsAt node c e.reached (rest_of n cursorsAt i c node x e os).form x.cursor (rest_of n cursorsAt i c node x e os).ops in
      let at : next_cursor_from + cell_after node c ≡ next_cursor_from + c + length items = omega arith in
      record {
        runs = runs_then (runs_less a.runs (λ k p. past_deep i c (length es) k p)) (runs_less r.runs (λ k p. past_next i c (cell_after node c) k more' p));
        outs = (out_kept g i (out_of n cursorsAt i c node x e os) l (omega arith, omega arith, omega arith, omega arith, omega arith, omega arith) a.out, r.outs);
        cursors =
            rows_append f.mem f.down.builder (next_cursor_from + c) items d.cursors
            (rows_kept g (next_cursor_from + c) items (omega arith) (λ k p q. omega arith) a.cursor)
            (subst (λ (j : ℕ). Rows f.mem f.down.builder j d.cursors) at r.cursors);
      }

-- ---- all nodes

-- where the pass stands before the i-th node: cells before it are c, and the entries on the stack are es
record Before (n i c : ℕ) (kinds counts : List ℕ) (ns : List Flat) (xs : List (Arbitration Affine)) (es : List (Entry Affine)) (os : List (Op Affine)) (m : Mem) (v : Down) : Type 0 where
  ready : Ready n m v.builder os
  arbitrations : ArbitrationsAt m v.builder i ns xs
  nodes : NodesAt kinds counts i ns
  sound : Sound ns
  entries : EntriesAt m v.builder es
  stacked : length es ≡ roots ns
  depth : v.depth ≡ roots ns
  row : v.row ≡ rows_in ns
  cell : v.cell ≡ c
  inside : i + length ns ≤ 128
  cells : cell_end c ns ≤ 128

module _ (n cursorsAt : ℕ) (kinds counts : List ℕ) where
  -- before the next node
  before_next : (i c : ℕ) (node : Flat) (ns : List Flat) (x : Arbitration Affine) (xs : List (Arbitration Affine)) (e : Entry Affine) (es : List (Entry Affine)) (os : List (Op Affine)) (m : Mem) (v : Down) (s : Lowered)
      → Before n i c kinds counts (node ∷ ns) (x ∷ xs) (e ∷ es) os m v → NodeRuns n cursorsAt i c (rows_in (node ∷ ns)) node x e es os m v.builder s
      → let k = kid_of n cursorsAt i c node x e os in
      Before n (suc i) (cell_after node c) kinds counts ns xs (k.items ++ es) k.ops s.mem s.down
  unfolding Sound roots rows_in cell_end
  before_next i c node ns x xs e es os m v s h a =
      let k = kid_of n cursorsAt i c node x e os in
      let sk = h.stacked in
      let ins = h.inside in
      let tk = h.sound.0 in
      let few = rows_most ns h.sound.2 in
      let count : length k.items ≡ takes node = children_count floats n cursorsAt node e.reached (halt_of n cursorsAt i c node x e os).form x.kids (cur_of n cursorsAt i c node x e os).ops h.arbitrations.0.count in
      record {
        ready = ready_after a.runs h.ready;
        arbitrations = infos_kept a.runs.keeps (suc i) ns xs (omega arith) (omega arith) (λ j p q. omega arith) (λ j p q. omega arith) (λ j p q. omega arith) h.arbitrations.1;
        nodes = h.nodes.1;
        sound = h.sound.2;
        entries = a.entries;
        stacked = length-append k.items es ∙ omega arith;
        depth = a.depth ∙ omega arith;
        row = a.row ∙ omega arith;
        cell = a.cell;
        inside = omega arith;
        cells = h.cells;
      }

  reach_none : (i c : ℕ) (es : List (Entry Affine)) (os : List (Op Affine)) (m : Mem) (v : Down) → Ready n m v.builder os
      → ReachRuns i c (down_use floats n cursorsAt i c [] es os) 0 m v.builder (reach_in m v kinds counts cursorsAt i 0) (L.down floats n cursorsAt i c [] es os)
  unfolding L.down down_use reach_in
  reach_none i c es os m v z = record { runs = runs_none z; outs = tt; cursors = tt }

  reach_from_lem : (i c : ℕ) (ns : List Flat) (xs : List (Arbitration Affine)) (es : List (Entry Affine)) (os : List (Op Affine)) (m : Mem) (v : Down) → Before n i c kinds counts ns xs es os m v
      → ReachRuns i c (down_use floats n cursorsAt i c xs es os) (down_more ns) m v.builder (reach_in m v kinds counts cursorsAt i (length ns)) (L.down floats n cursorsAt i c xs es os)
  unfolding Sound roots rows_in cell_end down_more
  reach_from_lem i c [] [] es os m v h = reach_none i c es os m v h.ready
  reach_from_lem i c (node ∷ ns) [] es os m v h = absurd h.arbitrations
  reach_from_lem i c [] (x ∷ xs) es os m v h = absurd h.arbitrations
  reach_from_lem i c (node ∷ ns) (x ∷ xs) [] os m v h = absurd (let e = h.stacked in omega arith)
  reach_from_lem i c (node ∷ ns) (x ∷ xs) (e ∷ es) os m v h =
      let sk = h.stacked in
      let ins = h.inside in
      let tk = h.sound.0 in
      let few = rows_most ns h.sound.2 in
      let kt = kids_taken node in
      let cn = cell_end_ge (cell_after node c) ns in
      let ce = h.cells in
      let same = h.arbitrations.0.node in
      let s = node_reach m v.builder (length es) (rows_in (node ∷ ns)) c i node cursorsAt in
      let a = node_law h.ready cursorsAt i c (rows_in (node ∷ ns)) node x e es (omega arith) (omega arith) (omega arith) (omega arith) (omega arith) h.arbitrations.0 h.entries in
      let k = kid_of n cursorsAt i c node x e os in
      let r = reach_from_lem (suc i) (cell_after node c) ns xs (k.items ++ es) k.ops s.mem s.down (before_next i c node ns x xs e es os m v s h a) in
      rw (
        down_next n cursorsAt i c x xs e es os same,
        use_next n cursorsAt i c x xs e es os same,
        reach_next m v kinds counts cursorsAt i (length ns) h.nodes.0
            (step_law m v i node cursorsAt (length es) (rows_in (node ∷ ns)) c (omega (arith, h.depth)) h.row h.cell (omega arith) (omega arith) (omega arith)),
      ) (join a r (omega arith) (cells_ge node c) (omega arith))

-- ---- from the root

root_entry : {n : ℕ} {m : Mem} {b : Standing} {os : List (Op Affine)} → Ready n m b os → Entered 0 m b (root_in m) (root floats) os
root_entry z = entry_law z 0 (omega arith) stands_one stands_zero

pub reach_law : ReachLaw
reach_law m b kinds counts ns infos os w q h at s one l lc =
    let z : Ready b.cells m b os = record { whole = w; cells = refl; ops = q } in
    let e = root_entry z in
    let few = rows_most ns s in
    let kept = infos_kept e.runs.keeps 0 ns infos (omega arith) (omega arith) (λ j p r. omega arith) (λ j p r. omega arith) (λ j p r. omega arith) h in
    let a =
    reach_from_lem b.cells (length ns) kinds counts 0 0 ns infos (root floats ∷ []) os (root_in m) (down b 1 (rows_in ns) 0)
    (record {
      ready = ready_after e.runs z;
      arbitrations = kept;
      nodes = at;
      sound = s;
      entries = entries_push e.entry [] refl (record { reached = tt; called = tt });
      stacked = sym one;
      depth = sym one;
      row = refl;
      cell = refl;
      inside = omega arith;
      cells = lc;
    }) in
    record { runs = runs_wide (runs_then (runs_less e.runs (λ k p. past_told 0 0 0 1 k (omega arith) p)) a.runs) _ _ (omega arith) (omega arith); outs = a.outs; cursors = a.cursors }

-- ---- how many outputs and next cursors

module _ (m : Mem) (b : Standing) where
  infos_nodes : (i : ℕ) (ns : List Flat) (xs : List (Arbitration Affine)) → ArbitrationsAt m b i ns xs → map (λ (x : Arbitration Affine). x.node) xs ≡ ns
  infos_nodes i [] [] h = refl
  infos_nodes i (n ∷ ns) (x ∷ xs) h = λ j. h.0.node j ∷ infos_nodes (suc i) ns xs h.1 j
  infos_nodes i [] (x ∷ xs) h = elim h [ ]
  infos_nodes i (n ∷ ns) [] h = elim h [ ]

  pub reach_outs : (ns : List Flat) (infos : List (Arbitration Affine)) (es : List (Entry Affine)) (os : List (Op Affine)) → ArbitrationsAt m b 0 ns infos
      → length (L.down floats b.cells (length ns) 0 0 infos es os).outs ≡ length ns
  reach_outs ns infos es os h =
      outs_count floats b.cells (length ns) 0 0 infos es os ∙ sym (length-map infos (λ (x : Arbitration Affine). x.node)) ∙ ap length (infos_nodes 0 ns infos h)

  pub reach_curs : (ns : List Flat) (infos : List (Arbitration Affine)) (es : List (Entry Affine)) (os : List (Op Affine)) → ArbitrationsAt m b 0 ns infos
      → length (L.down floats b.cells (length ns) 0 0 infos es os).cursors ≡ cell_end 0 ns
  reach_curs ns infos es os h =
      let c = curs_count floats b.cells (length ns) 0 0 ns infos es os (infos_nodes 0 ns infos h) in
      omega arith
