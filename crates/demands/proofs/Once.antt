-- One tick of what compile leaves of a tree: no refusal, and the walk's answer.
use Rattle.std.specs.Prelude.{Ok}
use mathlib.Core.Path.{◌≡◌, refl, sym, ◌∙◌, ap, subst}
use mathlib.Core.Bool.{Bool, true, false, cond, ◌&&◌}
use mathlib.Core.List.{List, [], ◌∷◌, map}
use Prim.Native.Nat.{ℕ, suc, ◌+◌, ◌≤◌, ◌<◌}
use native.Mathlib.Omega.{arith}
use borrow.Author.Tests.{le-leb, le-ltb, eq-eqb}
use lib.Dec.{eqb}
use lib.ListN.{length, get_or}
use lib.Ieee.{Float}
use Rattle.tree.specs.Forest.{Forest, preorder, counts}
use Rattle.tree.specs.Bytes as limits
use Rattle.plan.specs.Plan.{places_from}
use Rattle.plan.proofs.Laws.{places_rise}
use Rattle.wire.specs.declared.Counts.{Counts}
use Rattle.wire.specs.Storage.{leaves_from}
use Rattle.lists.specs.Fill.{prefix}
use Rattle.tick_verdict.specs.Verdict.{Verdict, tick_verdict, node_of}
use Rattle.lists.specs.Every.{All}
use Rattle.walk.specs.Kind as K
use Rattle.walk.specs.Walk.{Fate, fates_of, walk, answer_of, next_flag, cells_in, slots_in}
use Rattle.walk.proofs.Laws.{lengths, cursors_low}
use Rattle.construct_means.specs.Means as means
use Rattle.construct_faithful.proofs.Values.{numbers}
use Rattle.tick_lane.specs.Answers.{edge_at}
use Rattle.tick_check.specs.Check.{Stored}
use Rattle.tick_lane.specs.Evaluate.{table_of, outs_of}
use Rattle.tick_lane.specs.declared.TickError.TheVariants as is
use Rattle.tick_lane.specs.Lane.{Ticked, unless, Lent, lent, outcome, after, first_above, inputs_of, judged, written, settle_of, computed, lane_of}
use Rattle.tick.specs.Tick.{shapes_of, gate_of, tick_of}
use Rattle.compile.specs.Compile as compile
use Rattle.lists.proofs.Sets.{map_at}
use Rattle.compile_laws.proofs.Back as back
use Rattle.compile_laws.proofs.Compiles.{tree_circuit, stored_of, Slots}
use Rattle.tree.proofs.Lengths.{preorder_length}
use Rattle.plan_laws.proofs.Nodes.{leaves_are, leaves_count, cursors_count, leaf_tests}
use Rattle.compile_laws.proofs.Shape.{fates_length}
use Rattle.compile_laws.proofs.Images.{all_get_d}
use Rattle.compile_laws.proofs.Rises.{rising_below}
use Rattle.compile_laws.proofs.Passes.{F, circuit_ok_lem}
use Rattle.tick_laws.proofs.Values.{values_of}
use Rattle.tick_laws.proofs.Outs.{outs_are}
use Rattle.tick_laws.proofs.Sound.{verdict_sound}
use Rattle.tick_laws.proofs.Written.{prefix_is, statuses_are, halts_are, flags_are, cursors_are, edge_is}
use Rattle.tick_laws.proofs.Edges.{edge_of, edges_are}
use Rattle.demands.specs.Demands.{ValidRow, ValidState, Ready, over, walked}
use Rattle.demands.proofs.Left.{Compiles, left_within, left_by}

-- ---- 15 and 16

none_above : (most : ℕ) (xs : List ℕ) → All (λ (x : ℕ). x ≤ most) xs → first_above most xs ≡ length xs
unfolding first_above
none_above most [] h = refl
none_above most (x ∷ xs) h = (λ i. cond (le-ltb most x h.0 i) 0 (suc (none_above most xs h.1 i)))

inputs_ok : (row flags : List ℕ) → All (λ (x : ℕ). x ≤ 2) row → All (λ (x : ℕ). x ≤ 1) flags → inputs_of row flags ≡ Ok tt
unfolding inputs_of
inputs_ok row flags r f =
    λ i.
    unless (eq-eqb (first_above 2 row) (length row) (none_above 2 row r) i) (is.BadStatus (first_above 2 row))
    (unless (eq-eqb (first_above 1 flags) (length flags) (none_above 1 flags f) i) (is.BadFlag (node_of (first_above 1 flags))) (Ok tt))

module _ (f : Forest ℕ) (w : limits.Within f) (l : compile.Lent) (slots : Slots l (tree_circuit f))
    (row : List ℕ) (m : Lent) (valid : ValidRow f row) (ready : Ready f (stored_of l f).counts m) where
  abbrev s : Stored
  s = stored_of l f

  abbrev n : Counts
  n = s.counts

  abbrev xs : List Fate
  xs = fates_of f m.flags m.cursors row

  abbrev cs : List ℕ
  cs = means.cursors_of xs

  abbrev table : List Float
  table = table_of s row m.flags m.cursors m.values

  leaves_same : n.leaves ≡ slots_in f
  leaves_same = leaves_count f w.lowered w.few

  cursors_same : n.cursors ≡ cells_in f
  cursors_same = cursors_count f w.lowered w.few

  pub given : (k : ℕ) → k < slots_in f → get_or row k 0 ≤ 2
  given k h = all_get_d (λ (x : ℕ). x ≤ 2) row k 0 valid.low (omega (arith, valid.long))

  -- ---- 17, 11, 12, 13, 14

  gate_ok : gate_of s row m ≡ Ok tt
  unfolding shapes_of
  gate_ok =
      let nodes = preorder_length f in
      let a = eq-eqb (length row) n.leaves (valid.long ∙ sym leaves_same) in
      let b = eq-eqb (length m.flags) n.nodes (ready.state.flags_long ∙ sym nodes) in
      let c = eq-eqb (length m.cursors) n.cursors (ready.state.cursors_long ∙ sym cursors_same) in
      let v = le-leb (n.cells + n.ops) (length m.values) ready.room.values in
      let t = le-leb n.nodes (length m.statuses) (omega (arith, ready.room.statuses)) in
      let h = le-leb n.nodes (length m.halts) (omega (arith, ready.room.halts)) in
      let e = le-leb n.leaves (length m.edges) (omega (arith, ready.room.edges, leaves_same)) in
      λ i.
      unless (circuit_ok_lem f w l slots i) is.BadCircuit
      (unless (a i) (is.LeafCount (length row))
      (unless (b i) (is.StateShape (length m.flags))
      (unless (c i) (is.CursorCount (length m.cursors))
      (unless (v i && (t i && (h i && e i))) is.ShortRoom (Ok tt)))))

  -- ---- 18

  pub fate_count : length xs ≡ n.nodes
  fate_count = fates_length f m.flags m.cursors row ∙ sym (preorder_length f)

  resume_count : length cs ≡ n.cursors
  unfolding walk answer_of
  resume_count = (lengths f m.flags m.cursors row).cursors ∙ sym cursors_same

  resumes_low : All (λ (v : ℕ). v ≤ 65535) cs
  unfolding walk answer_of
  resumes_low = cursors_low f m.flags m.cursors row (omega (arith, w.few))

  pub outs_same : outs_of s table ≡ numbers (values_of xs)
  outs_same = outs_are f w l slots m.flags m.cursors row m.values given ready.room.values

  sound : tick_verdict (numbers (values_of xs)) n.nodes n.cursors ≡ Ok tt
  sound = verdict_sound xs cs n.nodes n.cursors fate_count resume_count resumes_low

  -- ---- what is written

  edges_same : (old : List ℕ)
      → prefix (edge_at s.nums m.flags (numbers (values_of xs))) n.leaves old ≡ over (walk f m.flags m.cursors row).edges old
  unfolding walk answer_of
  edges_same old =
      let p = compile.lists_of (preorder f) (counts f) in
      let leaves = places_from (λ k. eqb k 1) 0 (preorder f) in
      let listed : p.leaves ≡ leaves = leaves_are f w.lowered w.few in
      let same = edges_are f m.flags m.cursors row (leaf_tests f w.lowered) in
      let long : length leaves ≡ n.leaves = sym (ap length listed) in
      let rise = places_rise (λ k. eqb k 1) 0 (preorder f) in
      prefix_is (edge_at s.nums m.flags (numbers (values_of xs))) n.leaves (walk f m.flags m.cursors row).edges old
      ((lengths f m.flags m.cursors row).edges ∙ sym leaves_same)
      (λ k h.
      let node = get_or leaves k 0 in
      let at : get_or s.nums (leaves_from + k) 0 ≡ node
      = back.leaves_stand n p (tree_circuit f) l.nums l.biases l.wires l.coefs (F f w l slots) k h ∙ ap (λ (ys : List ℕ). get_or ys k 0) listed in
      let below : node < n.nodes = omega (arith, rising_below 0 (0 + length (preorder f)) leaves k rise (omega arith)) in
      edge_is xs cs n.nodes n.cursors fate_count resume_count s.nums m.flags k node at below
      ∙ sym (map_at (edge_of m.flags xs) leaves k 0 0 (omega arith)) ∙ sym (ap (λ (ys : List ℕ). get_or ys k 0) same))

  written_same : written n s.nums (numbers (values_of xs)) (computed m table) ≡ walked s f row m
  unfolding written walked walk answer_of
  written_same =
      let e1 = flags_are xs cs n.nodes n.cursors fate_count resume_count m.flags (ready.state.flags_long ∙ sym (preorder_length f)) in
      let e2 = cursors_are xs cs n.nodes n.cursors fate_count resume_count m.cursors (ready.state.cursors_long ∙ sym cursors_same) resumes_low in
      let e3 = statuses_are xs cs n.nodes n.cursors fate_count resume_count m.statuses in
      let e4 = halts_are xs cs n.nodes n.cursors fate_count resume_count m.halts in
      λ i. lent (e1 i) (e2 i) table (e3 i) (e4 i) (edges_same m.edges i)

  -- THE LAW
  pub ticks : tick_of s row m ≡ outcome (Ok tt) (walked s f row m)
  unfolding tick_of lane_of settle_of
  ticks =
      let made = written n s.nums (numbers (values_of xs)) (computed m table) in
      let inputs = inputs_ok row m.flags valid.low ready.state.flags_low in
      ap (λ (t : Ticked). after t m (lane_of s row m)) gate_ok
      ∙ ap (λ (t : Ticked). after t m (settle_of n s.nums (outs_of s table) (computed m table))) inputs
      ∙ ap (λ (outs : List Float). settle_of n s.nums outs (computed m table)) outs_same
      ∙ ap (λ (u : Verdict). judged u made (computed m table)) sound
      ∙ ap (outcome (Ok tt)) written_same

-- the same of what compile leaves, in its own words
pub ticks_left : (l : compile.Lent) (f : Forest ℕ) (n : Counts) → Compiles l f n → (row : List ℕ) (m : Lent) → ValidRow f row → Ready f n m
    → tick_of (left_within l f n) row m ≡ outcome (Ok tt) (walked (left_within l f n) f row m)
ticks_left l f n c row m valid ready =
    let b = left_by l f n c in
    subst (λ (s : Stored). Ready f s.counts m → tick_of s row m ≡ outcome (Ok tt) (walked s f row m)) (sym b.same)
    (λ r. ticks f c.within l b.slots row m valid r) ready

-- ---- the next tick

bits_low : (xs : List Fate) → All (λ (b : ℕ). b ≤ 1) (map (λ (x : Fate). K.bit (next_flag x)) xs)
bits_low [] = tt
bits_low (x ∷ xs) = (go (next_flag x), bits_low xs)
  where
    go : (b : Bool) → K.bit b ≤ 1
    go true = omega arith
    go false = omega arith

-- the walk's next state is one again
pub state_next : (f : Forest ℕ) (flags cursors row : List ℕ) → let a = walk f flags cursors row in ValidState f a.flags a.cursors
unfolding walk answer_of
state_next f flags cursors row =
    let a = lengths f flags cursors row in
    record { flags_long = a.flags; flags_low = bits_low (fates_of f flags cursors row); cursors_long = a.cursors }
