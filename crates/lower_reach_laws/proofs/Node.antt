-- One node on memory: what it puts out, its next cursor, and what its children are told are the construction's.
use Prim.Native.Nat.{ℕ, ◌+◌, ◌-◌, ◌*◌, ◌≤◌, ◌<◌}
use native.Mathlib.Omega.{arith}
use mathlib.Core.Path.{◌≡◌, refl, sym, subst}
use mathlib.Core.List.{List, ◌∷◌, ◌++◌}
use lib.ListN.{length, length-map}
use Rattle.wire.specs.Terms.{Affine}
use Rattle.construct.specs.Builder.{Op, Out}
use Rattle.construct.specs.Lower.{Flat, cell_after, Arbitration, Entry, NodeReach, Many, next_cur, children}
use Rattle.construct_floats.specs.Floats.{floats}
use Rattle.builder_table.specs.Work.{Standing, Mem, Ended, loaded}
use Rattle.builder_laws.specs.Table.{Stands}
use Rattle.builder_laws.proofs.Lasts.{size}
use Rattle.lower_room.proofs.Uses.{kids_of, cur_use, children_use}
use Rattle.builder_laws.proofs.Running.{Runs, Rows}
use Rattle.builder_laws.proofs.Runs.{slot_kept, rows_kept, Ready, runs_then, runs_less, runs_wide, ready_after, stands_after}
use Rattle.lower_passes.specs.Marks.{Down}
use Rattle.builder_table.specs.Slots.{next_cursor_from, reached_from, halted_from, untouched_from, entry_reached_from, entry_called_from}
use Rattle.lower_passes.specs.Reach.{Lowered, down, halt_in, untouched_in, turn_in, kids_in, node_in}
use Rattle.lower_ordered_laws.proofs.Passes.{takes, ArbitrationAt, EntriesAt, OutAt}
use Rattle.lower_ordered_laws.proofs.Kept.{cur_kept, info_kept, entries_kept, out_kept}
use Rattle.lower_reach_laws.proofs.Downward.{Past}
use Rattle.lower_reach_laws.proofs.Counts.{next_count}
use Rattle.lower_reach_laws.proofs.Spread.{Told, EntryAt}
use Rattle.lower_reach_laws.proofs.Parts.{But, Unmarked, Unturned, halts, rests, halt_law, rest_law, turn_law}
use Rattle.lower_reach_laws.proofs.Kids.{KidsRuns, kids_law}

-- the entry on top, and those below
entries_top : (m : Mem) (b : Standing) (e : Entry Affine) (es : List (Entry Affine)) → EntriesAt m b (e ∷ es) → EntryAt (length es) m b e × EntriesAt m b es
entries_top m b e es t = (
  record {
    reached = rw (length-map es (λ (x : Entry Affine). x.reached)) at t.reached.0;
    called = rw (length-map es (λ (x : Entry Affine). x.called)) at t.called.0;
  },
  record { reached = t.reached.1; called = t.called.1 },
)

-- ---- what the construction makes of a node, and how much room that takes

module _ (n cursorsAt i c : ℕ) (node : Flat) (x : Arbitration Affine) (e : Entry Affine) (os : List (Op Affine)) where
  abbrev pub halt_of : Out Affine
  halt_of = halts n i e.called os

  abbrev pub rest_of : Out Affine
  rest_of = rests n e.reached halt_of.form halt_of.ops

  abbrev pub cur_of : Many Affine Affine
  cur_of = next_cur floats n cursorsAt node c e.reached rest_of.form x.cursor rest_of.ops

  abbrev pub kid_of : Many Affine (Entry Affine)
  kid_of = children floats n cursorsAt node e.reached halt_of.form x.kids cur_of.ops

  abbrev pub out_of : NodeReach Affine
  out_of = record { raw = x.raw; reached = e.reached; halted = halt_of.form; was = floats.wire i; untouched = rest_of.form }

  abbrev pub node_use : ℕ
  node_use = 3 + size e.reached + size halt_of.form + cur_use floats n node + children_use floats n node e.reached halt_of.form x.kids cur_of.ops

abbrev pub node_more : Flat → ℕ
node_more node = 2 + 2 * cell_after node 0 + 3 * kids_of node

pub record NodeRuns (n cursorsAt i c rows : ℕ) (node : Flat) (x : Arbitration Affine) (e : Entry Affine) (es : List (Entry Affine)) (os : List (Op Affine)) (m : Mem) (b : Standing) (s : Lowered) : Type 0 where
  pub runs : Runs (Past i c (length es)) m b s.mem s.down.builder (kid_of n cursorsAt i c node x e os).ops (node_use n cursorsAt i c node x e os) (node_more node)
  pub out : OutAt s.mem s.down.builder i (out_of n cursorsAt i c node x e os)
  pub cursor : Rows s.mem s.down.builder (next_cursor_from + c) (cur_of n cursorsAt i c node x e os).items
  pub entries : EntriesAt s.mem s.down.builder ((kid_of n cursorsAt i c node x e os).items ++ es)
  pub depth : s.down.depth ≡ length es + takes node
  pub row : s.down.row ≡ rows - kids_of node
  pub cell : s.down.cell ≡ cell_after node c

-- ---- the slots of the steps

-- the slots left alone by the first three steps
abbrev First : ℕ → ℕ → Flat → ℕ → Type 0
First i c node k = Unmarked i k × But (untouched_from + i) k × Unturned c node k

past_first : (i c d : ℕ) (node : Flat) (k : ℕ) → i < 128 → cell_after node c ≤ 128 → Past i c d k → First i c node k
past_first i c d node k l w p =
    ((λ a e. p.1 a (omega arith), λ a e. p.2 a (omega arith)), λ a e. p.3 a (omega arith), λ a e. p.0 a (omega arith))

pub past_told : (i c d t k : ℕ) → d + t ≤ 128 → Past i c d k → Told d t k
past_told i c d t k l p = (λ a e. p.4 a (omega arith), λ a e. p.5 a (omega arith))

-- ---- the node

-- the halt of a node whose own entry is at depth d, and all before its children are told
unfoldable pub halt_at : Mem → Standing → ℕ → ℕ → Ended
halt_at m b d i = halt_in m b (loaded m (entry_reached_from + d)) (loaded m (entry_called_from + d)) i

unfoldable pub turn_at : Mem → Standing → ℕ → ℕ → ℕ → ℕ → Flat → ℕ → Lowered
turn_at m b d row c i node nodes =
    let h = halt_at m b d i in
    let u = untouched_in h.mem h.builder (loaded m (entry_reached_from + d)) h.form i in
    turn_in u.mem (down u.builder d row c) i node nodes

unfoldable pub node_reach : Mem → Standing → ℕ → ℕ → ℕ → ℕ → Flat → ℕ → Lowered
node_reach m b d row c i node nodes =
    let t = turn_at m b d row c i node nodes in
    kids_in t.mem t.down node (loaded m (entry_reached_from + d)) (halt_at m b d i).form

pub node_at : (m : Mem) (v : Down) (i : ℕ) (node : Flat) (nodes : ℕ) → node_in m v i node nodes ≡ node_reach m v.builder (v.depth - 1) v.row v.cell i node nodes
unfolding node_in node_reach halt_at turn_at
node_at m v i node nodes = refl

-- before the children are told
record TurnedRuns (n cursorsAt i c rows : ℕ) (node : Flat) (x : Arbitration Affine) (e : Entry Affine) (es : List (Entry Affine)) (os : List (Op Affine)) (m : Mem) (b : Standing) (h : Ended) (s : Lowered)
    : Type 0 where
  runs : Runs (First i c node) m b s.mem s.down.builder (cur_of n cursorsAt i c node x e os).ops (3 + size e.reached + size (halt_of n cursorsAt i c node x e os).form + cur_use floats n node)
      (2 + 2 * cell_after node 0)
  out : OutAt s.mem s.down.builder i (out_of n cursorsAt i c node x e os)
  cursor : Rows s.mem s.down.builder (next_cursor_from + c) (cur_of n cursorsAt i c node x e os).items
  info : ArbitrationAt s.mem s.down.builder i rows node x
  entries : EntriesAt s.mem s.down.builder es
  reached : Stands s.mem s.down.builder (loaded m (entry_reached_from + length es)) e.reached
  halted : Stands s.mem s.down.builder h.form (halt_of n cursorsAt i c node x e os).form
  down' : s.down ≡ down s.down.builder (length es) rows (cell_after node c)

module _ {n : ℕ} {m : Mem} {b : Standing} {os : List (Op Affine)} (z : Ready n m b os) (cursorsAt i c rows : ℕ) (node : Flat) (x : Arbitration Affine) (e : Entry Affine) (es : List (Entry Affine)) (l : i < 128)
    (lc : cell_after node c ≤ 128) (lr : rows ≤ 128) (lk : kids_of node ≤ rows) (ld : length es + takes node ≤ 128) (h : ArbitrationAt m b i rows node x) (t : EntriesAt m b (e ∷ es)) where
  turned_law : TurnedRuns n cursorsAt i c rows node x e es os m b (halt_at m b (length es) i) (turn_at m b (length es) rows c i node cursorsAt)
  unfolding halt_at turn_at
  turned_law =
      let own = entries_top m b e es t in
      let a = halt_law z i l own.0.reached own.0.called in
      let za = ready_after a.runs z in
      let u = rest_law za i l (stands_after a.runs own.0.reached) a.form in
      let zu = ready_after u.runs za in
      let ru = slot_kept u.runs.keeps (reached_from + i) (omega arith) (omega arith) a.reached in
      let hu = slot_kept u.runs.keeps (halted_from + i) (omega arith) (omega arith) a.halted in
      let cu =
      cur_kept u.runs.keeps x.cursor i node l (omega arith)
      (cur_kept a.runs.keeps x.cursor i node l (omega arith) h.cursor) in
      let k = turn_law zu i c (length es) rows cursorsAt l ru u.untouched node x.cursor lc cu in
      let all = runs_then (runs_less a.runs {K' = First i c node} (λ j p. p.0)) (runs_then (runs_less u.runs (λ j p. p.1)) (runs_less k.runs (λ j p. p.2))) in
      let hi =
      info_kept all.keeps i rows node x l lk lr (omega arith)
      (λ j p q. omega arith)
      (λ j p q. omega arith)
      h in
      record {
        runs = runs_wide all _ _ (omega arith) (omega arith);
        out = record {
          raw = hi.raw;
          reached = slot_kept k.runs.keeps (reached_from + i) (omega arith) (omega arith) ru;
          halted = slot_kept k.runs.keeps (halted_from + i) (omega arith) (omega arith) hu;
          untouched = slot_kept k.runs.keeps (untouched_from + i) (omega arith) (omega arith) u.untouched;
          was = refl;
        };
        cursor = k.cursor;
        info = hi;
        entries = entries_kept all.keeps es (omega arith) (λ j p q. omega arith) (λ j p q. omega arith) own.1;
        reached = stands_after all own.0.reached;
        halted = stands_after k.runs (stands_after u.runs a.form);
        down' = k.down;
      }

  pub node_law : NodeRuns n cursorsAt i c rows node x e es os m b (node_reach m b (length es) rows c i node cursorsAt)
  unfolding node_reach
  node_law =
      let a = turned_law in
      let v = turn_at m b (length es) rows c i node cursorsAt in
      let za = ready_after a.runs z in
      let f = loaded m (entry_reached_from + length es) in
      let g = (halt_at m b (length es) i).form in
      let r = (halt_of n cursorsAt i c node x e os).form in
      let s : KidsRuns (takes node) (kids_of node) rows (cell_after node c) (children_use floats n node e.reached r x.kids (cur_of n cursorsAt i c node x e os).ops) v.mem v.down.builder es
      (kid_of n cursorsAt i c node x e os) (kids_in v.mem v.down node f g) =
      subst (λ (w : Down). KidsRuns (takes node) (kids_of node) rows (cell_after node c) (children_use floats n node e.reached r x.kids (cur_of n cursorsAt i c node x e os).ops) v.mem v.down.builder es
      (kid_of n cursorsAt i c node x e os) (kids_in v.mem w node f g)) (sym a.down')
      (kids_law za a.reached a.halted cursorsAt rows (cell_after node c) lr es a.entries node x.kids a.info.count lk ld a.info.reach a.info.after) in
      let lo = next_count floats n cursorsAt node c e.reached (rest_of n cursorsAt i c node x e os).form x.cursor (rest_of n cursorsAt i c node x e os).ops in
      record {
        runs =
            runs_wide (runs_then (runs_less a.runs (λ k p. past_first i c (length es) node k l lc p)) (runs_less s.runs (λ k p. past_told i c (length es) (takes node) k ld p))) _ _
            (omega arith) (omega arith);
        out =
            out_kept s.runs.keeps i _ l
            (omega arith)
            a.out;
        cursor = rows_kept s.runs.keeps (next_cursor_from + c) (cur_of n cursorsAt i c node x e os).items (omega arith) (λ k p q. omega arith) a.cursor;
        entries = s.entries;
        depth = s.depth;
        row = s.row;
        cell = s.cell;
      }
