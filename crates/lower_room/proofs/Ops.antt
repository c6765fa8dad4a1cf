-- How many ops the construction makes: at most 15 (N - 1) + 2 C. Eight in lowering and seven in reach for each child, two for each cursor.
use Prim.Native.Nat.{◌*◌, ◌+◌, ◌-◌, ◌≤◌, suc, zero, ℕ}
use native.Mathlib.Omega.{arith}
use mathlib.Core.Bool.{Bool, false, true}
use mathlib.Core.List.{List, [], ◌++◌, ◌∷◌}
use mathlib.Core.Path.{◌∙◌, ◌≡◌, ap, refl}
use lib.ListN.{drop, length, take}
use Rattle.construct.specs.Builder.{and, and_at, at_least, at_least_at, is_zero, is_zero_at, not', or, or_at, push, relu, step}
use Rattle.construct.specs.Circuit.{build, cell_end, cells_n, cells_nc, inputs, root}
use Rattle.construct.specs.Forms.{Known, No, Open, Yes}
use Rattle.construct.specs.Lower.{Flat, cell_after, children, clears, cursor_f, down, fixed, flags, force, gates, invert, inverteds, leaf, lost, lower, lower_seq, next_cur, ordered, picks, slot_after, spread, stops, top, up, up_step}
use Rattle.construct.specs.Pairs.{Entry, Form, Arbitration, GatedChild, ClearedChild, ArbitratedChild, NodeReach, Op, StatusBits, Up, constant, empty, flip, known, known_at, negate, offset, pairs, plus, scaled, wire'}

module _ (opsAt : ℕ) where
  is_zero_ops : (t : Known) (c : Form) (os : List Op) → length (is_zero_at pairs opsAt t c os).ops ≤ 1 + length os
  unfolding is_zero_at relu push
  is_zero_ops No c os = omega arith
  is_zero_ops Yes c os = omega arith
  is_zero_ops Open c os = omega arith

  at_least_ops : (t : Known) (c : Form) (k : ℕ) (os : List Op) → length (at_least_at pairs opsAt t c k os).ops ≤ 2 + length os
  unfolding at_least_at step relu push
  at_least_ops No c k os = omega arith
  at_least_ops Yes c k os = omega arith
  at_least_ops Open c k os = omega arith

  and_ops_at : (t u : Known) (f g : Form) (os : List Op) → length (and_at pairs opsAt t u f g os).ops ≤ 1 + length os
  unfolding and_at push
  and_ops_at Yes u f g os = omega arith
  and_ops_at No Yes f g os = omega arith
  and_ops_at No No f g os = omega arith
  and_ops_at No Open f g os = omega arith
  and_ops_at Open Yes f g os = omega arith
  and_ops_at Open No f g os = omega arith
  and_ops_at Open Open f g os = omega arith

  pub and_ops : (f g : Form) (os : List Op) → length (and pairs opsAt f g os).ops ≤ 1 + length os
  unfolding and
  and_ops f g os = and_ops_at (known f) (known g) f g os

  or_ops_at : (t u : Known) (f g : Form) (os : List Op) → length (or_at pairs opsAt t u f g os).ops ≤ 1 + length os
  unfolding or_at
  or_ops_at Yes u f g os = omega arith
  or_ops_at No Yes f g os = omega arith
  or_ops_at No No f g os = omega arith
  or_ops_at No Open f g os = omega arith
  or_ops_at Open Yes f g os = omega arith
  or_ops_at Open No f g os = omega arith
  or_ops_at Open Open f g os = and_ops f g os

  pub or_ops : (f g : Form) (os : List Op) → length (or pairs opsAt f g os).ops ≤ 1 + length os
  unfolding or
  or_ops f g os = or_ops_at (known f) (known g) f g os

  gates_ops : (c : Form) (k : ℕ) (ts : List StatusBits) (os : List Op) → (length (gates pairs opsAt c k ts os).ops ≤ 3 * length ts + length os) × (length (gates pairs opsAt c k ts os).items ≡ length ts)
  unfolding gates at_least
  gates_ops c k [] os = (omega arith, refl)
  gates_ops c k (t ∷ ts) os =
      let o₁ = at_least pairs opsAt c (suc k) os in
      let o₂ = or pairs opsAt o₁.form t.success o₁.ops in
      let r = gates_ops c (suc k) ts o₂.ops in
      let a : length o₁.ops ≤ 2 + length os = at_least_ops (known c) c (suc k) os in
      let b : length o₂.ops ≤ 1 + length o₁.ops = or_ops o₁.form t.success o₁.ops in
      (omega (arith, r.0), ap suc r.1)

  clears_ops : (p : Form) (xs : List GatedChild) (os : List Op) → (length (clears pairs opsAt p xs os).ops ≤ length xs + length os) × (length (clears pairs opsAt p xs os).items ≡ length xs)
  unfolding clears is_zero
  clears_ops p [] os = (omega arith, refl)
  clears_ops p (x ∷ xs) os =
      let o₁ = is_zero pairs opsAt p os in
      let r = clears_ops (plus p x.blocked) xs o₁.ops in
      let a : length o₁.ops ≤ 1 + length os = is_zero_ops (known p) p os in
      (omega (arith, r.0), ap suc r.1)

  stops_ops : (p : Form) (xs : List ClearedChild) (os : List Op) → (length (stops pairs opsAt p xs os).ops ≤ 2 * length xs + length os) × (length (stops pairs opsAt p xs os).items ≡ length xs)
  unfolding stops
  stops_ops p [] os = (omega arith, refl)
  stops_ops p (x ∷ xs) os =
      let o₁ = and pairs opsAt x.clear (not' pairs x.child.before) os in
      let o₂ = and pairs opsAt x.clear x.child.blocked o₁.ops in
      let r = stops_ops (plus p o₂.form) xs o₂.ops in
      let a : length o₁.ops ≤ 1 + length os = and_ops x.clear (not' pairs x.child.before) os in
      let b : length o₂.ops ≤ 1 + length o₁.ops = and_ops x.clear x.child.blocked o₁.ops in
      (omega (arith, r.0), ap suc r.1)

  picks_ops : (k : ℕ) (o r c : Form) (xs : List ArbitratedChild) (os : List Op) → length (picks pairs opsAt k o r c xs os).ops ≤ 2 * length xs + length os
  unfolding picks
  picks_ops k o r c [] os = omega arith
  picks_ops k o r c (x ∷ xs) os =
      let o₁ = and pairs opsAt x.stop x.status.failure os in
      let o₂ = and pairs opsAt x.stop x.status.running o₁.ops in
      let a : length o₁.ops ≤ 1 + length os = and_ops x.stop x.status.failure os in
      let b : length o₂.ops ≤ 1 + length o₁.ops = and_ops x.stop x.status.running o₁.ops in
      omega (arith, picks_ops (suc k) (plus o o₁.form) (plus r o₂.form) (plus c (scaled k o₂.form)) xs o₂.ops)

  seq_ops : (c : Form) (ts : List StatusBits) (os : List Op) → (length (lower_seq pairs opsAt c ts os).ops ≤ 8 * length ts + length os) × (length (lower_seq pairs opsAt c ts os).kids ≡ length ts)
  unfolding lower_seq
  seq_ops c ts os =
      let z = constant 0 in
      let a = gates pairs opsAt c 0 ts os in
      let b = clears pairs opsAt z a.items a.ops in
      let d = stops pairs opsAt z b.items b.ops in
      let ha = gates_ops c 0 ts os in
      let hb = clears_ops z a.items a.ops in
      let hd = stops_ops z b.items b.ops in
      let he = picks_ops 0 z z z d.items d.ops in
      (omega (arith, ha.0, ha.1, hb.0, hb.1, hd.0, hd.1, he), hd.1 ∙ hb.1 ∙ ha.1)

  inverteds_length : (ts : List StatusBits) → length (inverteds ts) ≡ length ts
  unfolding inverteds
  inverteds_length [] = refl
  inverteds_length (t ∷ ts) = ap suc (inverteds_length ts)

  lower_ops : (q : Bool) (c : Form) (ts : List StatusBits) (os : List Op) → (length (lower pairs opsAt q c ts os).ops ≤ 8 * length ts + length os) × (length (lower pairs opsAt q c ts os).kids ≡ length ts)
  unfolding lower
  lower_ops true c ts os = seq_ops c ts os
  lower_ops false c ts os = let h = seq_ops c (inverteds ts) os in (omega (arith, h.0, inverteds_length ts), h.1 ∙ inverteds_length ts)

pub parts : {A : Type 0} (n : ℕ) (xs : List A) → length (take n xs) + length (drop n xs) ≡ length xs
parts zero xs = omega arith
parts (suc n) [] = refl
parts (suc n) (x ∷ xs) = omega (arith, parts n xs)

-- children and cursors of the nodes kept for the top-down pass
abbrev pub kids_in : List Arbitration → ℕ
kids_in [] = 0
kids_in (x ∷ xs) = length x.kids + kids_in xs

abbrev pub curs_in : List Arbitration → ℕ
curs_in [] = 0
curs_in (x ∷ xs) = cell_after x.node 0 + curs_in xs

cells_add : (n : Flat) (c : ℕ) → cell_after n c ≡ c + cell_after n 0
cells_add leaf c = omega arith
cells_add (fixed b) c = omega arith
cells_add invert c = omega arith
cells_add (force b) c = omega arith
cells_add (ordered true q n) c = omega arith
cells_add (ordered false q n) c = omega arith

module _ (opsAt cursorsAt leaves_at : ℕ) where
  pub record UpCount (c : ℕ) (ns : List Flat) (u : Up) : Type 0 where
    pub ops : length u.ops + 8 * length u.stack ≤ 8 * length ns
    pub kids : kids_in u.arbitrations + length u.stack ≤ length ns
    pub arbitrations : length u.arbitrations ≡ length ns
    pub cursors : c + curs_in u.arbitrations ≡ cell_end c ns
    pub some : 1 ≤ length ns → 1 ≤ length u.stack

  step_count : (n : Flat) (s c : ℕ) (ns : List Flat) (u : Up) → UpCount (cell_after n c) ns u → UpCount c (n ∷ ns) (up_step pairs opsAt cursorsAt leaves_at n s c u)
  unfolding up_step cell_end
  step_count leaf s c ns u h = record { ops = omega arith; kids = omega arith; arbitrations = ap suc h.arbitrations; cursors = omega arith; some = λ (l : 1 ≤ suc (length ns)). omega arith }
  step_count (fixed b) s c ns u h = record { ops = omega arith; kids = omega arith; arbitrations = ap suc h.arbitrations; cursors = omega arith; some = λ (l : 1 ≤ suc (length ns)). omega arith }
  step_count invert s c ns u h = record { ops = omega (arith, parts 1 u.stack); kids = omega (arith, parts 1 u.stack); arbitrations = ap suc h.arbitrations; cursors = omega arith; some = λ (l : 1 ≤ suc (length ns)). omega arith }
  step_count (force b) s c ns u h = record { ops = omega (arith, parts 1 u.stack); kids = omega (arith, parts 1 u.stack); arbitrations = ap suc h.arbitrations; cursors = omega arith; some = λ (l : 1 ≤ suc (length ns)). omega arith }
  step_count (ordered m q n) s c ns u h =
      let l = lower_ops opsAt q (cursor_f pairs opsAt cursorsAt leaves_at m c) (take n u.stack) u.ops in
      let p = parts n u.stack in
      record {
        ops = omega (arith, l.0);
        kids = omega (arith, l.1);
        arbitrations = ap suc h.arbitrations;
        cursors = omega (arith, cells_add (ordered m q n) c, h.cursors);
        some = λ (l : 1 ≤ suc (length ns)). omega arith;
      }

  pub up_count : (s c : ℕ) (ns : List Flat) → UpCount c ns (up pairs opsAt cursorsAt leaves_at s c ns)
  unfolding up cell_end
  up_count s c [] = record { ops = omega arith; kids = omega arith; arbitrations = refl; cursors = omega arith; some = λ (l : 1 ≤ 0). absurd (omega arith) }
  up_count s c (n ∷ ns) = step_count n s c ns (up pairs opsAt cursorsAt leaves_at (slot_after n s) (cell_after n c) ns) (up_count (slot_after n s) (cell_after n c) ns)

  -- reach
  spread_ops : (r h : Form) (xs : List ArbitratedChild) (os : List Op) → length (spread pairs opsAt cursorsAt r h xs os).ops ≤ 3 * length xs + length os
  unfolding spread
  spread_ops r h [] os = omega arith
  spread_ops r h (x ∷ xs) os =
      let o₁ = and pairs opsAt r x.reach os in
      let o₂ = and pairs opsAt r x.after_stop o₁.ops in
      let o₃ = or pairs opsAt h o₂.form o₂.ops in
      let a : length o₁.ops ≤ 1 + length os = and_ops opsAt r x.reach os in
      let b : length o₂.ops ≤ 1 + length o₁.ops = and_ops opsAt r x.after_stop o₁.ops in
      let d : length o₃.ops ≤ 1 + length o₂.ops = or_ops opsAt h o₂.form o₂.ops in
      omega (arith, spread_ops r h xs o₃.ops)

  children_ops : (n : Flat) (r h : Form) (xs : List ArbitratedChild) (os : List Op) → length (children pairs opsAt cursorsAt n r h xs os).ops ≤ 3 * length xs + length os
  unfolding children
  children_ops leaf r h xs os = omega arith
  children_ops (fixed b) r h xs os = omega arith
  children_ops invert r h xs os = omega arith
  children_ops (force b) r h xs os = omega arith
  children_ops (ordered m q n) r h xs os = spread_ops r h xs os

  next_cur_ops : (n : Flat) (c : ℕ) (r u x : Form) (os : List Op) → length (next_cur pairs opsAt cursorsAt n c r u x os).ops ≡ 2 * cell_after n 0 + length os
  unfolding next_cur push
  next_cur_ops leaf c r u x os = omega arith
  next_cur_ops (fixed b) c r u x os = omega arith
  next_cur_ops invert c r u x os = omega arith
  next_cur_ops (force b) c r u x os = omega arith
  next_cur_ops (ordered true q n) c r u x os = omega arith
  next_cur_ops (ordered false q n) c r u x os = omega arith

  -- what follows a node's own two ops
  rest_ops : (x : Arbitration) (c : ℕ) (r h u : Form) (os : List Op) →
      length (children pairs opsAt cursorsAt x.node r h x.kids (next_cur pairs opsAt cursorsAt x.node c r u x.cursor os).ops).ops ≤ 3 * length x.kids + 2 * cell_after x.node 0 + length os
  rest_ops x c r h u os =
      let k = next_cur pairs opsAt cursorsAt x.node c r u x.cursor os in
      omega (arith, children_ops x.node r h x.kids k.ops, next_cur_ops x.node c r u x.cursor os)

  down_ops : (i c : ℕ) (xs : List Arbitration) (st : List Entry) (os : List Op)
      → (length (down pairs opsAt cursorsAt i c xs st os).ops ≤ 2 * length xs + 3 * kids_in xs + 2 * curs_in xs + length os) × (length (down pairs opsAt cursorsAt i c xs st os).outs ≡ length xs)
  unfolding down
  down_ops i c [] st os = (omega arith, refl)
  down_ops i c (x ∷ xs) st os =
      let e = top (lost pairs opsAt cursorsAt) st in
      let h = and pairs opsAt e.called (wire' i) os in
      let u = and pairs opsAt (not' pairs e.reached) (not' pairs h.form) h.ops in
      let k = next_cur pairs opsAt cursorsAt x.node c e.reached u.form x.cursor u.ops in
      let s = children pairs opsAt cursorsAt x.node e.reached h.form x.kids k.ops in
      let r = down_ops (suc i) (cell_after x.node c) xs (s.items ++ drop 1 st) s.ops in
      let a : length h.ops ≤ 1 + length os = and_ops opsAt e.called (wire' i) os in
      let b : length u.ops ≤ 1 + length h.ops = and_ops opsAt (not' pairs e.reached) (not' pairs h.form) h.ops in
      let d : length s.ops ≤ 3 * length x.kids + 2 * cell_after x.node 0 + length u.ops = rest_ops x c e.reached h.form u.form u.ops in
      (omega (arith, r.0), ap suc r.1)

  flags_ops : (xs : List NodeReach) (os : List Op) → length (flags pairs opsAt cursorsAt xs os).ops ≤ 2 * length xs + length os
  unfolding flags
  flags_ops [] os = omega arith
  flags_ops (x ∷ xs) os =
      let o₁ = and pairs opsAt x.reached x.raw.running os in
      let o₂ = and pairs opsAt x.untouched x.was o₁.ops in
      let a : length o₁.ops ≤ 1 + length os = and_ops opsAt x.reached x.raw.running os in
      let b : length o₂.ops ≤ 1 + length o₁.ops = and_ops opsAt x.untouched x.was o₁.ops in
      omega (arith, flags_ops xs o₂.ops)

  -- the root is reached and not called, both constants: it has none of the four ops of its own
  root_ops : (xs : List Arbitration) (os : List Op) → 1 ≤ length xs
      → length (flags pairs opsAt cursorsAt (down pairs opsAt cursorsAt 0 0 xs (root pairs ∷ []) os).outs (down pairs opsAt cursorsAt 0 0 xs (root pairs ∷ []) os).ops).ops ≤ 4 * (length xs - 1) + 3 * kids_in xs + 2 * curs_in xs + length os
  unfolding down flags and and_at known known_at empty not' offset negate flip constant wire'
  root_ops [] os l = absurd (omega arith)
  root_ops (x ∷ xs) os l =
      let n = x.node in
      let k = next_cur pairs opsAt cursorsAt n 0 (constant 1) (not' pairs (constant 1)) x.cursor os in
      let s = children pairs opsAt cursorsAt n (constant 1) (constant 0) x.kids k.ops in
      let d = down pairs opsAt cursorsAt 1 (cell_after n 0) xs (s.items ++ []) s.ops in
      let a : length s.ops ≤ 3 * length x.kids + 2 * cell_after n 0 + length os = rest_ops x 0 (constant 1) (constant 0) (not' pairs (constant 1)) os in
      let b = down_ops 1 (cell_after n 0) xs (s.items ++ []) s.ops in
      let f : length (flags pairs opsAt cursorsAt d.outs d.ops).ops ≤ 2 * length d.outs + length d.ops = flags_ops d.outs d.ops in
      omega (arith, b.0, b.1)

-- the op bound: for every list of nodes that is not empty
pub op_bound : (ns : List Flat) → 1 ≤ length ns → length (build pairs ns).running.ops ≤ 15 * (length ns - 1) + 2 * cell_end 0 ns
unfolding build
op_bound ns l =
    let opsAt = inputs ns in
    let u = up pairs opsAt (cells_n ns) (cells_nc ns) 0 0 ns in
    let c : UpCount opsAt (cells_n ns) (cells_nc ns) 0 ns u = up_count opsAt (cells_n ns) (cells_nc ns) 0 0 ns in
    let st : 1 ≤ length u.stack = c.some l in
    let i : length u.arbitrations ≡ length ns = c.arbitrations in
    let k : kids_in u.arbitrations + length u.stack ≤ length ns = c.kids in
    let o : length u.ops + 8 * length u.stack ≤ 8 * length ns = c.ops in
    let e : 0 + curs_in u.arbitrations ≡ cell_end 0 ns = c.cursors in
    let r = root_ops opsAt (cells_n ns) (cells_nc ns) u.arbitrations u.ops (omega arith) in
    omega arith

pub one_cell : (n : Flat) → cell_after n 0 ≤ 1
one_cell leaf = omega arith
one_cell (fixed b) = omega arith
one_cell invert = omega arith
one_cell (force b) = omega arith
one_cell (ordered true q k) = omega arith
one_cell (ordered false q k) = omega arith

cell_end_le : (c : ℕ) (ns : List Flat) → cell_end c ns ≤ c + length ns
unfolding cell_end
cell_end_le c [] = omega arith
cell_end_le c (n ∷ ns) = omega (arith, cell_end_le (cell_after n c) ns, cells_add n c, one_cell n)

-- 2,163 slots are always enough
pub op_room : (ns : List Flat) → 1 ≤ length ns → length ns ≤ 128 → length (build pairs ns).running.ops ≤ 2163
op_room ns l h = omega (arith, op_bound ns l, cell_end_le 0 ns)
