-- The three passes over nodes that find their children, one after the other.
use Prim.Native.Nat.{ℕ, suc, ◌+◌, ◌*◌, ◌≤◌, ◌<◌}
use native.Mathlib.Nat.{add-suc}
use native.Mathlib.Omega.{arith}
use mathlib.Core.Path.{◌≡◌, refl, sym, ap, subst, ◌∙◌}
use mathlib.Core.Bool.{true}
use mathlib.Core.List.{List, [], ◌∷◌}
use lib.ListN.{length}
use Rattle.wire.specs.Terms.{Affine}
use Rattle.wire.specs.Storage.{term_slots}
use Rattle.construct_floats.specs.Floats.{floats}
use Rattle.construct.specs.Builder.{Op}
use Rattle.construct.specs.Lower.{Flat, Arbitration, NodeReach, Many, flags}
use Rattle.construct.specs.Lower as L
use Rattle.construct.specs.Circuit.{slot_end, cell_end, inputs, cells_nc, root, outputs_of, build, construct}
use Rattle.builder_table.specs.Work.{Standing, Mem, Stood}
use Rattle.builder_table.specs.Whole.{Whole}
use Rattle.builder_laws.specs.Table.{Ops, Lasts}
use Rattle.builder_laws.proofs.Table.{lasts_on}
use Rattle.lower_room.proofs.Uses.{up_use, up_more, down_use, down_more, flags_use, arena_use, ops_use}
use Rattle.builder_laws.proofs.Running.{Rows}
use Rattle.builder_laws.proofs.Runs.{whole_kept, rows_kept}
use Rattle.lower_passes.specs.Arbitrate.{Raised, up, arbitrate_in}
use Rattle.builder_table.specs.Slots.{next_cursor_from, next_running_from}
use Rattle.lower_passes.specs.Reach.{Lowered, down, root_in, reach_in, flags_in}
use Rattle.lower_ordered_laws.proofs.Passes.{NodesAt, Sound, roots, rows_in, ArbitrationsAt, OutsAt}
use Rattle.lower_ordered_laws.proofs.Kept.{outs_kept}
use Rattle.lower_arbitrate_laws.proofs.Upward.{Arbitrated}
use Rattle.lower_arbitrate_laws.proofs.Arbitrate.{arbitrate_law}
use Rattle.lower_reach_laws.proofs.Downward.{ReachRuns, FlagsRuns}
use Rattle.lower_reach_laws.proofs.Flags.{flags_law}
use Rattle.lower_reach_laws.proofs.Reach.{reach_law, reach_outs, reach_curs}
use Rattle.lower_emit_laws.specs.Emitted.{OutputsAt, CursorsAt, CircuitAt}
use Rattle.lower_passes.specs.Build.{fresh, build_in}

-- the flags are as many as the nodes' outs
flags_count : (opsAt cursorsAt : ℕ) (xs : List (NodeReach Affine)) (os : List (Op Affine)) → length (flags floats opsAt cursorsAt xs os).items ≡ length xs
unfolding flags
flags_count opsAt cursorsAt [] os = refl
flags_count opsAt cursorsAt (x ∷ xs) os = ap suc (flags_count opsAt cursorsAt xs _)

outputs_count : (xs : List (NodeReach Affine)) (fs : List Affine) → length fs ≡ length xs → length (outputs_of xs fs) ≡ length xs
outputs_count [] fs e = refl
outputs_count (x ∷ xs) [] e = omega (arith, e)
outputs_count (x ∷ xs) (f ∷ fs) e = ap suc (outputs_count xs fs (omega (arith, e)))

-- ---- where all had room, what stands is

module _ (m : Mem) (b : Standing) (ok : b.room.ok ≡ true) where
  outputs_at : (i : ℕ) (xs : List (NodeReach Affine)) (fs : List Affine) → OutsAt m b i xs → Rows m b (next_running_from + i) fs → OutputsAt m b.room.used i (outputs_of xs fs)
  outputs_at i [] fs h r = tt
  outputs_at i (x ∷ xs) [] h r = tt
  outputs_at i (x ∷ xs) (f ∷ fs) h r =
      let o = h.0 in (
        record {
          success = o.raw.success.holds ok;
          failure = o.raw.failure.holds ok;
          running = o.raw.running.holds ok;
          reached = o.reached.holds ok;
          halted = o.halted.holds ok;
          next_running = r.0.holds ok;
        },
        outputs_at (suc i) xs fs h.1 (subst (λ (k : ℕ). Rows m b k fs) (sym (add-suc next_running_from i)) r.1),
      )

  cursors_at : (c : ℕ) (xs : List Affine) → Rows m b (next_cursor_from + c) xs → CursorsAt m b.room.used c xs
  cursors_at c [] r = tt
  cursors_at c (x ∷ xs) r = (r.0.holds ok, cursors_at (suc c) xs (subst (λ (k : ℕ). Rows m b k xs) (sym (add-suc next_cursor_from c)) r.1))

-- ---- the passes

pub record Passed (m : Mem) (s : Stood) (ns : List Flat) : Type 0 where
  pub circuit : CircuitAt s.mem s.builder.room.used (build floats ns).running.ops (construct floats ns)
  pub ops : s.builder.ops ≡ length (build floats ns).running.ops
  pub outputs : length (construct floats ns).outputs ≡ length ns
  pub cursors : length (construct floats ns).cursors ≡ cell_end 0 ns
  pub ok : s.builder.room.ok ≡ true
  pub used : s.builder.room.used ≤ arena_use floats ns
  pub made : s.builder.ops ≤ ops_use ns
  pub wires : length s.mem.wires ≡ length m.wires
  pub coefs : length s.mem.coefs ≡ length m.coefs
  pub nums : length s.mem.nums ≡ length m.nums
  pub biases : length s.mem.biases ≡ length m.biases

-- reach's law from where arbitrating left off
reach_from_lem : (m : Mem) (b : Standing) (kinds counts : List ℕ) (ns : List Flat) (infos : List (Arbitration Affine)) (os : List (Op Affine)) (opsAt row : ℕ) → b.cells ≡ opsAt → row ≡ rows_in ns
    → Whole m.nums m.biases → Ops m b os → ArbitrationsAt m b 0 ns infos → NodesAt kinds counts 0 ns → Sound ns → roots ns ≡ 1 → length ns ≤ 128 → cell_end 0 ns ≤ 128
    → ReachRuns 0 0 (down_use floats opsAt (length ns) 0 0 infos (root floats ∷ []) os) (down_more ns) m b
    (reach_in (root_in m) (down b 1 row 0) kinds counts (length ns) 0 (length ns))
    (L.down floats opsAt (length ns) 0 0 infos (root floats ∷ []) os)
reach_from_lem m b kinds counts ns infos os opsAt row c e w o h at so one few cells =
    subst (λ (n : ℕ).
    ReachRuns 0 0 (down_use floats n (length ns) 0 0 infos (root floats ∷ []) os) (down_more ns) m b
    (reach_in (root_in m) (down b 1 row 0) kinds counts (length ns) 0 (length ns))
    (L.down floats n (length ns) 0 0 infos (root floats ∷ []) os)) c
    (subst (λ (r : ℕ).
    ReachRuns 0 0 (down_use floats b.cells (length ns) 0 0 infos (root floats ∷ []) os) (down_more ns) m b
    (reach_in (root_in m) (down b 1 r 0) kinds counts (length ns) 0 (length ns))
    (L.down floats b.cells (length ns) 0 0 infos (root floats ∷ []) os)) (sym e)
    (reach_law m b kinds counts ns infos os w o h at so one few cells))

-- and the flags' from where reaching did
flags_after : (m : Mem) (b : Standing) (outs : List (NodeReach Affine)) (os : List (Op Affine)) (opsAt cursorsAt n : ℕ) → b.cells ≡ opsAt → length outs ≡ n → n ≤ 128
    → Whole m.nums m.biases → Ops m b os → OutsAt m b 0 outs
    → FlagsRuns 0 n (flags_use floats opsAt outs os) m b (flags_in m b 0 n) (flags floats opsAt cursorsAt outs os)
flags_after m b outs os opsAt cursorsAt n c e few w o h =
    subst (λ (k : ℕ). FlagsRuns 0 n (flags_use floats k outs os) m b (flags_in m b 0 n) (flags floats k cursorsAt outs os)) c
    (subst (λ (k : ℕ). FlagsRuns 0 k (flags_use floats b.cells outs os) m b (flags_in m b 0 k) (flags floats b.cells cursorsAt outs os)) e
    (flags_law m b 0 cursorsAt outs os w o h (omega (arith, e))))

module _ (m : Mem) (kinds counts : List ℕ) (ns : List Flat) (at : NodesAt kinds counts 0 ns) (sound : Sound ns) (one : roots ns ≡ 1) (few : length ns ≤ 128) (cells : cell_end 0 ns ≤ 128)
    (w : Whole m.nums m.biases) where
  abbrev start : Standing
  start = fresh (inputs ns)

  abbrev e1 : Raised
  e1 = arbitrate_in m (up start 0 0 (slot_end 0 ns) (cell_end 0 ns)) kinds counts (length ns) (cells_nc ns) (length ns)

  abbrev u : L.Up Affine
  u = L.up floats (inputs ns) (length ns) (cells_nc ns) 0 0 ns

  abbrev up_need : ℕ
  up_need = up_use floats (inputs ns) (length ns) (cells_nc ns) 0 0 ns

  first : Arbitrated 0 0 0 ns m (up start 0 0 (slot_end 0 ns) (cell_end 0 ns)) e1 u up_need (up_more ns)
  first = arbitrate_law m start kinds counts (cells_nc ns) ns at sound few w (record { holds = λ t. record { count = refl; all = tt } })

  abbrev e2 : Lowered
  e2 = reach_in (root_in e1.mem) (down e1.up.builder 1 e1.up.row 0) kinds counts (length ns) 0 (length ns)

  abbrev d : L.Down Affine
  d = L.down floats (inputs ns) (length ns) 0 0 u.arbitrations (root floats ∷ []) u.ops

  abbrev down_need : ℕ
  down_need = down_use floats (inputs ns) (length ns) 0 0 u.arbitrations (root floats ∷ []) u.ops

  second : ReachRuns 0 0 down_need (down_more ns) e1.mem e1.up.builder e2 d
  second =
      reach_from_lem e1.mem e1.up.builder kinds counts ns u.arbitrations u.ops (inputs ns) e1.up.row first.runs.keeps.cells first.stands.row
      (whole_kept first.runs.keeps w) first.stands.ops first.stands.arbitrations at sound one few cells

  outs_many : length d.outs ≡ length ns
  outs_many =
      subst (λ (n : ℕ). length (L.down floats n (length ns) 0 0 u.arbitrations (root floats ∷ []) u.ops).outs ≡ length ns) first.runs.keeps.cells
      (reach_outs e1.mem e1.up.builder ns u.arbitrations (root floats ∷ []) u.ops first.stands.arbitrations)

  curs_many : length d.cursors ≡ cell_end 0 ns
  curs_many =
      subst (λ (n : ℕ). length (L.down floats n (length ns) 0 0 u.arbitrations (root floats ∷ []) u.ops).cursors ≡ cell_end 0 ns) first.runs.keeps.cells
      (reach_curs e1.mem e1.up.builder ns u.arbitrations (root floats ∷ []) u.ops first.stands.arbitrations)

  abbrev e3 : Stood
  e3 = flags_in e2.mem e2.down.builder 0 (length ns)

  abbrev g : Many Affine Affine
  g = flags floats (inputs ns) (length ns) d.outs d.ops

  abbrev flag_need : ℕ
  flag_need = flags_use floats (inputs ns) d.outs d.ops

  third : FlagsRuns 0 (length ns) flag_need e2.mem e2.down.builder e3 g
  third =
      flags_after e2.mem e2.down.builder d.outs d.ops (inputs ns) (length ns) (length ns) (second.runs.keeps.cells ∙ first.runs.keeps.cells) outs_many few
      (whole_kept second.runs.keeps (whole_kept first.runs.keeps w)) second.runs.ops second.outs

  all_lasts : Lasts m start e3.builder (up_need + (down_need + flag_need)) (up_more ns + (down_more ns + 2 * length ns))
  all_lasts =
      let a = first.runs.keeps in
      let b = second.runs.keeps in
      lasts_on a.arena a.cells first.runs.lasts (lasts_on b.arena b.cells second.runs.lasts third.runs.lasts)

  use_is : arena_use floats ns ≡ up_need + down_need + flag_need
  unfolding arena_use
  use_is = refl

  build_is : build_in m kinds counts (length ns) (cell_end 0 ns) (slot_end 0 ns) ≡ e3
  unfolding build_in
  build_is = refl

  -- the forms of the reached nodes and the cursors stay while the flags are made
  outs_last : OutsAt e3.mem e3.builder 0 d.outs
  outs_last =
      outs_kept third.runs.keeps 0 d.outs (omega (arith, outs_many))
      (λ j l h. ((λ p q. omega (arith, outs_many, few)), (λ p q. omega (arith, outs_many, few)), (λ p q. omega (arith, outs_many, few)), (λ p q. omega (arith, outs_many, few)), (λ p q. omega (arith, outs_many, few)), (λ p q. omega (arith, outs_many, few))))
      second.outs

  curs_last : Rows e3.mem e3.builder (next_cursor_from + 0) d.cursors
  curs_last = rows_kept third.runs.keeps (next_cursor_from + 0) d.cursors (omega (arith, curs_many)) (λ k a c p q. omega (arith, curs_many)) second.cursors

  module _ (inputs-few : inputs ns < 65536) (ops_few : ops_use ns ≤ 2200) (room : arena_use floats ns ≤ term_slots (length m.wires) (length m.coefs)) where
    went : (e3.builder.room.ok ≡ true) × (e3.builder.room.used ≤ 0 + (up_need + (down_need + flag_need))) × (e3.builder.ops ≤ 0 + (up_more ns + (down_more ns + 2 * length ns)))
    went = all_lasts.lasts refl inputs-few (omega arith) (omega (arith, use_is))

    passed : Passed m e3 ns
    unfolding construct build
    passed =
        let ok = went.0 in
        let o = third.runs.ops.holds ok in
        record {
          circuit = record {
            order = refl;
            ops = o.all;
            outputs = outputs_at e3.mem e3.builder ok 0 d.outs g.items outs_last third.rows;
            cursors = cursors_at e3.mem e3.builder ok 0 d.cursors curs_last;
          };
          ops = o.count;
          outputs = outputs_count d.outs g.items (flags_count (inputs ns) (length ns) d.outs d.ops) ∙ outs_many;
          cursors = curs_many;
          ok = ok;
          used = omega (arith, went.1, use_is);
          made = omega (arith, went.2);
          wires = third.runs.keeps.arena.wires ∙ second.runs.keeps.arena.wires ∙ first.runs.keeps.arena.wires;
          coefs = third.runs.keeps.arena.coefs ∙ second.runs.keeps.arena.coefs ∙ first.runs.keeps.arena.coefs;
          nums = third.runs.keeps.nums ∙ second.runs.keeps.nums ∙ first.runs.keeps.nums;
          biases = third.runs.keeps.biases ∙ second.runs.keeps.biases ∙ first.runs.keeps.biases;
        }

    pub nodes_built : Passed m (build_in m kinds counts (length ns) (cell_end 0 ns) (slot_end 0 ns)) ns
    nodes_built = subst (λ (s : Stood). Passed m s ns) (sym build_is) passed
