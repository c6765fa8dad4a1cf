-- Arbitrating all nodes, from the last to the first, gives the construction's `up`.
use Prim.Native.Nat.{ℕ, suc, ◌+◌, ◌*◌, ◌≤◌}
use native.Mathlib.Omega.{arith}
use mathlib.Core.Path.{◌≡◌, refl, sym, ap, subst, ◌∙◌}
use mathlib.Core.List.{List, [], ◌∷◌}
use lib.ListN.{length}
use Rattle.construct.specs.Circuit.{slot_end, cell_end}
use Rattle.construct.specs.Lower.{Flat, slot_after, cell_after, up_step}
use Rattle.construct.specs.Lower as L
use Rattle.construct_floats.specs.Floats.{floats}
use Rattle.builder_table.specs.Work.{Standing, Mem}
use Rattle.builder_table.specs.Whole.{Whole}
use Rattle.builder_laws.specs.Table.{Ops}
use Rattle.lower_room.proofs.Uses.{kids_of, step_use, up_use, up_more}
use Rattle.builder_laws.proofs.Runs.{runs_none, runs_then, runs_wide, whole_kept}
use Rattle.lower_passes.specs.Marks.{Up}
use Rattle.lower_passes.specs.Arbitrate.{Raised, up, step_within, arbitrate_in}
use Rattle.lower_ordered_laws.proofs.Passes.{roots, Sound, rows_in, NodesAt}
use Rattle.lower_arbitrate_laws.proofs.Upward.{Arbitrated}
use Rattle.lower_arbitrate_laws.proofs.Step.{step_law}

-- ---- nodes of a list, the first being the i-th

module _ (m : Mem) (v : Up) (nodes base : ℕ) where
  unfoldable list_in : ℕ → List Flat → Raised
  list_in i [] = record { mem = m; up = v }
  list_in i (n ∷ ns) =
      let e = list_in (suc i) ns in
      step_within e.mem e.up i n nodes base

  module _ (kinds counts : List ℕ) where
    list_in_lem : (i : ℕ) (ns : List Flat) → NodesAt kinds counts i ns
        → arbitrate_in m v kinds counts nodes base (i + length ns) ≡ arbitrate_in (list_in i ns).mem (list_in i ns).up kinds counts nodes base i
    unfolding list_in arbitrate_in
    list_in_lem i [] h = let e : i + 0 ≡ i = omega arith in ap (λ (k : ℕ). arbitrate_in m v kinds counts nodes base k) e
    list_in_lem i (n ∷ ns) h =
        let a = list_in (suc i) ns in
        let e : i + suc (length ns) ≡ suc i + length ns = omega arith in
        ap (λ (k : ℕ). arbitrate_in m v kinds counts nodes base k) e
        ∙ list_in_lem (suc i) ns h.1
        ∙ ap (λ (f : Flat). arbitrate_in (step_within a.mem a.up i f nodes base).mem (step_within a.mem a.up i f nodes base).up kinds counts nodes base i) h.0

    -- all of them
    all_in : (ns : List Flat) → NodesAt kinds counts 0 ns → arbitrate_in m v kinds counts nodes base (length ns) ≡ list_in 0 ns
    unfolding arbitrate_in
    all_in ns h = let e : length ns ≡ 0 + length ns = omega arith in ap (λ (k : ℕ). arbitrate_in m v kinds counts nodes base k) e ∙ list_in_lem 0 ns h

-- ---- the law

module _ (m : Mem) (b : Standing) (slots cells cursorsAt leaves_at : ℕ) (w : Whole m.nums m.biases) (o : Ops m b []) where
  -- as the pass begins
  abbrev start : Up
  start = up b 0 0 slots cells

  nodes_law : (i s c : ℕ) (ns : List Flat) → Sound ns → length ns + i ≤ 128 → slots ≡ slot_end s ns → cells ≡ cell_end c ns
      → Arbitrated i s c ns m start (list_in m start cursorsAt leaves_at i ns) (L.up floats b.cells cursorsAt leaves_at s c ns) (up_use floats b.cells cursorsAt leaves_at s c ns) (up_more ns)
  unfolding list_in L.up up_use up_more Sound slot_end cell_end roots rows_in
  nodes_law i s c [] so l es ec =
      record {
        stands = record { depth = refl; stacked = refl; row = refl; slot = es; cell = ec; stack = record { success = tt; failure = tt; running = tt }; arbitrations = tt; ops = o };
        runs = runs_none {n = b.cells} (record { whole = w; cells = refl; ops = o });
      }
  nodes_law i s c (n ∷ ns) so l es ec =
      let a = nodes_law (suc i) (slot_after n s) (cell_after n c) ns so.2 (omega arith) es ec in
      let e = list_in m start cursorsAt leaves_at (suc i) ns in
      let u = L.up floats b.cells cursorsAt leaves_at (slot_after n s) (cell_after n c) ns in
      let z =
      subst (λ (k : ℕ). Arbitrated i s c (n ∷ ns) e.mem e.up (step_within e.mem e.up i n cursorsAt leaves_at) (up_step floats k cursorsAt leaves_at n s c u) (step_use floats k cursorsAt leaves_at n s c u) (8 * kids_of n)) a.runs.keeps.cells
      (step_law i s c cursorsAt leaves_at ns e.mem e.up u (whole_kept a.runs.keeps w) so.2 (omega arith) n a.stands so.0 so.1) in
      record { stands = z.stands; runs = runs_wide (runs_then a.runs z.runs) _ _ (omega arith) (omega arith) }

-- the cursors' cells follow the nodes, and the leaves' begin at leaves_at
pub arbitrate_law : (m : Mem) (b : Standing) (kinds counts : List ℕ) (leaves_at : ℕ) (ns : List Flat) → NodesAt kinds counts 0 ns → Sound ns → length ns ≤ 128 → Whole m.nums m.biases → Ops m b []
    → Arbitrated 0 0 0 ns m (up b 0 0 (slot_end 0 ns) (cell_end 0 ns)) (arbitrate_in m (up b 0 0 (slot_end 0 ns) (cell_end 0 ns)) kinds counts (length ns) leaves_at (length ns))
    (L.up floats b.cells (length ns) leaves_at 0 0 ns) (up_use floats b.cells (length ns) leaves_at 0 0 ns) (up_more ns)
arbitrate_law m b kinds counts leaves_at ns h so l w o =
    let v = up b 0 0 (slot_end 0 ns) (cell_end 0 ns) in
    subst (λ (e : Raised). Arbitrated 0 0 0 ns m v e (L.up floats b.cells (length ns) leaves_at 0 0 ns) (up_use floats b.cells (length ns) leaves_at 0 0 ns) (up_more ns))
    (sym (all_in m v (length ns) leaves_at kinds counts ns h))
    (nodes_law m b (slot_end 0 ns) (cell_end 0 ns) (length ns) leaves_at w o 0 0 0 ns so (omega arith) refl refl)
