-- Arbitrating one node: what it asks for is there, and what is left is the construction's step.
use Prim.Native.Nat.{ℕ, suc, ◌+◌, ◌-◌, ◌*◌, ◌≤◌}
use native.Mathlib.Omega.{arith}
use borrow.Author.Tests.{le-leb, lt-ltb}
use mathlib.Core.Path.{◌≡◌, refl, sym, subst, ◌∙◌}
use mathlib.Core.Bool.{Bool, true, false, cond, ◌&&◌}
use mathlib.Core.List.{List, ◌∷◌}
use lib.ListN.{length}
use Rattle.exact.specs.Whole.{zero32}
use Rattle.wire.specs.Terms.{Affine, constant_form}
use Rattle.arena_terms.specs.Sums as S
use Rattle.construct.specs.Lower.{Flat, leaf, fixed, invert, force, ordered, up_step}
use Rattle.construct.specs.Lower as L
use Rattle.construct_floats.specs.Floats.{floats}
use Rattle.builder_table.specs.Whole.{Whole}
use Rattle.builder_table.specs.Work.{Mem}
use Rattle.builder_table.specs.Steps.{wire_in}
use Rattle.builder_laws.specs.Table.{Stands}
use Rattle.builder_laws.proofs.Builder.{stands_zero}
use Rattle.lower_room.proofs.Uses.{kids_of, step_use}
use Rattle.builder_laws.proofs.Running.{Runs}
use Rattle.builder_laws.proofs.Runs.{runs_then, runs_less, runs_wide, whole_kept}
use Rattle.builder_laws.proofs.Steps.{wire_runs}
use Rattle.lower_passes.specs.Marks.{Up}
use Rattle.lower_passes.specs.Arbitrate.{Raised, up, composite_in, memory_in, ready, node_in, stuck, step_within}
use Rattle.lower_ordered_laws.proofs.Passes.{takes, roots, Childed, Sound, rows_in, UpAt}
use Rattle.lower_arbitrate_laws.proofs.Upward.{None, Arbitrated}
use Rattle.lower_ordered_laws.proofs.Counts.{rows_most}
use Rattle.lower_arbitrate_laws.proofs.Infos.{infos_kept, trips_kept}
use Rattle.lower_arbitrate_laws.proofs.Plain.{All, all_spares, ready_up}
use Rattle.lower_arbitrate_laws.proofs.Nodes.{Done, leaf_law, fixed_law, invert_law, force_law}
use Rattle.lower_arbitrate_laws.proofs.Composite.{composite_law}

-- where no slot changes, what stood stands
up_kept : {i s c : ℕ} (s' c' : ℕ) {ns : List Flat} {m : Mem} {v : Up} {u : L.Up Affine} (m' : Mem) (v' : Up) {need more : ℕ} → Sound ns → length ns + i ≤ 128
    → Runs All m v.builder m' v'.builder u.ops need more → v'.depth ≡ v.depth → v'.row ≡ v.row → v'.slot ≡ s' → v'.cell ≡ c' → UpAt i s c ns m v u → UpAt i s' c' ns m' v' u
up_kept {i} s' c' {ns} {u = u} m' v' so l r ed er es ec h =
    record {
      depth = ed ∙ h.depth;
      stacked = h.stacked;
      row = er ∙ h.row;
      slot = es;
      cell = ec;
      stack = trips_kept r.keeps u.stack (omega (arith, h.stacked, rows_most ns so)) (λ k a o. tt) h.stack;
      arbitrations = infos_kept r.keeps i ns u.arbitrations l (omega (arith, rows_most ns so)) all_spares h.arbitrations;
      ops = r.ops;
    }

module _ (i s c cursorsAt leaves_at : ℕ) (ns : List Flat) (m : Mem) (v : Up) (u : L.Up Affine) (w : Whole m.nums m.biases) (so : Sound ns) (l : length ns + suc i ≤ 128) where
  abbrev Steps : Flat → Raised → Type 0
  Steps n e = Arbitrated i s c (n ∷ ns) m v e (up_step floats v.builder.cells cursorsAt leaves_at n s c u) (step_use floats v.builder.cells cursorsAt leaves_at n s c u) (8 * kids_of n)

  reactive_law : (on : Bool) (n : ℕ) → Done i s c (ordered false on n) ns m v u → n ≤ roots ns → rows_in ns + n ≤ 128 → Steps (ordered false on n) (composite_in m v i on (constant_form zero32) n)
  unfolding up_step step_use
  reactive_law on n h hn hr =
      let a = composite_law i s c ns m v u w so l h false on n (constant_form zero32) (floats.constant 0) hn hr stands_zero in
      record { stands = a.stands; runs = runs_wide a.runs _ _ (omega arith) (omega arith) }

  memory_law : (on : Bool) (n : ℕ) → Done i s c (ordered true on n) ns m v u → n ≤ roots ns → rows_in ns + n ≤ 128 → Steps (ordered true on n) (memory_in m v i on n cursorsAt)
  unfolding up_step step_use memory_in wire_in S.single
  memory_law on n h hn hr =
      let k = v.cell - 1 in
      let e : k ≡ c = omega (arith, h.cell) in
      let p = wire_runs {K = All} (ready_up w h) (cursorsAt + k) in
      let x = wire_in m v.builder (cursorsAt + k) in
      let v' = up x.builder v.depth v.row v.slot k in
      let hc : Stands x.mem x.builder x.form (floats.wire (cursorsAt + c)) = subst (λ (z : ℕ). Stands x.mem x.builder x.form (floats.wire (cursorsAt + z))) e p.form in
      let a =
      composite_law i s c ns x.mem v' u (whole_kept p.runs.keeps w) so l (up_kept s c x.mem v' so l p.runs refl refl h.slot e h) true on n x.form (floats.wire (cursorsAt + c)) hn hr hc in
      record { stands = a.stands; runs = runs_wide (runs_then (runs_less p.runs (λ j (o : None j). absurd o)) a.runs) _ _ (omega arith) (omega arith) }

  pub node_law : (n : Flat) → Done i s c n ns m v u → takes n ≤ roots ns → Steps n (node_in m v i n cursorsAt leaves_at)
  unfolding step_use
  node_law leaf h t = leaf_law i s c cursorsAt leaves_at ns m v u w so l h
  node_law (fixed own) h t = fixed_law i s c cursorsAt leaves_at ns m v u w so l own h
  node_law invert h t = invert_law i s c cursorsAt leaves_at ns m v u w so l h t
  node_law (force own) h t = force_law i s c cursorsAt leaves_at ns m v u w so l own h t
  node_law (ordered true on n) h t = memory_law on n h t (omega (arith, rows_most ns so))
  node_law (ordered false on n) h t = reactive_law on n h t (omega (arith, rows_most ns so))

  -- ---- what the node asks for

  pub ready_law : (n : Flat) → Done i s c n ns m v u → takes n ≤ roots ns → Childed n → ready v n ≡ true
  ready_law leaf h t k = λ j. lt-ltb v.depth 128 (omega (arith, h.depth, rows_most ns so)) j && lt-ltb 0 v.slot (omega (arith, h.slot)) j
  ready_law (fixed own) h t k = lt-ltb v.depth 128 (omega (arith, h.depth, rows_most ns so))
  ready_law invert h t k = lt-ltb 0 v.depth (omega (arith, h.depth))
  ready_law (force own) h t k = lt-ltb 0 v.depth (omega (arith, h.depth))
  ready_law (ordered true on n) h t k =
      λ j.
      lt-ltb 0 n k j
      && (le-leb n v.depth (omega (arith, h.depth)) j && (le-leb (v.row + n) 128 (omega (arith, h.row, rows_most ns so)) j && lt-ltb 0 v.cell (omega (arith, h.cell)) j))
  ready_law (ordered false on n) h t k = λ j. lt-ltb 0 n k j && (le-leb n v.depth (omega (arith, h.depth)) j && le-leb (v.row + n) 128 (omega (arith, h.row, rows_most ns so)) j)

  pub step_law : (n : Flat) → Done i s c n ns m v u → takes n ≤ roots ns → Childed n → Steps n (step_within m v i n cursorsAt leaves_at)
  unfolding step_within
  step_law n h t k =
      subst (λ (z : Bool). Steps n (cond z (node_in m v i n cursorsAt leaves_at) (stuck m v))) (sym (ready_law n h t k)) (node_law n h t)
