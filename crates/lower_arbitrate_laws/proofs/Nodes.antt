-- Arbitrating a leaf, a node with a fixed status, and a decorator.
use Prim.Native.Nat.{ℕ, suc, ◌+◌, ◌-◌, ◌*◌, ◌≤◌, ◌<◌}
use native.Mathlib.Omega.{arith}
use mathlib.Core.Path.{◌≡◌, refl, sym, subst, ◌∙◌}
use mathlib.Core.Bool.{Bool, true, false}
use mathlib.Core.List.{List, ◌∷◌}
use lib.ListN.{length, drop, length-drop}
use Rattle.wire.specs.Terms.{Affine}
use Rattle.construct.specs.Builder.{Op}
use Rattle.construct.specs.Lower.{Flat, leaf, fixed, invert, force, slot_after, cell_after, StatusBits as Bits, top, inverted, forced, fixed_t, leaf_t, up_step}
use Rattle.construct.specs.Lower as L
use Rattle.construct_floats.specs.Floats.{floats}
use Rattle.builder_table.specs.Work.{Standing, Mem}
use Rattle.builder_table.specs.Whole.{Whole}
use Rattle.builder_table.specs.Steps.{wire_in}
use Rattle.builder.specs.Bits.{bit_form}
use Rattle.builder_laws.proofs.Builder.{stands_one, stands_zero}
use Rattle.status.specs.declared.StatusBits.{StatusBits}
use Rattle.status.specs.Bits.{bits, unticked_bits, with_bit, inverted_bits, finished_in, forced_bits}
use Rattle.lower_room.proofs.Uses.{step_use}
use Rattle.builder_laws.proofs.Running.{Runs}
use Rattle.builder_laws.proofs.Runs.{Ready, runs_none, runs_then, ready_after, stands_after}
use Rattle.builder_laws.proofs.Steps.{wire_runs, plus_runs}
use Rattle.lower_passes.specs.Marks.{Up}
use Rattle.lower_passes.specs.Arbitrate.{up, status_in, own_of, leaf_in, fixed_within, invert_in, force_in}
use Rattle.lower_ordered_laws.proofs.Passes.{roots, Sound, UpAt}
use Rattle.lower_arbitrate_laws.proofs.Upward.{Arbitrated}
use Rattle.lower_ordered_laws.proofs.Counts.{rows_most}
use Rattle.lower_arbitrate_laws.proofs.Stack.{trips_rest, top_at}
use Rattle.lower_arbitrate_laws.proofs.Raw.{BitsAt}
use Rattle.lower_arbitrate_laws.proofs.Plain.{All, ready_up, plain_law}

-- ---- a fixed status

fixed_bits : (m : Mem) (b : Standing) (own : Bool) → BitsAt m b (with_bit unticked_bits (own_of own) (bit_form true)) (fixed_t floats own)
unfolding with_bit fixed_t
fixed_bits m b true = record { success = stands_one; failure = stands_zero; running = stands_zero }
fixed_bits m b false = record { success = stands_zero; failure = stands_one; running = stands_zero }

-- ---- a forced status

module _ {n : ℕ} {m : Mem} {b : Standing} {os : List (Op Affine)} (q : Ready n m b os) (x : StatusBits) (t : Bits Affine) (z : BitsAt m b x t) where
  finished_runs : Runs All m b (finished_in m b x).mem (finished_in m b x).builder os (floats.terms t.success + floats.terms t.failure) 0
  unfolding finished_in
  finished_runs = (plus_runs {K = All} q z.success z.failure).runs

  forced_bits_lem : (own : Bool) → BitsAt (finished_in m b x).mem (finished_in m b x).builder (forced_bits x (own_of own) (finished_in m b x).form) (forced floats own t)
  unfolding finished_in forced_bits with_bit forced
  forced_bits_lem true = let p = plus_runs {K = All} q z.success z.failure in record { success = p.form; failure = stands_zero; running = stands_after p.runs z.running }
  forced_bits_lem false = let p = plus_runs {K = All} q z.success z.failure in record { success = stands_zero; failure = p.form; running = stands_after p.runs z.running }

-- ---- the nodes

-- the nodes after n are done
abbrev pub Done : (i s c : ℕ) → Flat → List Flat → Mem → Up → L.Up Affine → Type 0
Done i s c n ns m v u = UpAt (suc i) (slot_after n s) (cell_after n c) ns m v u

module _ (i s c cursorsAt leaves_at : ℕ) (ns : List Flat) (m : Mem) (v : Up) (u : L.Up Affine) (w : Whole m.nums m.biases) (so : Sound ns) (l : length ns + suc i ≤ 128) where
  pub leaf_law : Done i s c leaf ns m v u → Arbitrated i s c (leaf ∷ ns) m v (leaf_in m v i leaves_at) (up_step floats v.builder.cells cursorsAt leaves_at leaf s c u) 3 0
  unfolding leaf_in up_step roots
  leaf_law h =
      let q = ready_up w h in
      let k = v.slot - 1 in
      let p0 = wire_runs {K = All} q (leaves_at + 3 * k) in
      let q0 = ready_after p0.runs q in
      let p1 = wire_runs {K = All} q0 (leaves_at + 3 * k + 1) in
      let q1 = ready_after p1.runs q0 in
      let p2 = wire_runs {K = All} q1 (leaves_at + 3 * k + 2) in
      let e : k ≡ s = omega (arith, h.slot) in
      let x0 = wire_in m v.builder (leaves_at + 3 * k) in
      let x1 = wire_in x0.mem x0.builder (leaves_at + 3 * k + 1) in
      let x2 = wire_in x1.mem x1.builder (leaves_at + 3 * k + 2) in
      let bt : BitsAt x2.mem x2.builder (bits x0.form x1.form x2.form) (leaf_t floats v.builder.cells cursorsAt leaves_at k) =
      record { success = stands_after p2.runs (stands_after p1.runs p0.form); failure = stands_after p2.runs p1.form; running = p2.form } in
      plain_law s c w so l h leaf (leaf_t floats v.builder.cells cursorsAt leaves_at s) u.stack x2.mem (up x2.builder (v.depth + 1) v.row (v.slot - 1) v.cell) v.depth
      (bits x0.form x1.form x2.form) 3
      (runs_then p0.runs (runs_then p1.runs p2.runs))
      (subst (λ (z : ℕ). BitsAt x2.mem x2.builder (bits x0.form x1.form x2.form) (leaf_t floats v.builder.cells cursorsAt leaves_at z)) e bt)
      h.stack
      (h.stacked ∙ sym h.depth)
      (omega (arith, h.depth, rows_most ns so))
      refl
      tt
      (omega (arith, h.depth))
      (omega arith)
      refl
      e
      h.cell

  pub fixed_law : (own : Bool) → Done i s c (fixed own) ns m v u → Arbitrated i s c (fixed own ∷ ns) m v (fixed_within m v i own) (up_step floats v.builder.cells cursorsAt leaves_at (fixed own) s c u) 0 0
  unfolding fixed_within up_step roots
  fixed_law own h =
      plain_law s c w so l h (fixed own) (fixed_t floats own) u.stack m (up v.builder (v.depth + 1) v.row v.slot v.cell) v.depth
      (with_bit unticked_bits (own_of own) (bit_form true)) 0
      (runs_none (ready_up w h))
      (fixed_bits m v.builder own)
      h.stack
      (h.stacked ∙ sym h.depth)
      (omega (arith, h.depth, rows_most ns so))
      refl
      tt
      (omega (arith, h.depth))
      (omega arith)
      refl
      h.slot
      h.cell

  -- a decorator finds a status on the stack
  pub invert_law : Done i s c invert ns m v u → 0 < roots ns → Arbitrated i s c (invert ∷ ns) m v (invert_in m v i) (up_step floats v.builder.cells cursorsAt leaves_at invert s c u) 0 0
  unfolding invert_in up_step roots inverted
  invert_law h o =
      let d = v.depth - 1 in
      let z = top_at m v.builder (fixed_t floats true) u.stack d (omega (arith, h.depth, h.stacked)) h.stack in
      plain_law s c w so l h invert (inverted (top (fixed_t floats true) u.stack)) (drop 1 u.stack) m v d (inverted_bits (status_in m d)) 0
      (runs_none (ready_up w h))
      (record { success = z.failure; failure = z.success; running = z.running })
      (trips_rest m v.builder 1 u.stack h.stack)
      (omega (arith, length-drop 1 u.stack, h.depth, h.stacked))
      (omega (arith, h.depth, rows_most ns so))
      refl
      tt
      (omega (arith, h.depth))
      (omega (arith, h.depth))
      refl
      h.slot
      h.cell

  pub force_law : (own : Bool) → Done i s c (force own) ns m v u → 0 < roots ns
      → Arbitrated i s c (force own ∷ ns) m v (force_in m v i own) (up_step floats v.builder.cells cursorsAt leaves_at (force own) s c u) (step_use floats v.builder.cells cursorsAt leaves_at (force own) s c u) 0
  unfolding force_in up_step step_use roots
  force_law own h o =
      let d = v.depth - 1 in
      let t = top (fixed_t floats true) u.stack in
      let z = top_at m v.builder (fixed_t floats true) u.stack d (omega (arith, h.depth, h.stacked)) h.stack in
      let x = status_in m d in
      let q = ready_up w h in
      plain_law s c w so l h (force own) (forced floats own t) (drop 1 u.stack) (finished_in m v.builder x).mem
      (up (finished_in m v.builder x).builder v.depth v.row v.slot v.cell) d (forced_bits x (own_of own) (finished_in m v.builder x).form)
      (floats.terms t.success + floats.terms t.failure)
      (finished_runs q x t z)
      (forced_bits_lem q x t z own)
      (trips_rest m v.builder 1 u.stack h.stack)
      (omega (arith, length-drop 1 u.stack, h.depth, h.stacked))
      (omega (arith, h.depth, rows_most ns so))
      refl
      tt
      (omega (arith, h.depth))
      (omega (arith, h.depth))
      refl
      h.slot
      h.cell
