-- Any algebra that respects small forms constructs the image of the circuit with whole coefficients, for at most 128 nodes.
use Prim.Native.Nat.{◌+◌, ◌≤◌, ℕ}
use native.Mathlib.Omega.{arith}
use mathlib.Core.List.{List, [], ◌∷◌, reverse, reverse_aux}
use mathlib.Core.Path.{◌∙◌, ◌≡◌, ap, refl}
use lib.Dec.{T}
use lib.ListN.{length}
use Rattle.construct.proofs.Arbitrate.{up_grows}
use Rattle.construct.proofs.Builds.{Sat, back}
use Rattle.construct.proofs.ListWalk.{woulds}
use Rattle.construct.proofs.Reach.{down_grows, flags_grows}
use Rattle.construct.proofs.Scope.{plus_reads}
use Rattle.construct.proofs.Scoped.{BitsIn, UpIn, up_in}
use Rattle.construct.specs.Circuit.{Built, Output, build, cell_end, cells_n, cells_nc, construct, inputs, outputs_of, root, slot_end}
use Rattle.construct.specs.Forms.{Forms}
use Rattle.construct.specs.Lower.{Flat, cell_after, down, flags, slot_after, up}
use Rattle.construct.specs.Pairs.{Down, Form, NodeReach, Op, StatusBits, Up, constant, pairs}
use Rattle.construct_instances.proofs.Down.{EntryFit, Falls, down_sim, flags_sim, of_down, of_entry, of_out}
use Rattle.construct_instances.proofs.Fits.{constant_fit, fit_up}
use Rattle.construct_instances.proofs.Loops.{Weights, wcons, wnil}
use Rattle.construct_instances.proofs.Turns.{BitsFit, of_many, of_ops}
use Rattle.construct_instances.proofs.Up.{Ready, of_arbitration, up_fit, up_is}
use Rattle.construct_instances.proofs.Respects.{Respects, of_circuit, of_op, of_output}
use Rattle.construct_sizes.proofs.Bounds.{Bits}
use Rattle.construct_sizes.proofs.Heavy.{BitsLow}
use Rattle.construct_sizes.proofs.TreeLow.{Stk, scons, short_would, snil}
use Rattle.construct_sizes.proofs.Whole.{blank, blank_sat, full, suffix_low, x'}
use Rattle.lists.specs.Every.{All}
use Rattle.walk.specs.Status.{Status}
use Rattle.construct.specs.Lower as L
use mathlib.Core.List.{map}

-- the weights that the sizes of the bottom-up pass give
record Weighs (T : ℕ) (ts : List StatusBits) (n : ℕ) : Type 0 where
  weight : ℕ
  lighter : weight ≤ T
  fit : Weights BitsFit n weight ts

bits_fit : (opsAt w : ℕ) (os : List Op) (t : StatusBits) → BitsIn opsAt os t → BitsLow Bits w t → BitsFit w t
bits_fit opsAt w os t h l =
    let n = opsAt + length os in
    record {
      success = record { top = n; reads = h.success; low = l.success };
      failure = record { top = n; reads = h.failure; low = l.failure };
      running = record { top = n; reads = h.running; low = l.running };
      sf = record { top = n; reads = plus_reads n t.success t.failure h.success h.failure; low = l.sf };
    }

weighs : (opsAt : ℕ) (os : List Op) (ρ : ℕ → ℕ) {T : ℕ} {ts : List StatusBits} {ss : List Status} → All (BitsIn opsAt os) ts → Stk ρ Bits 7 T ts ss → Weighs T ts (length ss)
weighs opsAt os ρ h snil = record { weight = 0; lighter = omega arith; fit = wnil }
weighs opsAt os ρ h (scons {w = w} {t = t} i l hs) =
    let r = weighs opsAt os ρ h.1 hs in
    record { weight = w + 5 + r.weight; lighter = omega (arith, r.lighter); fit = wcons (bits_fit opsAt w os t h.0 l) r.fit }

module _ (ns : List Flat) where
  ready : (s c : ℕ) (ms : List Flat) → slot_end s ms ≤ slot_end 0 ns → cell_end c ms ≤ cell_end 0 ns → length ms ≤ 128
      → Sat (inputs ns) (blank ns) (up pairs (inputs ns) (cells_n ns) (cells_nc ns) s c ms).ops → Sat (inputs ns) (full ns) (up pairs (inputs ns) (cells_n ns) (cells_nc ns) s c ms).ops
      → Ready (inputs ns) (cells_n ns) (cells_nc ns) s c ms
  unfolding up slot_end cell_end
  ready s c [] l k m t t' = tt
  ready s c (n ∷ ms) l k m t t' =
      let opsAt = inputs ns in
      let s₁ = slot_after n s in
      let c₁ = cell_after n c in
      let u = up pairs opsAt (cells_n ns) (cells_nc ns) s₁ c₁ ms in
      let g = up_grows opsAt (cells_n ns) (cells_nc ns) n s c u in
      let t₁ : Sat opsAt (blank ns) u.ops = back opsAt (blank ns) g t in
      let t₂ : Sat opsAt (full ns) u.ops = back opsAt (full ns) g t' in
      let z = suffix_low ns s₁ c₁ ms l k (omega arith) t₁ t₂ in
      let i : UpIn opsAt u = up_in opsAt (cells_n ns) (cells_nc ns) (cell_end 0 ns) (slot_end 0 ns) (omega arith) (omega arith) s₁ c₁ ms l k in
      let w = weighs opsAt u.ops (blank ns) i.stack z.stack in (
        record {
          count = length (woulds (x' 0).leafs (x' 0).cursor s₁ c₁ ms).stack;
          weight = w.weight;
          few = omega (arith, short_would (x' 0).leafs (x' 0).cursor s₁ c₁ ms);
          light = omega (arith, w.lighter, z.fit);
          fit = w.fit;
        },
        ready s₁ c₁ ms l k (omega arith) t₁ t₂,
      )

-- THE LAW: an algebra that respects small forms constructs the image of the circuit
module _ {F : Type 0} (A : Forms F) (of : Form → F) (same : Respects A of) (ns : List Flat) (few : length ns ≤ 128) where
  abbrev pub u : Up
  u = up pairs (inputs ns) (cells_n ns) (cells_nc ns) 0 0 ns

  abbrev pub d : Down
  d = down pairs (inputs ns) (cells_n ns) 0 0 u.arbitrations (root pairs ∷ []) u.ops

  pub all_ready : Ready (inputs ns) (cells_n ns) (cells_nc ns) 0 0 ns
  unfolding build
  all_ready =
      let opsAt = inputs ns in
      let gd = down_grows opsAt (cells_n ns) 0 0 u.arbitrations (root pairs ∷ []) u.ops in
      let gf = flags_grows opsAt (cells_n ns) d.outs d.ops in
      let s = blank_sat ns in
      ready ns 0 0 ns (omega arith) (omega arith) few (back opsAt (blank ns) gd (back opsAt (blank ns) gf s.0)) (back opsAt (full ns) gd (back opsAt (full ns) gf s.1))

  pub root_is : root A ≡ of_entry A of same (root pairs)
  root_is = λ i. record { reached = same.constant_same 1 (omega arith) i; called = same.constant_same 0 (omega arith) i }

  pub root_fits : All EntryFit (root pairs ∷ [])
  root_fits = (record { reached = fit_up 1 40000 (constant 1) (constant_fit 1) (omega arith); called = fit_up 0 40002 (constant 0) (constant_fit 0) (omega arith) }, tt)

  pub falls : Falls A of same (inputs ns) (cells_n ns) (down A (inputs ns) (cells_n ns) 0 0 (map (of_arbitration A of same) u.arbitrations) (map (of_entry A of same) (root pairs ∷ [])) (of_ops A of same u.ops)) d
  falls = down_sim A of same (inputs ns) (cells_n ns) 0 0 u.arbitrations (root pairs ∷ []) u.ops (up_fit A of same (inputs ns) (cells_n ns) (cells_nc ns) 0 0 ns all_ready)
      root_fits

  abbrev of_built : Built Form → Built F
  of_built b = record { pass = of_down A of same b.pass; running = of_many A of same of b.running }

  flagged : L.Down F → Built F
  flagged x = record { pass = x; running = flags A (inputs ns) (cells_n ns) x.outs x.ops }

  build_is : build A ns ≡ of_built (build pairs ns)
  unfolding build flagged
  build_is =
      let opsAt = inputs ns in
      let cursorsAt = cells_n ns in
      (λ i. let v = up_is A of same opsAt cursorsAt (cells_nc ns) 0 0 ns all_ready i in flagged (down A opsAt cursorsAt 0 0 v.arbitrations (root_is i ∷ []) v.ops))
      ∙ (λ i. flagged (falls.is i))
      ∙ (λ i. record { pass = of_down A of same d; running = flags_sim A of same opsAt cursorsAt d.outs d.ops falls.fit i })

  outputs_is : (xs : List NodeReach) (fs : List Form) → outputs_of (map (of_out A of same) xs) (map of fs) ≡ map (of_output of) (outputs_of xs fs)
  outputs_is [] fs = refl
  outputs_is (x ∷ xs) [] = refl
  outputs_is (x ∷ xs) (f ∷ fs) = ap (λ (l : List (Output F)). of_output of (record { status = x.raw; reached = x.reached; halted = x.halted; running = f }) ∷ l) (outputs_is xs fs)

  reverse_is : (os ps : List Op) → reverse_aux (map (of_op of) os) (map (of_op of) ps) ≡ map (of_op of) (reverse_aux os ps)
  reverse_is [] ps = refl
  reverse_is (o ∷ os) ps = reverse_is os (o ∷ ps)

  pub same_circuit : construct A ns ≡ of_circuit of (construct pairs ns)
  unfolding construct
  same_circuit =
      let b = build pairs ns in
      (λ i. let x = build_is i in record { ops = reverse x.running.ops; outputs = outputs_of x.pass.outs x.running.items; cursors = x.pass.cursors })
      ∙ (λ i. record { ops = reverse_is b.running.ops [] i; outputs = outputs_is b.pass.outs b.running.items i; cursors = map of b.pass.cursors })
