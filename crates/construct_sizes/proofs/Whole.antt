-- The size of every form of the circuit, for at most 128 nodes: at tables no larger than the evaluated one, with cursors up to 65,535, below
-- 2^24; at tables of zeros and ones, at most 16,518.
use Prim.Native.Nat.{◌%◌, ◌*◌, ◌+◌, ◌-◌, ◌<◌, ◌≤◌, ℕ}
use native.Mathlib.Omega.{arith}
use mathlib.Core.Bool.{cond, false, true}
use mathlib.Core.List.{List, [], ◌∷◌}
use mathlib.Core.Path.{◌≡◌, refl}
use lib.Dec.{eqb, eqb→eq, ltb, ltb→lt, lt→ltb}
use lib.ListN.{length}
use Rattle.construct.proofs.Arbitrate.{Cells, UpIs, up_is}
use Rattle.construct.proofs.Bits.{eq→eqb, is_false, is_true}
use Rattle.construct.proofs.Builds.{Sat, back}
use Rattle.construct.proofs.ListWalk.{woulds}
use Rattle.construct.proofs.Reach.{EntryIs, down_grows, down_is, flags_grows}
use Rattle.construct.proofs.Right.{Holds, State, eval_holds, leaf_held, would_nodes}
use Rattle.construct.proofs.Scope.{eval, eval_sat}
use Rattle.construct.proofs.Scoped.{circuit_made}
use Rattle.construct.proofs.Values.{constant_val}
use Rattle.construct.specs.Circuit.{build, cell_end, cells_n, cells_nc, inputs, root, slot_end}
use Rattle.construct.specs.Lower.{Flat, down, up}
use Rattle.construct.specs.Pairs.{constant, pairs}
use Rattle.construct_sizes.proofs.Bounds.{Below, Bits, Fine, Low, Tables, Under, constant_low, low_up}
use Rattle.construct_sizes.proofs.DownLow.{EntryLow, NodeReachLow, down_low, fine_up, flags_low}
use Rattle.construct_sizes.proofs.TreeLow.{UpLow, up_low}
use Rattle.lists.specs.Every.{All, both, none}
use Rattle.walk.specs.Status.{Success}

-- states in which every cursor is v and every leaf succeeds: with v past every child, the second table
pub ι' : ℕ → List Flat → ℕ → ℕ
ι' v ns w = cond (ltb w (cells_n ns)) 0 (cond (ltb w (cells_nc ns)) v (cond (eqb ((w - cells_nc ns) % 3) 0) 1 0))

abbrev pub x' : ℕ → State
x' v = record { flag = λ i. false; cursor = λ c. v; leafs = λ s. Success }

lt_yes : (m n : ℕ) → m < n → ltb m n ≡ true
lt_yes m n h = is_true (ltb m n) (lt→ltb m n h)

lt_no : (m n : ℕ) → n ≤ m → ltb m n ≡ false
lt_no m n h = is_false (ltb m n) λ t. let k : m < n = ltb→lt m n t in omega arith

eq_yes : (m n : ℕ) → m ≡ n → eqb m n ≡ true
eq_yes m n h = is_true (eqb m n) (eq→eqb m n h)

eq_no : (m n : ℕ) → n < m → eqb m n ≡ false
eq_no m n h = is_false (eqb m n) λ t. let k : m ≡ n = eqb→eq m n t in omega arith

held' : (v : ℕ) (ns : List Flat) → Holds ns (ι' v ns) (x' v)
unfolding ι'
held' v ns = record {
  flag = λ i l. rw (lt_yes i (length ns) l);
  cursor = λ c l. rw (lt_no (length ns + c) (length ns) (omega arith), lt_yes (length ns + c) (cells_nc ns) (omega arith));
  leaf_s = λ s l. let w = cells_nc ns + 3 * s in rw (lt_no w (length ns) (omega arith), lt_no w (cells_nc ns) (omega arith), eq_yes ((w - cells_nc ns) % 3) 0 (omega arith));
  leaf_f = λ s l. let w = cells_nc ns + 3 * s + 1 in rw (lt_no w (length ns) (omega arith), lt_no w (cells_nc ns) (omega arith), eq_no ((w - cells_nc ns) % 3) 0 (omega arith));
  leaf_r = λ s l. let w = cells_nc ns + 3 * s + 2 in rw (lt_no w (length ns) (omega arith), lt_no w (cells_nc ns) (omega arith), eq_no ((w - cells_nc ns) % 3) 0 (omega arith));
}

cells_of : (ns : List Flat) (ρ : ℕ → ℕ) (x : State) → Holds ns ρ x → Cells ρ (inputs ns) (cells_n ns) (cells_nc ns) x.leafs x.cursor (cell_end 0 ns) (slot_end 0 ns)
cells_of ns ρ x h = record { leaf = leaf_held ns ρ x h; cursor = h.cursor }

pub record Sized (ns : List Flat) (ρ : ℕ → ℕ) (τ : Tables) (ε : ℕ) (le : Under τ ρ ε) (B D : ℕ) : Type 0 where
  pub ops : Fine (inputs ns) ρ τ ε le D (build pairs ns).running.ops
  pub outs : All (NodeReachLow τ ε B) (build pairs ns).pass.outs
  pub running : All (Low τ (B + (1 + ε))) (build pairs ns).running.items

module _ (ns : List Flat) (small : length ns ≤ 128) (x : State) (ε Y B D : ℕ) (cursors : (c : ℕ) → c < cell_end 0 ns → x.cursor c + 4 + 3 * ε ≤ Y) (four : 4 + 3 * ε ≤ Y)
    (fitY : Y ≤ B) (fitB : (Y + 2 + 2 * ε) * length ns ≤ B) (roomy : 128 + ε * (128 * 128) ≤ B) (fitD : B + 3 + 3 * ε ≤ D) where
  sat_fine : (ρ ρ' : ℕ → ℕ) (τ : Tables) (le : Under τ ρ ε) → Holds ns ρ x → Holds ns ρ' (x' 128)
      → Sat (inputs ns) ρ (build pairs ns).running.ops → Sat (inputs ns) ρ' (build pairs ns).running.ops → Sized ns ρ τ ε le B D
  unfolding build
  sat_fine ρ ρ' τ le h h' s s' =
      let opsAt = inputs ns in
      let cursorsAt = cells_n ns in
      let leaves_at = cells_nc ns in
      let C = cell_end 0 ns in
      let L = slot_end 0 ns in
      let u = up pairs opsAt cursorsAt leaves_at 0 0 ns in
      let d = down pairs opsAt cursorsAt 0 0 u.arbitrations (root pairs ∷ []) u.ops in
      let gd = down_grows opsAt cursorsAt 0 0 u.arbitrations (root pairs ∷ []) u.ops in
      let gf = flags_grows opsAt cursorsAt d.outs d.ops in
      let s₂ : Sat opsAt ρ d.ops = back opsAt ρ gf s in
      let s₁ : Sat opsAt ρ u.ops = back opsAt ρ gd s₂ in
      let s₁' : Sat opsAt ρ' u.ops = back opsAt ρ' gd (back opsAt ρ' gf s') in
      let cs = cells_of ns ρ x h in
      let cs' = cells_of ns ρ' (x' 128) h' in
      let hu : UpIs ρ u (woulds x.leafs x.cursor 0 0 ns) = up_is ρ opsAt cursorsAt leaves_at x.leafs x.cursor C L cs 0 0 ns (omega arith) (omega arith) s₁ in
      let lu = up_low opsAt ρ τ ε le B Y cursorsAt leaves_at C L 128 x.leafs x.cursor cs cursors four roomy
      ρ' (x' 128).leafs (x' 128).cursor cs' (λ s. refl) (λ c l. omega arith) 0 0 ns (omega arith) (omega arith) small fitB s₁ s₁' in
      let k = would_nodes x.leafs x.cursor 0 0 0 ns in
      let hr : EntryIs ρ (root pairs) (record { ticked = true; called = false }) = record { reached = constant_val ρ 1; called = constant_val ρ 0 } in
      let lr : EntryLow τ ε B (root pairs) = record { reached = low_up τ 1 B (constant 1) (constant_low τ 1) (omega arith); called = low_up τ 0 (B + 2 + 2 * ε) (constant 0) (constant_low τ 0) (omega arith) } in
      let hd = down_is opsAt cursorsAt ρ x.flag x.cursor (length ns) C h.flag h.cursor 0 0 u.ops (omega (arith, k.0)) (omega (arith, k.1)) hu.arbitrations (both hr none) s₂ in
      let ld = down_low opsAt ρ τ ε le cursorsAt B D fitD (omega arith) x.flag x.cursor (length ns) C h.flag h.cursor (λ c l. omega (arith, cursors c l)) 0 0 u.ops
      (omega (arith, k.0)) (omega (arith, k.1)) hu.arbitrations (both hr none) lu.arbitrations (lr, tt) (fine_up opsAt ρ τ ε le B D u.ops (omega arith) lu.fine) s₂ in
      let lf = flags_low opsAt ρ τ ε le cursorsAt B D fitD (omega arith) d.ops hd.outs ld.1 ld.0 s in
      record { ops = lf.0; outs = ld.1; running = lf.1 }

  pub circuit_sized : (ρ : ℕ → ℕ) → Holds ns ρ x → Sat (inputs ns) ρ (build pairs ns).running.ops → (τ : Tables) (le : Under τ ρ ε) → Sized ns ρ τ ε le B D
  circuit_sized ρ h s τ le =
      sat_fine ρ (eval (inputs ns) (ι' 128 ns) (build pairs ns).running.ops) τ le h (eval_holds ns (ι' 128 ns) (x' 128) (held' 128 ns)) s
      (eval_sat (inputs ns) (ι' 128 ns) (build pairs ns).running.ops (circuit_made ns).wf)

-- a satisfied table that holds a state with cursors up to 65,535: at every table below it, and so in every running sum
pub below_under : (ρ : ℕ → ℕ) → Under (Below ρ) ρ 0
below_under ρ τ c w = omega (arith, c w)

pub circuit_fine : (ns : List Flat) → length ns ≤ 128 → (x : State) → ((c : ℕ) → c < cell_end 0 ns → x.cursor c ≤ 65535) → (ρ : ℕ → ℕ) → Holds ns ρ x
    → Sat (inputs ns) ρ (build pairs ns).running.ops → Sized ns ρ (Below ρ) 0 (below_under ρ) 8389248 8389251
circuit_fine ns few x cursors ρ h s =
    circuit_sized ns few x 0 65539 8389248 8389251 (λ c l. omega (arith, cursors c l)) (omega arith) (omega arith) (omega arith) (omega arith) (omega arith) ρ h s (Below ρ) (below_under ρ)

-- and at every table of zeros and ones, whatever the circuit makes of its inputs
pub bits_under : (ρ : ℕ → ℕ) → Under Bits ρ 1
bits_under ρ τ c w = omega (arith, c w)

abbrev pub blank : List Flat → ℕ → ℕ
blank ns = eval (inputs ns) (ι' 0 ns) (build pairs ns).running.ops

pub circuit_small : (ns : List Flat) → length ns ≤ 128 → Sized ns (blank ns) Bits 1 (bits_under (blank ns)) 16512 16518
circuit_small ns few =
    circuit_sized ns few (x' 0) 1 7 16512 16518 (λ c l. omega arith) (omega arith) (omega arith) (omega arith) (omega arith) (omega arith)
    (blank ns) (eval_holds ns (ι' 0 ns) (x' 0) (held' 0 ns)) (eval_sat (inputs ns) (ι' 0 ns) (build pairs ns).running.ops (circuit_made ns).wf) Bits (bits_under (blank ns))

-- the tables that hold the two blank states, every cursor 0 and every cursor past every child
abbrev pub full : List Flat → ℕ → ℕ
full ns = eval (inputs ns) (ι' 128 ns) (build pairs ns).running.ops

pub blank_sat : (ns : List Flat) → Sat (inputs ns) (blank ns) (build pairs ns).running.ops × Sat (inputs ns) (full ns) (build pairs ns).running.ops
blank_sat ns = (
  eval_sat (inputs ns) (ι' 0 ns) (build pairs ns).running.ops (circuit_made ns).wf,
  eval_sat (inputs ns) (ι' 128 ns) (build pairs ns).running.ops (circuit_made ns).wf,
)

-- every stack that the bottom-up pass comes to
module _ (ns : List Flat) where
  pub suffix_low : (s c : ℕ) (ms : List Flat) → slot_end s ms ≤ slot_end 0 ns → cell_end c ms ≤ cell_end 0 ns → length ms ≤ 128
      → Sat (inputs ns) (blank ns) (up pairs (inputs ns) (cells_n ns) (cells_nc ns) s c ms).ops → Sat (inputs ns) (full ns) (up pairs (inputs ns) (cells_n ns) (cells_nc ns) s c ms).ops
      → UpLow (inputs ns) (blank ns) Bits 1 (bits_under (blank ns)) 16512 7 (11 * length ms) (up pairs (inputs ns) (cells_n ns) (cells_nc ns) s c ms) (woulds (x' 0).leafs (x' 0).cursor s c ms)
  suffix_low s c ms l k m t t' =
      up_low (inputs ns) (blank ns) Bits 1 (bits_under (blank ns)) 16512 7 (cells_n ns) (cells_nc ns) (cell_end 0 ns) (slot_end 0 ns) 128 (x' 0).leafs (x' 0).cursor
      (cells_of ns (blank ns) (x' 0) (eval_holds ns (ι' 0 ns) (x' 0) (held' 0 ns))) (λ c l. omega arith) (omega arith) (omega arith)
      (full ns) (x' 128).leafs (x' 128).cursor (cells_of ns (full ns) (x' 128) (eval_holds ns (ι' 128 ns) (x' 128) (held' 128 ns))) (λ s. refl) (λ c l. omega arith)
      s c ms l k m (omega arith) t t'
