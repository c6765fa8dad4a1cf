-- Every form of the circuit of at most 128 nodes: coefficients and biases at most 65,536 in size, running sums below 2^24, left forms at least 0.
use Prim.Native.Nat.{◌*◌, ◌+◌, ◌-◌, ◌<◌, ◌≤◌, ℕ}
use native.Mathlib.Nat.{mul-le-mul_left, mul-le-mul_right}
use native.Mathlib.Omega.{arith}
use mathlib.Core.List.{List, [], ◌∷◌, reverse_aux}
use mathlib.Core.Logic.{◌⊎◌, inl, inr}
use lib.Ieee.{low}
use lib.ListN.{length}
use Rattle.construct.proofs.Builds.{Sat}
use Rattle.construct.proofs.Forms.{circuit_scoped, forms_have}
use Rattle.construct.proofs.Right.{Holds, State}
use Rattle.construct.specs.Circuit.{build, cell_end, construct, forms_of, inputs, op_forms}
use Rattle.construct.specs.Lower.{Flat}
use Rattle.construct.specs.Pairs.{Form, Op, Term, pairs}
use Rattle.construct.specs.Scope.{Reads}
use Rattle.construct.specs.Value.{N, P, Val, op_val}
use Rattle.construct_sizes.proofs.Bounds.{Below, Bits, Fine, Low, OpFine, Tables, Under, low_up}
use Rattle.construct_sizes.proofs.Coef.{products, small}
use Rattle.construct_sizes.proofs.Cursors.{TwoWires, cursors_two, two_below, two_small}
use Rattle.construct_sizes.proofs.DownLow.{NodeReachLow}
use Rattle.construct_sizes.proofs.Running.{sums}
use Rattle.construct_sizes.proofs.Whole.{Sized, below_under, bits_under, blank, circuit_fine, circuit_small}
use Rattle.construct_sizes.specs.Exact.{Coefs, Exact, OpExact, Products, Small}
use Rattle.lists.proofs.Every.{all_both, all_map}
use Rattle.lists.specs.Every.{All, All2, both, none}

-- every form of the circuit, from what is known of the passes' forms
module _ (opsAt : ℕ) (ρ : ℕ → ℕ) (τ : Tables) (ε : ℕ) (le : Under τ ρ ε) (B : ℕ) where
  fine_forms : (os : List Op) → Fine opsAt ρ τ ε le B os → All (Low τ B) (op_forms os)
  unfolding op_forms
  fine_forms [] h = tt
  fine_forms (o ∷ os) h = (h.0.left, (h.0.gate, fine_forms os h.1))

  sized_forms : (ns : List Flat) (A : ℕ) → A + (1 + ε) ≤ B → 1 + ε ≤ A → Fine opsAt ρ τ ε le B (build pairs ns).running.ops → All (NodeReachLow τ ε A) (build pairs ns).pass.outs
      → All (Low τ (A + (1 + ε))) (build pairs ns).running.items → All (Low τ B) (build pairs ns).pass.cursors → All (Low τ B) (forms_of (construct pairs ns))
  sized_forms ns A l o f xs rs cs =
      forms_have (Low τ B) ns (fine_forms (build pairs ns).running.ops f)
      (all_map (λ x h. (
        low_up τ A B x.raw.success h.raw.success (omega arith),
        low_up τ A B x.raw.failure h.raw.failure (omega arith),
        low_up τ A B x.raw.running h.raw.running (omega arith),
        low_up τ A B x.reached h.reached (omega arith),
        low_up τ (1 + ε) B x.halted h.halted (omega arith),
      )) (build pairs ns).pass.outs xs)
      (all_map (λ g h. low_up τ (A + (1 + ε)) B g h l) (build pairs ns).running.items rs) cs

-- an op whose left form or gate is at most 1 is worth no more than the other
op_value_lem : (ρ : ℕ → ℕ) (B : ℕ) (o : Op) → B ≤ 16777215 → OpFine 0 ρ (Below ρ) 0 (below_under ρ) B o → OpExact ρ o
unfolding op_val
op_value_lem ρ B o b h = record { left = h.pos; value = go h.one (h.left ρ (λ w. omega arith)).0 (h.gate ρ (λ w. omega arith)).0 }
  where
    go : (P ρ o.left ≤ N ρ o.left + 1) ⊎ (P ρ o.gate ≤ N ρ o.gate + 1) → P ρ o.left ≤ N ρ o.left + B → P ρ o.gate ≤ N ρ o.gate + B
        → (P ρ o.left - N ρ o.left) * (P ρ o.gate - N ρ o.gate) ≤ 16777215
    go (inl u) l g = let x : P ρ o.left - N ρ o.left ≤ 1 = omega arith in omega (arith, mul-le-mul_right (P ρ o.gate - N ρ o.gate) x)
    go (inr u) l g = let x : P ρ o.gate - N ρ o.gate ≤ 1 = omega arith in omega (arith, mul-le-mul_left (P ρ o.left - N ρ o.left) x)

ops_exact : (opsAt : ℕ) (ρ : ℕ → ℕ) (B : ℕ) (os ps : List Op) → B ≤ 16777215 → Fine opsAt ρ (Below ρ) 0 (below_under ρ) B os → All (OpExact ρ) ps → All (OpExact ρ) (reverse_aux os ps)
ops_exact opsAt ρ B [] ps b h k = k
ops_exact opsAt ρ B (o ∷ os) ps b h k = ops_exact opsAt ρ B os (o ∷ ps) b h.1 (op_value_lem ρ B o b (record { pos = h.0.pos; one = h.0.one; left = h.0.left; gate = h.0.gate }), k)

-- coefficients and biases, for at most 128 nodes
module _ (ns : List Flat) (few : length ns ≤ 128) where
  small_up : (f : Form) → Small 33036 f → Small 65536 f
  small_up f h = (omega (arith, h.0), omega (arith, h.1), go f.terms h.2)
    where
      go : (ts : List Term) → Coefs 33036 ts → Coefs 65536 ts
      go [] h = tt
      go (t ∷ ts) h = ((omega (arith, h.0.0), omega (arith, h.0.1)), go ts h.1)

  low_all : All (Low Bits 16518) (forms_of (construct pairs ns))
  low_all =
      let z = circuit_small ns few in
      sized_forms (inputs ns) (blank ns) Bits 1 (bits_under (blank ns)) 16518 ns 16512 (omega arith) (omega arith) z.ops z.outs z.running
      (all_map (λ f t. low_up Bits 2 16518 f (two_small f t) (omega arith)) (build pairs ns).pass.cursors (cursors_two ns))

  pub circuit_modest : All (Small 65536) (forms_of (construct pairs ns))
  circuit_modest =
      let n = inputs ns + length (construct pairs ns).ops in
      all_both (λ f r h. small_up f (small 16518 n f r h)) (forms_of (construct pairs ns)) (circuit_scoped ns).forms low_all

-- a satisfied table that holds a state
module _ (ns : List Flat) (few : length ns ≤ 128) (x : State) (cursors : (c : ℕ) → c < cell_end 0 ns → x.cursor c ≤ 65535)
    (ρ : ℕ → ℕ) (held : Holds ns ρ x) (sat : Sat (inputs ns) ρ (build pairs ns).running.ops) (vs : List ℕ) (vals : All2 (Val ρ) (build pairs ns).pass.cursors vs) (low : All (λ (v : ℕ). v ≤ 65535) vs) where
  cursors_fine : {fs : List Form} {us : List ℕ} → All TwoWires fs → All2 (Val ρ) fs us → All (λ (v : ℕ). v ≤ 65535) us → All (Low (Below ρ) 8389251) fs
  cursors_fine t none l = tt
  cursors_fine t (both {a = f} {b = v} h hs) l = (low_up (Below ρ) v 8389251 f (two_below ρ f v t.0 h) (omega (arith, l.0)), cursors_fine t.1 hs l.1)

  sized : Sized ns ρ (Below ρ) 0 (below_under ρ) 8389248 8389251
  sized = circuit_fine ns few x cursors ρ held sat

  below_all : All (Low (Below ρ) 8389251) (forms_of (construct pairs ns))
  below_all =
      sized_forms (inputs ns) ρ (Below ρ) 0 (below_under ρ) 8389251 ns 8389248 (omega arith) (omega arith) sized.ops sized.outs sized.running (cursors_fine (cursors_two ns) vals low)

  ops_all : All (OpExact ρ) (construct pairs ns).ops
  unfolding construct
  ops_all = ops_exact (inputs ns) ρ 8389251 (build pairs ns).running.ops [] (omega arith) sized.ops tt

  products_all : All (λ (f : Form). Products ρ 16777216 f.terms) (forms_of (construct pairs ns))
  products_all =
      let n = inputs ns + length (construct pairs ns).ops in
      all_both (λ (f : Form) (r : Reads n f × Small 65536 f) (h : Low (Below ρ) 8389251 f). products_up 8454787 f.terms (omega arith) (products ρ 8389251 65536 n f r.0 h r.1.0 r.1.1))
      (forms_of (construct pairs ns))
      (all_both (λ (f : Form) (r : Reads n f) (s : Small 65536 f). (r, s)) (forms_of (construct pairs ns)) (circuit_scoped ns).forms (circuit_modest ns few)) below_all
    where
      products_up : (C : ℕ) (ts : List Term) → C ≤ 16777216 → Products ρ C ts → Products ρ 16777216 ts
      products_up C [] l h = tt
      products_up C (t ∷ ts) l h = ((omega (arith, h.0.0), omega (arith, h.0.1)), products_up C ts l h.1)

  pub circuit_exact : Exact ρ (construct pairs ns)
  circuit_exact =
      let n = inputs ns + length (construct pairs ns).ops in
      record {
        sums = all_both (λ f r h. sums ρ 8389251 n f (omega arith) r h) (forms_of (construct pairs ns)) (circuit_scoped ns).forms below_all;
        products = products_all;
        ops = ops_all;
      }
