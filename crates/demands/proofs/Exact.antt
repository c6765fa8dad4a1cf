-- Every running sum of a tick on what compile leaves is the sum in whole numbers, and so is every op's value.
use mathlib.Core.Path.{◌≡◌, refl, sym, ◌∙◌, ap, subst}
use mathlib.Core.List.{List, [], ◌∷◌, ◌++◌}
use Prim.Native.Nat.{ℕ, suc, ◌+◌, ◌-◌, ◌*◌, ◌≤◌, ◌<◌}
use native.Mathlib.Omega.{arith}
use lib.ListN.{length, get_or, take}
use lib.Seq.{take-length, get_or-take}
use lib.Ieee.{Float, nan, binary32, add, mul}
use Rattle.exact.specs.Whole.{diff}
use Rattle.exact.proofs.Whole.{diff_same}
use Rattle.tree.specs.Forest.{Forest, preorder, counts}
use Rattle.tree.specs.Bytes as limits
use Rattle.wire.specs.declared.Counts.{Counts}
use Rattle.wire.specs.Terms.{Affine, added, value_in}
use Rattle.wire.specs.Storage as W
use Rattle.lists.proofs.Sets.{map_at}
use Rattle.lists.specs.Every.{All}
use Rattle.construct.specs.Circuit.{Circuit, op_forms, output_forms}
use Rattle.construct.specs.Pairs.{Form, Op, Term}
use Rattle.construct.specs.Scope as scope
use Rattle.construct.specs.Value as nat
use Rattle.construct_floats.specs.Floats.{number}
use Rattle.construct_means.specs.Means as means
use Rattle.construct_sizes.specs.Exact as sizes
use Rattle.construct_instances.proofs.Respects.{of_op}
use Rattle.construct_faithful.proofs.Float.{float, float_terms}
use Rattle.construct_faithful.proofs.Tree.{all_first}
use Rattle.tick_check.specs.Check.{Stored}
use Rattle.tick_lane.specs.Evaluate as E
use Rattle.tick_lane.specs.Lane.{Lent}
use Rattle.compile.specs.Compile as compile
use Rattle.compile_laws.proofs.Encoded.{op_in}
use Rattle.compile_laws.proofs.Compiles.{tree_circuit, stored_of, Slots}
use Rattle.compile_laws.proofs.Back as back
use Rattle.compile_laws.proofs.Images.{all_get_d, all_second, op_all}
use Rattle.compile_laws.proofs.Passes.{z_form, z_op, F, ops_same, op_image, outs_length, out_image}
use Rattle.tick_laws.proofs.Outs as outs
use Rattle.demands.specs.Demands.{ValidRow, Ready, Is, IsBelow, Adds, Exact, OpExact, DropsNothing}
use Rattle.demands.proofs.Once.{given}

module _ (f : Forest ℕ) (w : limits.Within f) (l : compile.Lent) (slots : Slots l (tree_circuit f))
    (row : List ℕ) (m : Lent) (valid : ValidRow f row) (ready : Ready f (stored_of l f).counts m) where
  abbrev s : Stored
  s = stored_of l f

  abbrev n : Counts
  n = s.counts

  abbrev d : Circuit Form
  d = means.circuit_of f

  abbrev table : List Float
  table = E.table_of s row m.flags m.cursors m.values

  -- the same table in whole numbers
  abbrev whole : List ℕ
  whole = outs.whole f w l slots m.flags m.cursors row m.values (given f w l slots row m valid ready) ready.room.values

  abbrev ρ : ℕ → ℕ
  ρ = nat.cell whole

  abbrev Fine : Form → Type 0
  Fine = outs.Fine f w l slots m.flags m.cursors row m.values (given f w l slots row m valid ready) ready.room.values

  fine : All Fine (op_forms d.ops ++ (output_forms d.outputs ++ d.cursors))
  fine = outs.forms_fine f w l slots m.flags m.cursors row m.values (given f w l slots row m valid ready) ready.room.values

  low : (k : ℕ) → ρ k ≤ 16777216
  low = outs.whole_small f w l slots m.flags m.cursors row m.values (given f w l slots row m valid ready) ready.room.values

  value_at : (k : ℕ) → k < n.cells + n.ops → Is (get_or table k nan) (ρ k) 0
  value_at k h =
      let v = given f w l slots row m valid ready in
      let long = outs.whole_length f w l slots m.flags m.cursors row m.values v ready.room.values in
      let same = outs.table_is f w l slots m.flags m.cursors row m.values v ready.room.values in (
        sym (get_or-take (n.cells + n.ops) table k nan h) ∙ ap (λ (t : List Float). get_or t k nan) same
            ∙ map_at (λ (v : ℕ). number v) whole k nan 0 (omega (arith, long)),
        (omega (arith, low k), omega arith),
      )

  below : {x : Float} (p q : ℕ) → (p + 0 ≤ q + 0 + 16777215) × (q + 0 ≤ p + 0 + 16777215) → x ≡ diff binary32 (p + 0) (q + 0) → IsBelow x p q
  below p q b e = (e ∙ diff_same binary32 (p + 0) (q + 0) p q (omega arith), omega (arith, b.0), omega (arith, b.1))

  -- the running sums of the terms ts from p - q on, of which `runs` says what f32 makes and `small` how large they are
  adds : (x : Float) (p q b : ℕ) (ts : List Term) → scope.Within b (n.cells + n.ops) ts → sizes.Coefs 65536 ts → sizes.Products ρ 16777216 ts
      → (small : (i : ℕ) → let P = p + nat.sum_p ρ (take i ts) in let N = q + nat.sum_n ρ (take i ts) in (P ≤ N + 16777215) × (N ≤ P + 16777215))
      → (runs : (i : ℕ) → added table (take i (float_terms ts)) x ≡ diff binary32 (p + nat.sum_p ρ (take i ts)) (q + nat.sum_n ρ (take i ts)))
      → Adds table x p q (float_terms ts)
  unfolding Adds added nat.sum_p nat.sum_n
  adds x p q b [] r c o small runs = below p q (small 0) (runs 0)
  adds x p q b (t ∷ ts) r c o small runs =
      let a = t.cp in
      let b = t.cn in
      let v = ρ t.wire in
      let next = add binary32 x (mul binary32 (diff binary32 a b) (get_or table t.wire nan)) in (
        below p q (small 0) (runs 0),
        (
          a,
          b,
          v,
          (refl, (omega (arith, c.0.0), omega (arith, c.0.1))),
          value_at t.wire r.1,
          (omega (arith, o.0.0), omega (arith, o.0.1)),
          adds next (p + a * v) (q + b * v) (suc t.wire) ts r.3 c.1 o.1
              (λ i. let h = small (suc i) in (omega (arith, h.0), omega (arith, h.1)))
              (λ i. runs (suc i) ∙ diff_same binary32 (p + (a * v + nat.sum_p ρ (take i ts))) (q + (b * v + nat.sum_n ρ (take i ts))) _ _ (omega arith)),
        ),
      )

  form_exact : (g : Form) → Fine g → Exact table (float g)
  unfolding float
  form_exact g h =
      let runs = outs.runs_to f w l slots m.flags m.cursors row m.values (given f w l slots row m valid ready) ready.room.values g h in
      (g.bp, g.bn, adds (diff binary32 g.bp g.bn) g.bp g.bn 0 g.terms h.reads h.small.2 h.products h.sums runs)

  -- ---- ops

  module _ (k : ℕ) (h : k < n.ops) where
    abbrev o : Op
    o = get_or d.ops k z_op

    inside : k < length d.ops
    inside = omega (arith, ops_same f w l slots)

    o_fine : Fine o.left × Fine o.gate
    o_fine = op_all Fine d.ops k z_op (all_first Fine (op_forms d.ops) (output_forms d.outputs ++ d.cursors) fine) inside

    o_exact : sizes.OpExact ρ o
    o_exact =
        let v = given f w l slots row m valid ready in
        all_get_d (sizes.OpExact ρ) d.ops k z_op (outs.ops_exact f w l slots m.flags m.cursors row m.values v ready.room.values) inside

    -- a form's value, whole
    worth : (g : Form) → Fine g → Is (value_in table (float g)) (nat.P ρ g) (nat.N ρ g)
    unfolding nat.P nat.N
    worth g fg =
        let v = given f w l slots row m valid ready in
        let last = fg.sums (length g.terms) in
        let all = take-length g.terms in
        let b = rw all at last in
        (outs.value_of f w l slots m.flags m.cursors row m.values v ready.room.values g fg, (omega (arith, b.0), omega (arith, b.1)))

    op_holds : OpExact table (get_or table (n.cells + k) nan) (op_in (of_op float o))
    unfolding nat.op_val
    op_holds =
        let v = given f w l slots row m valid ready in
        let left = nat.P ρ o.left - nat.N ρ o.left in
        let here = outs.op_worth f w l slots m.flags m.cursors row m.values v ready.room.values k h in
        let lw = worth o.left o_fine.0 in
        let gw = worth o.gate o_fine.1 in
        let at = value_at (n.cells + k) (omega arith) in
        let pos = o_exact.left in
        let is-left : Is (value_in table (float o.left)) left 0
        = (lw.0 ∙ diff_same binary32 (nat.P ρ o.left) (nat.N ρ o.left) left 0 (omega arith), (omega (arith, lw.1.0), omega arith)) in
        let small = o_exact.value in
        let is-op : Is (get_or table (n.cells + k) nan) (left * (nat.P ρ o.gate - nat.N ρ o.gate)) 0
        = (at.0 ∙ ap (λ (x : ℕ). diff binary32 x 0) here, (omega (arith, small), omega arith)) in
        (form_exact o.left o_fine.0, form_exact o.gate o_fine.1, (left, nat.P ρ o.gate, nat.N ρ o.gate, is-left, gw, is-op))

  pub drops_nothing : DropsNothing s table
  drops_nothing =
      let p = compile.lists_of (preorder f) (counts f) in
      let gs = output_forms d.outputs ++ d.cursors in
      record {
        ops =
            λ k h.
            let e = back.op_is n p (tree_circuit f) l.nums l.biases l.wires l.coefs (F f w l slots) k h ∙ ap op_in (op_image f w l slots k h) in
            subst (λ (o : W.Op). OpExact table (get_or table (n.cells + k) nan) o) (sym e) (op_holds k h);
        outputs =
            λ k h.
            let e = back.output_is n p (tree_circuit f) l.nums l.biases l.wires l.coefs (F f w l slots) k h ∙ out_image f w l slots k h in
            let b : k < length gs = omega (arith, outs_length f w l slots) in
            let h = all_get_d Fine gs k z_form (all_second Fine (op_forms d.ops) gs fine) b in
            subst (λ (x : Affine). Exact table x) (sym e) (form_exact (get_or gs k z_form) h);
      }
