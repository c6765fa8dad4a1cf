-- What is written of forms that the table stands for: their ranges, biases and terms, each right past the one before.
use Prim.Native.Nat.{ℕ, suc, ◌+◌, ◌*◌}
use native.Mathlib.Numerals.{add-one}
use native.Mathlib.Omega.{arith}
use mathlib.Core.Path.{◌≡◌, refl, ◌∙◌}
use mathlib.Core.List.{List, [], ◌∷◌}
use lib.ListN.{length, set}
use lib.Seq.{sets}
use lib.Ieee.{Float}
use Rattle.wire.specs.declared.Form.{Form}
use Rattle.wire.specs.declared.Term.{Term}
use Rattle.wire.specs.Terms.{Affine}
use Rattle.wire.specs.Storage.{outputs_from, op_biases_from, reglu_kind}
use Rattle.wire.specs.Storage as S
use Rattle.arena_terms.specs.Steps.{wires_in, coefs_in, Put}
use Rattle.arena_laws.specs.Holds.{Is}
use Rattle.arena_terms.proofs.Put.{put_nil, put_then}
use Rattle.arena_laws.proofs.Holds.{is_length}
use Rattle.construct.specs.Builder.{Op}
use Rattle.construct.specs.Circuit.{op_forms}
use Rattle.compile.specs.Encode.{size, terms_of_all, ranges, op_nums, biases_of}
use Rattle.builder_table.specs.Slots.{ops_from}
use Rattle.builder_table.specs.Work.{Mem, loaded}
use Rattle.lower_emit.specs.Emit.{output_slot, Image, image, form_in, op_in, ops_in, outputs_in}
use Rattle.lower_emit_laws.proofs.Forms.{OpsFrom, FormsFrom}

-- numbers from one index on, biases from another, and terms past those written, and nothing else
pub record Written (e : Image) (at : ℕ) (ns : List ℕ) (bias : ℕ) (bs : List Float) (ts : List Term) (e' : Image) : Type 0 where
  pub nums : e'.nums ≡ sets e.nums at ns
  pub biases : e'.biases ≡ sets e.biases bias bs
  pub terms : Put e.wires e.coefs e.next ts e'.wires e'.coefs e'.next

form_written : (e : Image) {ws : List ℕ} {cs : List Float} {used : ℕ} {f : Form} {x : Affine} (at bias : ℕ) → Is ws cs used f x
    → Written e at (e.next ∷ size x ∷ []) bias (x.bias ∷ []) x.terms (form_in e ws cs f at bias)
unfolding form_in
form_written e at bias h =
    let l = is_length h in
    let q = add-one at in
    record {
      nums = λ i. set (set e.nums at e.next) (q i) (l i);
      biases = λ i. set e.biases bias (h.bias i);
      terms = record {
        wires = λ i. sets e.wires e.next (wires_in (h.terms i));
        coefs = λ i. sets e.coefs e.next (coefs_in (h.terms i));
        used = λ i. e.next + l i;
      };
    }

module _ (m : Mem) (used : ℕ) where
  pub forms_written : (nodes : ℕ) (xs : List Affine) (e : Image) (k : ℕ) → FormsFrom m used nodes k xs
      → Written e (outputs_from + 2 * k) (ranges e.next xs) k (biases_of xs) (terms_of_all xs) (outputs_in e m nodes k (length xs))
  unfolding outputs_in ranges terms_of_all
  forms_written nodes [] e k h = record { nums = refl; biases = refl; terms = put_nil e.wires e.coefs e.next }
  forms_written nodes (x ∷ xs) e k h =
      let w = form_written e (outputs_from + 2 * k) k h.0 in
      let g = form_in e m.wires m.coefs (loaded m (output_slot nodes k)) (outputs_from + 2 * k) k in
      let t = forms_written nodes xs g (k + 1) h.1 in
      let q : outputs_from + 2 * (k + 1) ≡ suc (suc (outputs_from + 2 * k)) = omega arith in
      let n = w.terms.used in
      let p = add-one k in
      record {
        nums = t.nums ∙ (λ i. sets (w.nums i) (q i) (ranges (n i) xs));
        biases = t.biases ∙ (λ i. sets (w.biases i) (p i) (biases_of xs));
        terms = put_then w.terms t.terms;
      }

  pub ops_written : (os : List (Op Affine)) (e : Image) (k : ℕ) → OpsFrom m used k os
      → Written e (S.ops_from + 5 * k) (op_nums e.next os) (op_biases_from + 2 * k) (biases_of (op_forms os)) (terms_of_all (op_forms os)) (ops_in e m k (length os))
  unfolding ops_in op_in op_nums op_forms terms_of_all
  ops_written [] e k h = record { nums = refl; biases = refl; terms = put_nil e.wires e.coefs e.next }
  ops_written (o ∷ os) e k h =
      let at : ℕ = S.ops_from + 5 * k in
      let bias : ℕ = op_biases_from + 2 * k in
      let kinded = set e.nums at reglu_kind in
      let a = image kinded e.biases e.wires e.coefs e.next in
      let left = form_in a m.wires m.coefs (loaded m (ops_from + 2 * k)) (at + 1) bias in
      let both = form_in left m.wires m.coefs (loaded m (ops_from + 2 * k + 1)) (at + 3) (bias + 1) in
      let l = form_written a (at + 1) bias h.0 in
      let g = form_written left (at + 3) (bias + 1) h.1 in
      let t = ops_written os both (k + 1) h.2 in
      let q1 : at + 1 ≡ suc at = omega arith in
      let q3 : at + 3 ≡ suc (suc (suc at)) = omega arith in
      let q5 : S.ops_from + 5 * (k + 1) ≡ suc (suc (suc (suc (suc at)))) = omega arith in
      let r1 : bias + 1 ≡ suc bias = omega arith in
      let r2 : op_biases_from + 2 * (k + 1) ≡ suc (suc bias) = omega arith in
      let sl = size o.left in
      let sg = size o.gate in
      let ln : left.nums ≡ set (set kinded (suc at) e.next) (suc (suc at)) sl = l.nums ∙ (λ i. set (set kinded (q1 i) e.next) (suc (q1 i)) sl) in
      let lx : left.next ≡ e.next + sl = l.terms.used in
      let gn : both.nums ≡ set (set (set (set kinded (suc at) e.next) (suc (suc at)) sl) (suc (suc (suc at))) (e.next + sl)) (suc (suc (suc (suc at)))) sg =
      g.nums ∙ (λ i. set (set (ln i) (q3 i) (lx i)) (suc (q3 i)) sg) in
      let gx : both.next ≡ e.next + sl + sg = g.terms.used ∙ (λ i. lx i + sg) in
      let gb : both.biases ≡ set (set e.biases bias o.left.bias) (suc bias) o.gate.bias = g.biases ∙ (λ i. set (l.biases i) (r1 i) o.gate.bias) in
      record {
        nums = t.nums ∙ (λ i. sets (gn i) (q5 i) (op_nums (gx i) os));
        biases = t.biases ∙ (λ i. sets (gb i) (r2 i) (biases_of (op_forms os)));
        terms = put_then l.terms (put_then g.terms t.terms);
      }
