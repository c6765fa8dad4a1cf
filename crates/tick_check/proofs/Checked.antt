-- What a circuit that passes the check tells whoever reads it without a test.
use mathlib.Core.Path.{◌≡◌, sym, ◌∙◌}
use mathlib.Core.Bool.{true}
use Prim.Native.Nat.{ℕ, ◌+◌, ◌-◌, ◌≤◌, ◌<◌}
use native.Mathlib.Omega.{arith}
use borrow.Author.Tests.{ltb-true}
use lib.ListN.{length, get_or}
use lib.Dec.{ltb}
use Rattle.lists.specs.All.{all}
use Rattle.wire.specs.declared.Form.{Form}
use Rattle.wire.specs.Storage.{leaves_from, left_form, gate_form, output_form, output_count}
use Rattle.std.proofs.lemmas.Bool.Decides.{nat_tests}
use Rattle.lists.proofs.Tests.{all_at}
use Rattle.wire.proofs.Stored.{held}
use Rattle.wire.specs.Held.{Held}
use Rattle.wire_pool.specs.Values.{Readable, OpReadable}
use Rattle.tick_check.specs.Checked.{Checked}
use Rattle.tick_check.specs.Check.{Stored, counts_lent, reads_below, rises_below, circuit_ok}
use Rattle.tick_check.specs.Parts.{form_ok, op_fine, out_ok, lists_ok, contents_ok}
use Rattle.tick_check.proofs.Whole.{sizes_say, circuit_is}

module _ (s : Stored) (lent : Held s.counts (length s.nums) (length s.biases) (length s.wires) (length s.coefs)) where
  readable : (limit : ℕ) (f : Form) → form_ok s.wires s.counts.terms limit f ≡ true → Readable s.wires s.coefs limit f
  unfolding form_ok reads_below
  readable limit f e =
      let below : all (λ i. ltb (get_or s.wires (f.first + i) 0) limit) f.len ≡ true = grind arith in
      let inner : f.first + f.len ≤ s.counts.terms = grind (arith, nat_tests) in
      record {
        in_wires = omega arith;
        in_coefs = omega arith;
        reads = λ k l h.
            let q : f.first + (k - f.first) ≡ k = omega arith in
            let r = all_at (λ i. ltb (get_or s.wires (f.first + i) 0) limit) (k - f.first) f.len (omega arith) below in
            rw q at (ltb-true (get_or s.wires (f.first + (k - f.first)) 0) limit r);
      }

  op_readable : (i : ℕ) → i < s.counts.ops → op_fine s i ≡ true → OpReadable s.nums s.biases s.wires s.coefs (s.counts.cells + i) i
  unfolding op_fine
  op_readable i l e =
      let form = form_ok s.wires s.counts.terms (s.counts.cells + i) in
      let left = left_form s.nums s.biases i in
      let gate = gate_form s.nums s.biases i in
      let a : form left ≡ true = grind arith in
      let b : form gate ≡ true = grind arith in
      record {
        slot = omega arith;
        kind_low = grind (arith, nat_tests);
        kind_high = grind (arith, nat_tests);
        left = readable (s.counts.cells + i) left a;
        gate = λ q. readable (s.counts.cells + i) gate b;
      }

pub checked : (s : Stored) → circuit_ok s ≡ true → Checked s
unfolding contents_ok lists_ok out_ok rises_below
checked s e =
    let n = s.counts in
    let whole = sym (circuit_is s) ∙ e in
    let fits : counts_lent s ≡ true = grind arith in
    let lent = held n (length s.nums) (length s.biases) (length s.wires) (length s.coefs) fits in
    record {
      sizes = sizes_say n (grind arith);
      held = lent;
      ops = λ i l. op_readable s lent i l (all_at (op_fine s) i n.ops l (grind arith));
      outs = λ k l. readable s lent (n.cells + n.ops) (output_form s.nums s.biases k) (all_at (out_ok s) k (output_count n) l (grind arith));
      leaves = λ i l. ltb-true _ _ (all_at (λ k. ltb (get_or s.nums (leaves_from + k) 0) n.nodes) i n.leaves l (grind arith));
    }
