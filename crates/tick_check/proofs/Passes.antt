-- The passes of the check together decide what the check form by form does.
use mathlib.Core.Path.{◌≡◌, refl, sym, ap, ◌∙◌}
use mathlib.Core.List.{List}
use mathlib.Core.Bool.{Bool, ◌&&◌}
use Prim.Native.Nat.{ℕ, zero, suc, ◌+◌, ◌*◌}
use native.Mathlib.Omega.{arith}
use lib.ListN.{get_or}
use lib.Dec.{ltb, leb}
use lib.Ieee.{Float, nan}
use Rattle.exact.specs.Tests.{small}
use Rattle.lists.specs.All.{all}
use Rattle.wire.specs.declared.Counts.{Counts}
use Rattle.wire.specs.Storage.{form_at, ops_from, outputs_from, op_biases_from, output_count}
use Rattle.tick_check.specs.Check.{Stored, kind_known, reads_below, rises_below}
use Rattle.tick_check.specs.Parts.{form_ok, op_fine, out_ok, coefs_ok, biases_ok, floats_ok, range_ok, op_ranges, ops_range, outs_range, lists_ok, contents_ok}
use Rattle.tick_check.proofs.All.{all_and}
use Rattle.tick_check.proofs.Whole.{assoc}

-- two biases an op, in one row
twice : (biases : List Float) (from n : ℕ)
    → all (λ i. small (get_or biases (from + 2 * i) nan) && small (get_or biases (from + 2 * i + 1) nan)) n ≡ biases_ok biases from (2 * n)
unfolding biases_ok all
twice biases from zero = refl
twice biases from (suc n) =
    let q : 2 * suc n ≡ suc (suc (2 * n)) = omega arith in
    let r : from + 2 * n + 1 ≡ from + suc (2 * n) = omega arith in
    (λ j. twice biases from n j && (small (get_or biases (from + 2 * n) nan) && small (get_or biases (r j) nan)))
    ∙ and_both (biases_ok biases from (2 * n)) _ _
    ∙ sym (ap (λ (k : ℕ). biases_ok biases from k) q)
  where
    and_both : (a b c : Bool) → a && (b && c) ≡ (a && b) && c
    and_both a b c = grind arith

from_nought : (biases : List Float) (n : ℕ) → all (λ k. small (get_or biases k nan)) n ≡ biases_ok biases 0 n
unfolding biases_ok
from_nought biases n = λ j. all (λ k. let q : k ≡ 0 + k = omega arith in small (get_or biases (q j) nan)) n

past : (k w b x y : Bool) → k && ((w && b) && (x && y)) ≡ (k && (w && x)) && (b && y)
past k w b x y = grind arith

shuffle : (c r p q o l : Bool) → c && ((r && p) && ((q && o) && l)) ≡ (c && (o && p)) && (r && (q && l))
shuffle c r p q o l = grind arith

module _ (s : Stored) where
  abbrev n : Counts
  n = s.counts

  -- what is asked of the range at an index of nums, and of the bias at one of biases
  abbrev range : ℕ → ℕ → Bool
  range limit at = range_ok s.wires n.terms limit s.nums at

  abbrev fine : ℕ → Bool
  fine bias = small (get_or s.biases bias nan)

  -- everything that is asked of a form
  form_is : (limit at bias : ℕ) → form_ok s.wires n.terms limit (form_at s.nums s.biases at bias) ≡ range limit at && fine bias
  unfolding form_ok range_ok reads_below rises_below
  form_is limit at bias =
      let first = get_or s.nums at 0 in
      let len = get_or s.nums (at + 1) 0 in
      assoc (leb (first + len) n.terms) (all (λ i. ltb (get_or s.wires (first + i) 0) limit) len) _ (fine bias)

  ops_are : all (op_fine s) n.ops ≡ ops_range n s.nums s.wires && biases_ok s.biases op_biases_from (2 * n.ops)
  unfolding op_fine ops_range op_ranges
  ops_are =
      (λ j. all (λ i. kind_known s.nums i && (form_is (n.cells + i) (ops_from + 5 * i + 1) (op_biases_from + 2 * i) j
      && form_is (n.cells + i) (ops_from + 5 * i + 3) (op_biases_from + 2 * i + 1) j)) n.ops)
      ∙ (λ j. all (λ i. past (kind_known s.nums i) (range (n.cells + i) (ops_from + 5 * i + 1)) (fine (op_biases_from + 2 * i))
      (range (n.cells + i) (ops_from + 5 * i + 3)) (fine (op_biases_from + 2 * i + 1)) j) n.ops)
      ∙ all_and (λ i. op_ranges s.wires n.terms (n.cells + i) s.nums (ops_from + 5 * i))
      (λ i. fine (op_biases_from + 2 * i) && fine (op_biases_from + 2 * i + 1)) n.ops
      ∙ ap (λ (t : Bool). ops_range n s.nums s.wires && t) (twice s.biases op_biases_from n.ops)

  outs_are : all (out_ok s) (output_count n) ≡ outs_range n s.nums s.wires && biases_ok s.biases 0 (output_count n)
  unfolding out_ok outs_range biases_ok
  outs_are =
      (λ j. all (λ k. form_is (n.cells + n.ops) (outputs_from + 2 * k) k j) (output_count n))
      ∙ all_and (λ k. range (n.cells + n.ops) (outputs_from + 2 * k)) fine (output_count n)
      ∙ ap (λ (t : Bool). outs_range n s.nums s.wires && t) (from_nought s.biases (output_count n))

  pub passes_are : contents_ok s
      ≡ floats_ok n s.biases s.coefs && (ops_range n s.nums s.wires && (outs_range n s.nums s.wires && lists_ok n s.nums))
  unfolding contents_ok floats_ok
  passes_are =
      (λ j. coefs_ok s.coefs n.terms && (ops_are j && (outs_are j && lists_ok n s.nums)))
      ∙ shuffle (coefs_ok s.coefs n.terms) (ops_range n s.nums s.wires) (biases_ok s.biases op_biases_from (2 * n.ops))
      (outs_range n s.nums s.wires) (biases_ok s.biases 0 (output_count n)) (lists_ok n s.nums)
