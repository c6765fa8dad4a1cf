-- The number of a next cursor: of a natural number of at most 65,535 it is that number, and the code's test is the definition's.
use mathlib.Core.Path.{◌≡◌, sym, ap, ◌∙◌, subst}
use mathlib.Core.Bool.{Bool, ◌&&◌, cond}
use Prim.Native.Nat.{ℕ, ◌≤◌}
use native.Mathlib.Omega.{arith}
use lib.Dec.{T, leb, leb→le, le→leb}
use lib.Ieee.{Float, binary32, le, fits, add, in_unsigned, to_unsigned}
use lib.Ieee.Bits.{is_true}
use lib.Ieee.Fits.{and_i, and_l, and_r}
use Rattle.exact.specs.Whole.{zero32, cursor_most32}
use Rattle.exact.specs.Tests.{natural, small, whole_size, count_of}
use Rattle.exact.proofs.Whole.{same_test, cursor_most_is, diff_back}
use Rattle.exact.proofs.Tests.{Counts, Natural, counts, counts_natural, natural_is, is_natural, natural_le, natural_floor, floor_natural, whole_size_lem, plus_zero}
use Rattle.exact.proofs.Small.{small_is, small_of}

most_test : (x : Float) (n : ℕ) → Natural x n → le x cursor_most32 ≡ leb n 65535
most_test x n w = ap (le x) cursor_most_is ∙ natural_le binary32 65535 (omega arith) x n w

-- a natural number of at most 65,535, as the code asks for it and as `count_of` does
pub cursor_test : (x : Float) → small x && (le zero32 x && le x cursor_most32) ≡ natural x && le x cursor_most32
cursor_test x = same_test (small x && (le zero32 x && le x cursor_most32)) (natural x && le x cursor_most32) to from
  where
    to : T (small x && (le zero32 x && le x cursor_most32)) → T (natural x && le x cursor_most32)
    to t =
        let w = small_is x (and_l (small x) (le zero32 x && le x cursor_most32) t) in
        let r = and_r (small x) (le zero32 x && le x cursor_most32) t in
        and_i (natural x) (le x cursor_most32)
        (is_natural x w.1 (record { sign = w.0; value = w.2; nought = floor_natural x w.0 w.1 w.2 (and_l (le zero32 x) (le x cursor_most32) r) }))
        (and_r (le zero32 x) (le x cursor_most32) r)

    from : T (natural x && le x cursor_most32) → T (small x && (le zero32 x && le x cursor_most32))
    from t =
        let n = and_l (natural x) (le x cursor_most32) t in
        let l = and_r (natural x) (le x cursor_most32) t in
        let w = natural_is x n in
        let b : w.0 ≤ 65535 = leb→le w.0 65535 (subst T (most_test x w.0 w.1) l) in
        and_i (small x) (le zero32 x && le x cursor_most32) (small_of x w.1.sign w.0 w.1.value (omega arith)) (and_i (le zero32 x) (le x cursor_most32) (natural_floor x n) l)

-- a float that is such a number, by its number
pub record Cursor (x : Float) : Type 0 where
  pub number : ℕ
  pub low : number ≤ 65535
  pub is : Counts binary32 x number
  pub count : count_of x ≡ number

pub cursor_is : (x : Float) → T (fits binary32 x) → T (natural x && le x cursor_most32) → Cursor x
unfolding count_of
cursor_is x t h =
    let w = natural_is x (and_l (natural x) (le x cursor_most32) h) in
    let b : w.0 ≤ 65535 = leb→le w.0 65535 (subst T (most_test x w.0 w.1) (and_r (natural x) (le x cursor_most32) h)) in
    record {
      number = w.0;
      low = b;
      is = counts binary32 x w.0 (omega arith) t w.1;
      count = ap (λ (c : Bool). cond c (whole_size x) 65536) (is_true (natural x && le x cursor_most32) h) ∙ whole_size_lem x w.1.sign w.0 w.1.value;
    }

-- every number up to 65,535 counts itself
pub count_is : (x : Float) (n : ℕ) → n ≤ 65535 → Counts binary32 x n → count_of x ≡ n
unfolding count_of
count_is x n h c =
    let w = counts_natural binary32 x n (omega arith) c in
    ap (λ (b : Bool). cond b (whole_size x) 65536)
    (is_true (natural x && le x cursor_most32) (and_i (natural x) (le x cursor_most32) (is_natural x n w) (subst T (sym (most_test x n w)) (le→leb n 65535 h))))
    ∙ whole_size_lem x w.sign n w.value

-- the cast of such a float
pub cursor_cast : (x : Float) → Cursor x → T (in_unsigned binary32 32 (add binary32 x zero32)) × (to_unsigned 32 (add binary32 x zero32) ≡ count_of x)
cursor_cast x c =
    let n = c.number in
    let l : n ≤ 65535 = c.low in
    let b = diff_back binary32 32 n (omega arith) (omega arith) in
    subst (λ (y : Float). T (in_unsigned binary32 32 y) × (to_unsigned 32 y ≡ count_of x)) (sym (plus_zero x n (omega arith) c.is)) (b.0, b.1 ∙ sym c.count)
