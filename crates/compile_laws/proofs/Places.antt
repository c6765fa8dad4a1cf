-- Where each form of a list lies, if the terms of all of them stand one form after the other.
use mathlib.Core.Path.{◌≡◌, refl, sym, ◌∙◌, ap}
use mathlib.Core.List.{List, [], ◌∷◌, ◌++◌, append_assoc}
use Prim.Native.Nat.{ℕ, zero, suc, ◌+◌, ◌*◌, ◌≤◌, ◌<◌}
use native.Mathlib.Omega.{arith}
use lib.ListN.{length, get_or, take, drop, length-append}
use lib.Seq.{take_at, drop_at}
use lib.Ieee.{nan}
use Rattle.wire.specs.declared.Term.{Term}
use Rattle.wire.specs.Terms.{Affine}
use Rattle.wire.specs.Storage.{reglu_kind}
use Rattle.construct.specs.Builder.{Op}
use Rattle.construct.specs.Circuit.{op_forms}
use Rattle.compile.specs.Encode.{size, terms_of_all, ranges, op_nums}

-- what is read past the end of a list
abbrev pub no_form : Affine
no_form = record { bias = nan; terms = [] }

abbrev pub no_op : Op Affine
no_op = record { left = no_form; gate = no_form }

-- where form k of a list begins, the first at p
unfoldable pub start_of : ℕ → List Affine → ℕ → ℕ
start_of p [] k = p
start_of p (x ∷ xs) zero = p
start_of p (x ∷ xs) (suc k) = start_of (p + size x) xs k

-- ---- the numbers of ranges and ops

pub record RangeAt (p : ℕ) (xs : List Affine) (k : ℕ) : Type 0 where
  pub first : get_or (ranges p xs) (2 * k) 0 ≡ start_of p xs k
  pub len : get_or (ranges p xs) (2 * k + 1) 0 ≡ size (get_or xs k no_form)

pub range_at : (p : ℕ) (xs : List Affine) (k : ℕ) → k < length xs → RangeAt p xs k
unfolding ranges start_of
range_at p [] k h = absurd (omega arith)
range_at p (x ∷ xs) zero h = record { first = refl; len = refl }
range_at p (x ∷ xs) (suc k) h =
    let r = range_at (p + size x) xs k (omega arith) in
    let e : 2 * suc k ≡ suc (suc (2 * k)) = omega arith in
    let f : 2 * suc k + 1 ≡ suc (suc (2 * k + 1)) = omega arith in
    record {
      first = ap (λ (j : ℕ). get_or (ranges p (x ∷ xs)) j 0) e ∙ r.first;
      len = ap (λ (j : ℕ). get_or (ranges p (x ∷ xs)) j 0) f ∙ r.len;
    }

pub ranges_length : (p : ℕ) (xs : List Affine) → length (ranges p xs) ≡ 2 * length xs
unfolding ranges
ranges_length p [] = refl
ranges_length p (x ∷ xs) = omega (arith, ranges_length (p + size x) xs)

pub record OpNumsAt (p : ℕ) (os : List (Op Affine)) (k : ℕ) : Type 0 where
  pub kind : get_or (op_nums p os) (5 * k) 0 ≡ reglu_kind
  pub left_first : get_or (op_nums p os) (5 * k + 1) 0 ≡ start_of p (op_forms os) (2 * k)
  pub left_len : get_or (op_nums p os) (5 * k + 2) 0 ≡ size (get_or os k no_op).left
  pub gate_first : get_or (op_nums p os) (5 * k + 3) 0 ≡ start_of p (op_forms os) (2 * k + 1)
  pub gate_len : get_or (op_nums p os) (5 * k + 4) 0 ≡ size (get_or os k no_op).gate

pub op_nums_at : (p : ℕ) (os : List (Op Affine)) (k : ℕ) → k < length os → OpNumsAt p os k
unfolding op_nums op_forms start_of
op_nums_at p [] k h = absurd (omega arith)
op_nums_at p (o ∷ os) zero h = record { kind = refl; left_first = refl; left_len = refl; gate_first = refl; gate_len = refl }
op_nums_at p (o ∷ os) (suc k) h =
    let r = op_nums_at (p + size o.left + size o.gate) os k (omega arith) in
    let at : ℕ → ℕ = λ (j : ℕ). get_or (op_nums p (o ∷ os)) j 0 in
    let from : ℕ → ℕ = λ (j : ℕ). start_of p (op_forms (o ∷ os)) j in
    let e0 : 5 * suc k ≡ suc (suc (suc (suc (suc (5 * k))))) = omega arith in
    let e1 : 5 * suc k + 1 ≡ suc (suc (suc (suc (suc (5 * k + 1))))) = omega arith in
    let e2 : 5 * suc k + 2 ≡ suc (suc (suc (suc (suc (5 * k + 2))))) = omega arith in
    let e3 : 5 * suc k + 3 ≡ suc (suc (suc (suc (suc (5 * k + 3))))) = omega arith in
    let e4 : 5 * suc k + 4 ≡ suc (suc (suc (suc (suc (5 * k + 4))))) = omega arith in
    let f0 : 2 * suc k ≡ suc (suc (2 * k)) = omega arith in
    let f1 : 2 * suc k + 1 ≡ suc (suc (2 * k + 1)) = omega arith in
    record {
      kind = ap at e0 ∙ r.kind;
      left_first = ap at e1 ∙ r.left_first ∙ sym (ap from f0);
      left_len = ap at e2 ∙ r.left_len;
      gate_first = ap at e3 ∙ r.gate_first ∙ sym (ap from f1);
      gate_len = ap at e4 ∙ r.gate_len;
    }

pub op_nums_length : (p : ℕ) (os : List (Op Affine)) → length (op_nums p os) ≡ 5 * length os
unfolding op_nums
op_nums_length p [] = refl
op_nums_length p (o ∷ os) = omega (arith, op_nums_length (p + size o.left + size o.gate) os)

pub op_forms_length : {F : Type 0} (os : List (Op F)) → length (op_forms os) ≡ 2 * length os
unfolding op_forms
op_forms_length [] = refl
op_forms_length (o ∷ os) = omega (arith, op_forms_length os)

-- the forms of op k
pub op_forms_at : (os : List (Op Affine)) (k : ℕ) → k < length os
    → (get_or (op_forms os) (2 * k) no_form ≡ (get_or os k no_op).left) × (get_or (op_forms os) (2 * k + 1) no_form ≡ (get_or os k no_op).gate)
unfolding op_forms
op_forms_at [] k h = absurd (omega arith)
op_forms_at (o ∷ os) zero h = (refl, refl)
op_forms_at (o ∷ os) (suc k) h =
    let r = op_forms_at os k (omega arith) in
    let at : ℕ → Affine = λ (j : ℕ). get_or (op_forms (o ∷ os)) j no_form in
    let f0 : 2 * suc k ≡ suc (suc (2 * k)) = omega arith in
    let f1 : 2 * suc k + 1 ≡ suc (suc (2 * k + 1)) = omega arith in
    (ap at f0 ∙ r.0, ap at f1 ∙ r.1)

-- ---- the terms

pub terms_append : (xs ys : List Affine) → terms_of_all (xs ++ ys) ≡ terms_of_all xs ++ terms_of_all ys
unfolding terms_of_all
terms_append [] ys = refl
terms_append (x ∷ xs) ys = ap (λ (l : List Term). x.terms ++ l) (terms_append xs ys) ∙ sym (append_assoc x.terms (terms_of_all xs) (terms_of_all ys))

-- form k lies among the terms of all
pub start_inside : (p : ℕ) (xs : List Affine) (k : ℕ) → k < length xs → start_of p xs k + size (get_or xs k no_form) ≤ p + length (terms_of_all xs)
unfolding start_of terms_of_all
start_inside p [] k h = absurd (omega arith)
start_inside p (x ∷ xs) zero h = simp length-append (omega arith)
start_inside p (x ∷ xs) (suc k) h = simp length-append (omega (arith, start_inside (p + size x) xs k (omega arith)))

-- and its part of them is its terms
pub terms_at : (pre : List Term) (xs : List Affine) (post : List Term) (k p : ℕ) → length pre ≡ p → k < length xs
    → take (size (get_or xs k no_form)) (drop (start_of p xs k) (pre ++ (terms_of_all xs ++ post))) ≡ (get_or xs k no_form).terms
unfolding start_of terms_of_all
terms_at pre [] post k p e h = absurd (omega arith)
terms_at pre (x ∷ xs) post zero p e h =
    ap (take (size x)) (drop_at pre ((x.terms ++ terms_of_all xs) ++ post) p e ∙ append_assoc x.terms (terms_of_all xs) post)
    ∙ take_at x.terms (terms_of_all xs ++ post) (size x) refl
terms_at pre (x ∷ xs) post (suc k) p e h =
    let m = size (get_or xs k no_form) in
    let q : pre ++ ((x.terms ++ terms_of_all xs) ++ post) ≡ (pre ++ x.terms) ++ (terms_of_all xs ++ post)
    = ap (λ (l : List Term). pre ++ l) (append_assoc x.terms (terms_of_all xs) post) ∙ sym (append_assoc pre x.terms (terms_of_all xs ++ post)) in
    ap (λ (l : List Term). take m (drop (start_of (p + size x) xs k) l)) q
    ∙ terms_at (pre ++ x.terms) xs post k (p + size x) (length-append pre x.terms ∙ ap (λ (n : ℕ). n + size x) e) (omega arith)
