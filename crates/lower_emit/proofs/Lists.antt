-- The plan's lists are written into parts of one slice.
use Prim.Native.Nat.{ℕ, suc, ◌+◌, ◌≤◌}
use native.Mathlib.Omega.{arith}
use mathlib.Core.Path.{◌≡◌, sym, ap, ◌∙◌}
use mathlib.Core.List.{List, [], ◌∷◌, ◌++◌}
use borrow.Rule.Slice.PartMut.{mid_of, post_of, put_mid, put_same}
use lib.Dec.{eqb}
use lib.ListN.{length, take, drop, set, length-take}
use lib.Seq.{sets, take-set-le, take-set-lt, drop-set-lt, drop-set-add}
use Rattle.plan.specs.Plan.{nodes_in, either_kind, leaves_of, cursors_of, report_of}
use Rattle.plan.proofs.Laws.{places_few, report_length}
use Rattle.lower_emit.specs.Settle.{listed_in}

-- what is stored in a part, as a store in the whole
part_sets : (vs xs : List ℕ) (a k j : ℕ) → j + length vs ≤ k → put_mid a k xs (sets (mid_of a k xs) j vs) ≡ sets xs (a + j) vs
part_sets [] xs a k j h = put_same a k xs
part_sets (v ∷ vs) xs a k j h =
    let xs' = set xs (a + j) v in
    let d : drop a xs' ≡ set (drop a xs) j v = drop-set-add a xs j v in
    let m : mid_of a k xs' ≡ set (mid_of a k xs) j v = ap (take k) d ∙ take-set-lt k (drop a xs) j v (omega arith) in
    let t : take a xs' ≡ take a xs = take-set-le a xs (a + j) v (omega arith) in
    let p : post_of a k xs' ≡ post_of a k xs = ap (drop k) d ∙ drop-set-lt k (drop a xs) j v (omega arith) in
    let q : a + suc j ≡ suc (a + j) = omega arith in
    sym (λ i. t i ++ (sets (m i) (suc j) vs ++ p i)) ∙ part_sets vs xs' a k (suc j) (omega arith) ∙ (λ i. sets xs' (q i) vs)

few : (xs : List ℕ) → length (nodes_in xs) ≤ 128
few xs = omega (arith, length-take 128 xs)

pub leaves_few : (kinds : List ℕ) → length (leaves_of kinds) ≤ 128
unfolding leaves_of
leaves_few kinds = omega (arith, places_few (λ kind. eqb kind 1) 0 (nodes_in kinds), few kinds)

pub cursors_few : (kinds : List ℕ) → length (cursors_of kinds) ≤ 128
unfolding cursors_of
cursors_few kinds = omega (arith, places_few (either_kind 4 6) 0 (nodes_in kinds), few kinds)

pub listed_made : (nums kinds counts : List ℕ) {l c r : List ℕ} → l ≡ sets (mid_of 0 128 nums) 0 (leaves_of kinds)
    → c ≡ sets (mid_of 128 128 (put_mid 0 128 nums l)) 0 (cursors_of kinds)
    → r ≡ sets (mid_of 256 128 (put_mid 128 128 (put_mid 0 128 nums l) c)) 0 (report_of counts)
    → put_mid 256 128 (put_mid 128 128 (put_mid 0 128 nums l) c) r ≡ listed_in nums kinds counts
listed_made nums kinds counts {l} {c} {r} a b d =
    let n1 : put_mid 0 128 nums l ≡ sets nums 0 (leaves_of kinds) =
    ap (put_mid 0 128 nums) a ∙ part_sets (leaves_of kinds) nums 0 128 0 (omega (arith, leaves_few kinds)) in
    let n2 : put_mid 128 128 (put_mid 0 128 nums l) c ≡ sets (sets nums 0 (leaves_of kinds)) 128 (cursors_of kinds) =
    ap (put_mid 128 128 (put_mid 0 128 nums l)) b ∙ part_sets (cursors_of kinds) (put_mid 0 128 nums l) 128 128 0 (omega (arith, cursors_few kinds))
    ∙ (λ i. sets (n1 i) 128 (cursors_of kinds)) in
    ap (put_mid 256 128 (put_mid 128 128 (put_mid 0 128 nums l) c)) d
    ∙ part_sets (report_of counts) (put_mid 128 128 (put_mid 0 128 nums l) c) 256 128 0 (omega (arith, report_length counts))
    ∙ (λ i. sets (n2 i) 256 (report_of counts))
