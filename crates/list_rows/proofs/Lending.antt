-- The rest of a buffer, lent and given back.
use Rattle.std.proofs.Common.{◌≡◌, ℕ, ◌-◌, ◌≤◌, List, ◌++◌, length, take, drop, ap, ◌∙◌, append-nil, length-drop, length-take-le, drop_at, arith}
use Rattle.std.proofs.lemmas.List.{drop_all}
use borrow.Rule.Slice.PartMut.{put_mid}

pub rest_back : (at : ℕ) (xs ys : List ℕ) → at ≤ length xs → drop at (put_mid at (length xs - at) xs ys) ≡ ys
rest_back at xs ys h =
    drop_at (take at xs) (ys ++ drop (length xs - at) (drop at xs)) at (length-take-le at xs h)
    ∙ ap (λ (l : List ℕ). ys ++ l) (drop_all (length xs - at) (drop at xs) (omega (arith, length-drop at xs)))
    ∙ append-nil ys
