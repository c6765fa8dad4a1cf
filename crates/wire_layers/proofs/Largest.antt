-- The largest that a function gives on a list, as `max` finds it, and as a loop does, of what was seen and what is left.
use mathlib.Core.Path.{◌≡◌, refl, sym, ap, ◌∙◌}
use mathlib.Core.List.{List, [], ◌∷◌, map}
use Prim.Native.Nat.{ℕ, ◌+◌, ◌≤◌, ◌<◌, max}
use native.Mathlib.Numerals.{add-one}
use lib.ListN.{length, get_or, drop, drop_of_length-le}
use lib.Seq.{drop-cons}
use native.Mathlib.Omega.{arith}
use Rattle.std.proofs.Common.{Option, unwrap_or, fold}
use Rattle.std.proofs.lemmas.Iterator.Adapters.{option_map_id}
use Rattle.std.specs.Option.{option_map}
use Rattle.std.specs.List.{reduce}
use Rattle.wire_layers.specs.Layers.{largest}

module _ (f : ℕ → ℕ) where
  fold_largest : (best : ℕ) (xs : List ℕ) → fold max best (map f xs) ≡ max best (largest f xs)
  unfolding largest
  fold_largest best [] = omega arith
  fold_largest best (x ∷ xs) = omega (arith, fold_largest (max best (f x)) xs)

  reduce_largest : (xs : List ℕ) → unwrap_or (reduce max (map f xs)) 0 ≡ largest f xs
  unfolding largest
  reduce_largest [] = refl
  reduce_largest (x ∷ xs) = fold_largest (f x) xs

  pub largest_found : (xs : List ℕ) (found : Option ℕ) → option_map (λ x. x) found ≡ reduce max (map f xs) → unwrap_or found 0 ≡ largest f xs
  largest_found xs found e = ap (λ o. unwrap_or o 0) (sym (option_map_id found) ∙ e) ∙ reduce_largest xs

module _ (f : ℕ → ℕ) (xs : List ℕ) (i best : ℕ) (inv : max best (largest f (drop i xs)) ≡ largest f xs) where
  pub largest_next : (next : ℕ) → i < length xs → next ≡ max best (f (get_or xs i 0)) → max next (largest f (drop (i + 1) xs)) ≡ largest f xs
  unfolding largest
  largest_next next h q =
      let s : largest f (drop i xs) ≡ max (f (get_or xs i 0)) (largest f (drop (i + 1) xs)) = rw (drop-cons xs i 0, add-one) in
      omega arith

  pub largest_end : length xs ≤ i → best ≡ largest f xs
  unfolding largest
  largest_end h =
      let s : largest f (drop i xs) ≡ 0 = rw (drop_of_length-le xs h) in
      omega arith
