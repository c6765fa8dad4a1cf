-- lower_ordered keeps its children, one for one.
use Prim.Native.Nat.{ℕ, suc}
use mathlib.Core.Path.{◌≡◌, refl, ap, ◌∙◌}
use mathlib.Core.Bool.{Bool, true, false}
use mathlib.Core.List.{List, [], ◌∷◌}
use lib.ListN.{length}
use Rattle.wire.specs.Terms.{Affine}
use Rattle.construct.specs.Builder.{Op}
use Rattle.construct.specs.Lower.{StatusBits, inverteds, lower_seq, lower}
use Rattle.construct_floats.specs.Floats.{floats}
use Rattle.lower_ordered_laws.proofs.Gates.{gates_count}
use Rattle.lower_ordered_laws.proofs.Clears.{clears_count}
use Rattle.lower_ordered_laws.proofs.Stops.{stops_count}

pub inverteds_count : {F : Type 0} (ts : List (StatusBits F)) → length (inverteds ts) ≡ length ts
unfolding inverteds
inverteds_count [] = refl
inverteds_count (t ∷ ts) = ap suc (inverteds_count ts)

module _ (n : ℕ) where
  seq_count : (c : Affine) (ts : List (StatusBits Affine)) (os : List (Op Affine)) → length (lower_seq floats n c ts os).kids ≡ length ts
  unfolding lower_seq
  seq_count c ts os = stops_count n _ _ _ ∙ clears_count n _ _ _ ∙ gates_count n c 0 ts os

  pub kids_count : (q : Bool) (c : Affine) (ts : List (StatusBits Affine)) (os : List (Op Affine)) → length (lower floats n q c ts os).kids ≡ length ts
  unfolding lower
  kids_count true c ts os = seq_count c ts os
  kids_count false c ts os = seq_count c (inverteds ts) os ∙ inverteds_count ts
