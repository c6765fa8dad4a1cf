-- Parts of the pools, taken apart at their first term.
use mathlib.Core.Path.{◌≡◌}
use mathlib.Core.List.{List, [], ◌∷◌}
use Prim.Native.Nat.{ℕ, suc, ◌+◌, ◌-◌, ◌≤◌, ◌<◌}
use native.Mathlib.Numerals.{add-one}
use native.Mathlib.Omega.{arith}
use lib.Ieee.{Float}
use Rattle.wire.specs.Terms.{term_at, part}
use Rattle.lists.proofs.Entries.{each_none, each_cons}

module _ (ws : List ℕ) (cs : List Float) where
  part_none : (i : ℕ) → part ws cs i 0 ≡ []
  unfolding part
  part_none i = each_none (term_at ws cs) i

  part_cons : (i n : ℕ) → part ws cs i (suc n) ≡ term_at ws cs i ∷ part ws cs (suc i) n
  unfolding part
  part_cons i n = each_cons (term_at ws cs) i n

  -- a part up to an end, taken apart at its first term
  pub part_step : (i e : ℕ) → i < e → part ws cs i (e - i) ≡ term_at ws cs i ∷ part ws cs (i + 1) (e - (i + 1))
  part_step i e h =
      let q : e - i ≡ suc (e - (i + 1)) = omega arith in
      rw (q, add-one i) (part_cons i (e - suc i))

  pub part_end : (i e : ℕ) → e ≤ i → part ws cs i (e - i) ≡ []
  part_end i e h =
      let q : e - i ≡ 0 = omega arith in
      rw q (part_none i)
