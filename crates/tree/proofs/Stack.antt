-- A stack kept in an array: its first d entries, the last on top.
use Rattle.std.proofs.Common.{◌≡◌, refl, ap, List, [], ◌∷◌, ℕ, zero, suc, ◌+◌, ◌-◌, ◌≤◌, ◌<◌, not-suc-le-zero, add-one, arith, length, get_or, set}
use Rattle.std.proofs.Common.{length-set, get_or-set_same, get_or-set_other}

abbrev pub stack_of : List ℕ → ℕ → List ℕ
stack_of a zero = []
stack_of a (suc d) = get_or a d 0 ∷ stack_of a d

pub stack_length : (a : List ℕ) (d : ℕ) → length (stack_of a d) ≡ d
stack_length a zero = refl
stack_length a (suc d) = ap suc (stack_length a d)

-- a store at or above the top is not seen
pub stack_above : (a : List ℕ) (i v d : ℕ) → d ≤ i → stack_of (set a i v) d ≡ stack_of a d
stack_above a i v zero h = refl
stack_above a i v (suc d) h = rw (get_or-set_other a i d v 0 (omega arith), stack_above a i v d (omega arith))

pub stack_top : (a : List ℕ) (d : ℕ) → 0 < d → stack_of a d ≡ get_or a (d - 1) 0 ∷ stack_of a (d - 1)
stack_top a zero h = absurd (not-suc-le-zero h)
stack_top a (suc d) h = let e : suc d - 1 ≡ d = omega arith in rw e

-- the top becomes t, and c is put above it
pub stack_push : (a : List ℕ) (d t c : ℕ) → 0 < d → d < length a
    → stack_of (set (set a (d - 1) t) d c) (d + 1) ≡ c ∷ t ∷ stack_of a (d - 1)
stack_push a d t c h l =
    let b : d < length (set a (d - 1) t) = rw length-set l in
    let u : d - 1 < length a = omega arith in
    rw (
      add-one d,
      get_or-set_same (set a (d - 1) t) d c 0,
      stack_above (set a (d - 1) t) d c d (omega arith),
      stack_top (set a (d - 1) t) d h,
      get_or-set_same a (d - 1) t 0,
      stack_above a (d - 1) t (d - 1) (omega arith),
    )
