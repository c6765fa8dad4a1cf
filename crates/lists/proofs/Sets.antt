-- Lists that are stored one after the other in a longer one, read back by index.
use mathlib.Core.Path.{◌≡◌, refl, ◌∙◌, ap}
use mathlib.Core.List.{List, [], ◌∷◌, map}
use Prim.Native.Nat.{ℕ, zero, suc, ◌+◌, ◌≤◌, ◌<◌}
use native.Mathlib.Omega.{arith}
use lib.ListN.{length, get_or, set, length-set}
use lib.Seq.{sets, get_or-set_same, get_or-set_other}

module _ {A : Type 0} where
  pub sets_before : (vs l : List A) (i j : ℕ) (d : A) → j < i → get_or (sets l i vs) j d ≡ get_or l j d
  sets_before [] l i j d h = refl
  sets_before (v ∷ vs) l i j d h = sets_before vs (set l i v) (suc i) j d (omega arith) ∙ get_or-set_other l i j v d (λ e. omega arith)

  pub sets_after : (vs l : List A) (i j : ℕ) (d : A) → i + length vs ≤ j → get_or (sets l i vs) j d ≡ get_or l j d
  sets_after [] l i j d h = refl
  sets_after (v ∷ vs) l i j d h = sets_after vs (set l i v) (suc i) j d (omega arith) ∙ get_or-set_other l i j v d (λ e. omega arith)

  pub sets_at : (vs l : List A) (i k : ℕ) (d : A) → i + length vs ≤ length l → k < length vs → get_or (sets l i vs) (i + k) d ≡ get_or vs k d
  sets_at [] l i k d h b = absurd (omega arith)
  sets_at (v ∷ vs) l i zero d h b =
      let e : i + 0 ≡ i = omega arith in
      ap (λ (j : ℕ). get_or (sets (set l i v) (suc i) vs) j d) e
      ∙ sets_before vs (set l i v) (suc i) i d (omega arith) ∙ get_or-set_same l i v d (omega arith)
  sets_at (v ∷ vs) l i (suc k) d h b =
      let e : i + suc k ≡ suc i + k = omega arith in
      ap (λ (j : ℕ). get_or (sets (set l i v) (suc i) vs) j d) e
      ∙ sets_at vs (set l i v) (suc i) k d (omega (arith, length-set l i v)) (omega arith)

  pub sets_first : (vs l : List A) (k : ℕ) (d : A) → length vs ≤ length l → k < length vs → get_or (sets l 0 vs) k d ≡ get_or vs k d
  sets_first vs l k d h b =
      let e : k ≡ 0 + k = omega arith in
      ap (λ (j : ℕ). get_or (sets l 0 vs) j d) e ∙ sets_at vs l 0 k d (omega arith) b

-- an entry of a list's image, whatever is read past the ends
pub map_at : {A B : Type 0} (g : A → B) (xs : List A) (k : ℕ) (d : B) (e : A) → k < length xs → get_or (map g xs) k d ≡ g (get_or xs k e)
map_at g [] k d e h = absurd (omega arith)
map_at g (x ∷ xs) zero d e h = refl
map_at g (x ∷ xs) (suc k) d e h = map_at g xs k d e (omega arith)
