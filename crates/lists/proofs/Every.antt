-- Facts of the elements of a list, through `take`, `drop` and `++`.
use Prim.Native.Nat.{suc, zero, ℕ}
use mathlib.Core.List.{List, [], ◌++◌, ◌∷◌}
use lib.ListN.{drop, take}
use Rattle.lists.specs.Every.{All, All2, both, none}

pub all_map : {A : Type 0} {R Q : A → Type 0} → ((a : A) → R a → Q a) → (xs : List A) → All R xs → All Q xs
all_map f [] h = tt
all_map f (x ∷ xs) h = (f x h.0, all_map f xs h.1)

pub all_both : {A : Type 0} {R Q S : A → Type 0} → ((a : A) → R a → Q a → S a) → (xs : List A) → All R xs → All Q xs → All S xs
all_both f [] h k = tt
all_both f (x ∷ xs) h k = (f x h.0 k.0, all_both f xs h.1 k.1)

pub all_take : {A : Type 0} (R : A → Type 0) (n : ℕ) (xs : List A) → All R xs → All R (take n xs)
all_take R zero xs h = tt
all_take R (suc n) [] h = tt
all_take R (suc n) (x ∷ xs) h = (h.0, all_take R n xs h.1)

pub all_drop : {A : Type 0} (R : A → Type 0) (n : ℕ) (xs : List A) → All R xs → All R (drop n xs)
all_drop R zero xs h = h
all_drop R (suc n) [] h = tt
all_drop R (suc n) (x ∷ xs) h = all_drop R n xs h.1

pub all_append : {A : Type 0} (R : A → Type 0) (xs ys : List A) → All R xs → All R ys → All R (xs ++ ys)
all_append R [] ys h k = k
all_append R (x ∷ xs) ys h k = (h.0, all_append R xs ys h.1 k)

pub all2_take : {A B : Type 0} {R : A → B → Type 0} (n : ℕ) {xs : List A} {ys : List B} → All2 R xs ys → All2 R (take n xs) (take n ys)
all2_take zero h = none
all2_take (suc n) none = none
all2_take (suc n) (both h hs) = both h (all2_take n hs)

pub all2_drop : {A B : Type 0} {R : A → B → Type 0} (n : ℕ) {xs : List A} {ys : List B} → All2 R xs ys → All2 R (drop n xs) (drop n ys)
all2_drop zero h = h
all2_drop (suc n) none = none
all2_drop (suc n) (both h hs) = all2_drop n hs

pub all2_append : {A B : Type 0} {R : A → B → Type 0} {xs : List A} {ys : List B} {zs : List A} {ws : List B} → All2 R xs ys → All2 R zs ws → All2 R (xs ++ zs) (ys ++ ws)
all2_append none k = k
all2_append (both h hs) k = both h (all2_append hs k)
