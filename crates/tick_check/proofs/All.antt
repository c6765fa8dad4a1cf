-- A test of each index below a number: when it holds, two tests at once, and when two are the same.
use Rattle.std.proofs.Common.{◌≡◌, ℕ, zero, suc, ◌<◌, Bool, true, ◌&&◌, refl, arith}
use Rattle.lists.specs.All.{all}

pub all_from : (p : ℕ → Bool) (n : ℕ) → ((i : ℕ) → i < n → p i ≡ true) → all p n ≡ true
unfolding all
all_from p zero h = refl
all_from p (suc n) h = let a = all_from p n (λ i l. h i (omega arith)) in let b = h n (omega arith) in rw (a, b)

pub all_same : (p q : ℕ → Bool) (n : ℕ) → ((i : ℕ) → i < n → p i ≡ q i) → all p n ≡ all q n
unfolding all
all_same p q zero h = refl
all_same p q (suc n) h = let a = all_same p q n (λ i l. h i (omega arith)) in let b = h n (omega arith) in rw (a, b)

pub mix : (a b c d : Bool) → (a && b) && (c && d) ≡ (a && c) && (b && d)
mix a b c d = grind arith

pub all_and : (p q : ℕ → Bool) (n : ℕ) → all (λ i. p i && q i) n ≡ all p n && all q n
unfolding all
all_and p q zero = refl
all_and p q (suc n) = rw (all_and p q n) (mix (all p n) (all q n) (p n) (q n))
