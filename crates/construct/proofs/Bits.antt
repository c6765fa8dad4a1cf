-- Facts on bits and on tests of small numbers, each once.
use Prim.Native.Nat.{◌*◌, ◌+◌, ◌-◌, ◌<◌, ◌≤◌, suc, zero, ℕ}
use native.Mathlib.Omega.{arith}
use mathlib.Core.Bool.{Bool, ◌&&◌, ◌||◌, cond, false, not, true}
use mathlib.Core.Path.{◌≡◌, refl}
use lib.Dec.{T, eqb, eqb_refl, leb, leb→le, le→leb, nleb→lt}
use Rattle.walk.specs.Kind.{bit}
use Rattle.walk.specs.Status.{Failure, Running, Status, Success, is_failure, is_running_status, is_success}

abbrev pub is_z : ℕ → Bool
is_z zero = true
is_z (suc n) = false

pub bit_is_z : (n : ℕ) → bit (is_z n) ≡ 1 - n
bit_is_z zero = refl
bit_is_z (suc n) = omega arith

pub bit_leb : (k v : ℕ) → bit (leb k v) ≡ (suc v - k) - (v - k)
bit_leb k v = go (leb k v) (leb→le k v) (nleb→lt k v)
  where
    go : (b : Bool) → (T b → k ≤ v) → (T (not b) → v < k) → bit b ≡ (suc v - k) - (v - k)
    go true h _ = omega (arith, h tt)
    go false _ h = omega (arith, h tt)

pub bit_and : (a b : Bool) → bit a * bit b ≡ bit (a && b)
bit_and true b = omega arith
bit_and false b = omega arith

pub bit_or : (a b : Bool) → bit a + bit b ≡ bit (a || b) + bit (a && b)
bit_or true b = omega arith
bit_or false b = omega arith

pub bit_le : (a : Bool) → bit a ≤ 1
bit_le true = omega arith
bit_le false = omega arith

pub bit_not : (a : Bool) → bit (not a) + bit a ≡ 1
bit_not true = refl
bit_not false = refl

pub eq→eqb : (m n : ℕ) → m ≡ n → T (eqb m n)
eq→eqb m n e = rw e (eqb_refl n)

pub is_true : (b : Bool) → T b → b ≡ true
is_true true t = refl
is_true false t = absurd t

pub is_false : (b : Bool) → (T b → ⊥) → b ≡ false
is_false true t = absurd (t tt)
is_false false t = refl

-- tests at numbers shifted alike
pub leb_add : (n k v : ℕ) → leb (n + k) (n + v) ≡ leb k v
leb_add n k v = go (leb (n + k) (n + v)) (leb k v) (leb→le (n + k) (n + v)) (nleb→lt (n + k) (n + v)) (leb→le k v) (nleb→lt k v)
  where
    go : (x y : Bool) → (T x → n + k ≤ n + v) → (T (not x) → n + v < n + k) → (T y → k ≤ v) → (T (not y) → v < k) → x ≡ y
    go true true a b c d = refl
    go true false a b c d = absurd (omega (arith, a tt, d tt))
    go false true a b c d = absurd (omega (arith, b tt, c tt))
    go false false a b c d = refl

pub leb_yes : (m n : ℕ) → m ≤ n → leb m n ≡ true
leb_yes m n h = is_true (leb m n) (le→leb m n h)

-- facts on bits
pub is_z_pos : (n : ℕ) → 1 ≤ n → is_z n ≡ false
is_z_pos zero h = absurd (omega arith)
is_z_pos (suc n) h = refl

pub clear_step : (c : ℕ) (b : Bool) → is_z (c + bit b) ≡ is_z c && not b
clear_step zero true = refl
clear_step zero false = refl
clear_step (suc c) true = is_z_pos (suc c + 1) (omega arith)
clear_step (suc c) false = is_z_pos (suc c + 0) (omega arith)

pub after_step : (g b : Bool) → bit (not g) + bit (g && b) ≡ bit (not (g && not b))
after_step true true = refl
after_step true false = refl
after_step false b = refl

-- what the stop at a child adds to the sums
pub add_oth : (g b : Bool) (x y : Status) → bit ((g && b) && is_failure x) + bit ((g && not b) && is_failure y) ≡ bit (g && is_failure (cond b x y))
add_oth true true x y = omega arith
add_oth true false x y = omega arith
add_oth false b x y = refl

pub add_run : (g b : Bool) (x y : Status) → bit ((g && b) && is_running_status x) + bit ((g && not b) && is_running_status y) ≡ bit (g && is_running_status (cond b x y))
add_run true true x y = omega arith
add_run true false x y = omega arith
add_run false b x y = refl

pub add_cur : (g b : Bool) (k r : ℕ) (x : Status) → k * bit ((g && b) && is_running_status x) + bit (g && not b) * r ≡ bit g * cond b (k * bit (is_running_status x)) r
add_cur true true k r x = omega arith
add_cur true false k r x = omega arith
add_cur false b k r x = omega arith

pub end_step : (g l : Bool) (x y : Status) → (g && not (not (l || is_success x))) && is_success y ≡ g && is_success (cond (not (l || is_success x)) x y)
end_step true true x y = refl
end_step true false Success y = refl
end_step true false Failure y = refl
end_step true false Running y = refl
end_step false l x y = refl
