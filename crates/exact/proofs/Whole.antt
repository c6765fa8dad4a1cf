-- Floats calculate with whole numbers exactly: where p - q and r - u are in range, the float of their sum is the sum of their floats, and so for the difference,
-- multiply-and-add, the order and the casts. Each law is stated once for both formats.
use mathlib.Core.Path.{◌≡◌, refl, sym, ap, ◌∙◌, subst}
use mathlib.Core.Bool.{Bool, true, false, not, ◌&&◌, ◌||◌, beq, cond}
use Prim.Native.Nat.{ℕ, ◌+◌, ◌-◌, ◌*◌, ◌^◌, ◌≤◌, ◌<◌}
use native.Mathlib.Nat.{mul-one, mul_assoc, mul_comm, mul-mul-mul_comm, mul-sub, mul-pos, add-mul, zero-lt-suc, zero-mul, mul-lt-mul_of_pos_right, lt_of_mul-lt-mul_right, eq_of_mul-eq-mul_right}
use native.Mathlib.Omega.{arith}
use lib.IntN.{pos}
use lib.Dec.{T, ltb, leb, eqb, ltb→lt, lt→ltb, nltb→le, eqb→eq, leb→le, le→leb}
use lib.Ieee.{Float, fin, Format, binary32, prec, up, down, unlike, round, sum, add, sub, neg, mul, below, level, lt, le, eq, of_bits, of_int, fits, in_float, in_unsigned, to_unsigned, nan, inf}
use lib.Ieee.Fits.{down_pos, round-fits, and_i, and_l, and_r, eq→eqb}
use lib.Ieee.Exact.{HasValue}
use lib.Ieee.Back.{round_whole, whole_unique, unsigned_back}
use lib.Ieee.Scale.{round_same}
use borrow.Author.Tests.{lt-ltb, le-ltb}
use Rattle.exact.specs.Whole.{dist, diff, Within, zero32, one32, minus_one32, cursor_most32}

-- the sign s and the size n are those of p - q, with either sign at 0
abbrev pub Worth : Bool → ℕ → ℕ → ℕ → Type 0
Worth false n p q = p ≡ q + n
Worth true n p q = q ≡ p + n

-- ---- tests that say the same

pub same_test : (a b : Bool) → (T a → T b) → (T b → T a) → a ≡ b
same_test true true h k = refl
same_test true false h k = absurd (h tt)
same_test false true h k = absurd (k tt)
same_test false false h k = refl

ltb_iff : (a b c d : ℕ) → (a < b → c < d) → (c < d → a < b) → ltb a b ≡ ltb c d
ltb_iff a b c d h k = same_test (ltb a b) (ltb c d) (λ t. lt→ltb c d (h (ltb→lt a b t))) (λ t. lt→ltb a b (k (ltb→lt c d t)))

eqb_iff : (a b c d : ℕ) → (a ≡ b → c ≡ d) → (c ≡ d → a ≡ b) → eqb a b ≡ eqb c d
eqb_iff a b c d h k = same_test (eqb a b) (eqb c d) (λ t. eq→eqb (h (eqb→eq a b t))) (λ t. eq→eqb (k (eqb→eq c d t)))

ltb_scale : (a b c : ℕ) → 0 < c → ltb (a * c) (b * c) ≡ ltb a b
ltb_scale a b c p = ltb_iff (a * c) (b * c) a b (lt_of_mul-lt-mul_right c) (λ h. mul-lt-mul_of_pos_right h p)

eqb_scale : (a b c : ℕ) → 0 < c → eqb (a * c) (b * c) ≡ eqb a b
eqb_scale a b c p = eqb_iff (a * c) (b * c) a b (eq_of_mul-eq-mul_right c p a b) (ap (λ (z : ℕ). z * c))

-- ---- the operations on values that equal whole numbers

-- a whole number over any denominator rounds as over 1
round_scale : (f : Format) (s : Bool) (a c : ℕ) → 0 < c → round f s (a * c) c ≡ round f s a 1
round_scale f s a c p = round_same f s (a * c) c a 1 p (zero-lt-suc 0) (mul-one (a * c))

sum_scale : (f : Format) (s t : Bool) (a b c : ℕ) → 0 < c → sum f s (a * c) t (b * c) c ≡ sum f s a t b 1
unfolding sum
sum_scale f s t a b c p =
    let e1 : round f s (a * c + b * c) c ≡ round f s (a + b) 1 = rw (← add-mul a b c) (round_scale f s (a + b) c p) in
    let e2 : round f t (b * c - a * c) c ≡ round f t (b - a) 1 = ap (λ (z : ℕ). round f t z c) (sub_scale b a) ∙ round_scale f t (b - a) c p in
    let e3 : round f (s && ltb (b * c) (a * c)) (a * c - b * c) c ≡ round f (s && ltb b a) (a - b) 1 =
    ap (λ (z : ℕ). round f (s && ltb (b * c) (a * c)) z c) (sub_scale a b) ∙ ap (λ (z : Bool). round f (s && z) ((a - b) * c) c) (ltb_scale b a c p) ∙ round_scale f (s && ltb b a) (a - b) c p in
    λ i. cond (beq s t) (e1 i) (cond (ltb_scale a b c p i) (e2 i) (e3 i))
  where
    sub_scale : (x y : ℕ) → x * c - y * c ≡ (x - y) * c
    sub_scale x y = ap (λ (z : ℕ). z - y * c) (mul_comm x c) ∙ ap (λ (z : ℕ). c * x - z) (mul_comm y c) ∙ sym (mul-sub c x y) ∙ mul_comm c (x - y)

-- x is m / d1 and worth a: over the denominator d1 * d2 it is a * (d1 * d2)
over_left : (x a d1 d2 : ℕ) → x * 1 ≡ a * d1 → x * d2 ≡ a * (d1 * d2)
over_left x a d1 d2 h = ap (λ (z : ℕ). z * d2) (sym (mul-one x) ∙ h) ∙ mul_assoc a d1 d2

over_right : (x a d1 d2 : ℕ) → x * 1 ≡ a * d2 → x * d1 ≡ a * (d1 * d2)
over_right x a d1 d2 h = over_left x a d2 d1 h ∙ ap (λ (z : ℕ). a * z) (mul_comm d2 d1)

add_at : (f : Format) (x y : Float) (s t : Bool) (a b : ℕ) → HasValue x s a 1 → HasValue y t b 1 → add f x y ≡ sum f s a t b 1
unfolding add
add_at f (fin s' m e) (fin t' n d) s t a b v w =
    let c = down e * down d in
    (λ i. sum f (v.0 i) (over_left (m * up e) a (down e) (down d) v.1 i) (w.0 i) (over_right (n * up d) b (down e) (down d) w.1 i) c)
    ∙ sum_scale f s t a b c (mul-pos (down_pos e) (down_pos d))
add_at f nan y s t a b v w = elim v [ ]
add_at f (inf _) y s t a b v w = elim v [ ]
add_at f (fin s' m e) nan s t a b v w = elim w [ ]
add_at f (fin s' m e) (inf _) s t a b v w = elim w [ ]

mul_at : (f : Format) (x y : Float) (s t : Bool) (a b : ℕ) → HasValue x s a 1 → HasValue y t b 1 → mul f x y ≡ round f (unlike s t) (a * b) 1
unfolding mul
mul_at f (fin s' m e) (fin t' n d) s t a b v w =
    let p : m * up e * (n * up d) ≡ a * b * (down e * down d) = ap (λ (z : ℕ). z * (n * up d)) (sym (mul-one (m * up e)) ∙ v.1) ∙ ap (λ (z : ℕ). a * down e * z) (sym (mul-one (n * up d)) ∙ w.1) ∙ mul-mul-mul_comm a (down e) b (down d) in
    (λ i. round f (unlike (v.0 i) (w.0 i)) (p i) (down e * down d))
    ∙ round_scale f (unlike s t) (a * b) (down e * down d) (mul-pos (down_pos e) (down_pos d))
mul_at f nan y s t a b v w = elim v [ ]
mul_at f (inf _) y s t a b v w = elim v [ ]
mul_at f (fin s' m e) nan s t a b v w = elim w [ ]
mul_at f (fin s' m e) (inf _) s t a b v w = elim w [ ]

below_at : (x y : Float) (s t : Bool) (a b : ℕ) → HasValue x s a 1 → HasValue y t b 1 → lt x y ≡ below s a t b
unfolding lt
below_at (fin s' m e) (fin t' n d) s t a b v w =
    let c = down e * down d in
    (λ i. below (v.0 i) (over_left (m * up e) a (down e) (down d) v.1 i) (w.0 i) (over_right (n * up d) b (down e) (down d) w.1 i)) ∙ scale s t (mul-pos (down_pos e) (down_pos d))
  where
    scale : (s t : Bool) {c : ℕ} → 0 < c → below s (a * c) t (b * c) ≡ below s a t b
    scale false false {c} p = ltb_scale a b c p
    scale false true {c} p = refl
    scale true false {c} p = ap (λ (z : ℕ). ltb 0 z) (sym (add-mul a b c)) ∙ (rw zero-mul at (ltb_scale 0 (a + b) c p))
    scale true true {c} p = ltb_scale b a c p
below_at nan y s t a b v w = elim v [ ]
below_at (inf _) y s t a b v w = elim v [ ]
below_at (fin s' m e) nan s t a b v w = elim w [ ]
below_at (fin s' m e) (inf _) s t a b v w = elim w [ ]

level_at : (x y : Float) (s t : Bool) (a b : ℕ) → HasValue x s a 1 → HasValue y t b 1 → eq x y ≡ level s a t b
unfolding eq
level_at (fin s' m e) (fin t' n d) s t a b v w =
    let c = down e * down d in
    let p : 0 < c = mul-pos (down_pos e) (down_pos d) in
    (λ i. level (v.0 i) (over_left (m * up e) a (down e) (down d) v.1 i) (w.0 i) (over_right (n * up d) b (down e) (down d) w.1 i))
    ∙ (λ i. eqb_scale a b c p i && (beq s t || z p i))
  where
    z : {c : ℕ} → 0 < c → eqb (a * c) 0 ≡ eqb a 0
    z {c} p = rw zero-mul at (eqb_scale a 0 c p)
level_at nan y s t a b v w = elim v [ ]
level_at (inf _) y s t a b v w = elim v [ ]
level_at (fin s' m e) nan s t a b v w = elim w [ ]
level_at (fin s' m e) (inf _) s t a b v w = elim w [ ]

-- ---- signs and sizes

pub worth_of : (p q : ℕ) → Worth (ltb p q) (dist p q) p q
worth_of p q = go (ltb p q) (ltb→lt p q) (nltb→le p q)
  where
    go : (t : Bool) → (T t → p < q) → (T (not t) → q ≤ p) → Worth t (dist p q) p q
    go true y n = let h = y tt in omega arith
    go false y n = let h = n tt in omega arith

-- a sign and a size that are those of p - q, with +0 for 0, give the float of p - q
round_diff : (f : Format) (s : Bool) (n p q : ℕ) → Worth s n p q → (T s → 0 < n) → round f s n 1 ≡ diff f p q
unfolding diff
round_diff f false n p q w z = λ i. round f (sym (le-ltb p q (omega arith)) i) (size i) 1
  where
    size : n ≡ dist p q
    size = omega arith
round_diff f true n p q w z = λ i. round f (sym (lt-ltb p q lt') i) (size i) 1
  where
    lt' : p < q
    lt' = omega (arith, z tt)

    size : n ≡ dist p q
    size = omega arith

pub diff_value : (f : Format) (p q : ℕ) → Within f p q → HasValue (diff f p q) (ltb p q) (dist p q) 1
unfolding diff
diff_value f p q h = round_whole f (ltb p q) (dist p q) (omega arith)

pub count_value : (f : Format) (n : ℕ) → n ≤ 2 ^ prec f → HasValue (diff f n 0) false n 1
count_value f n h = subst (λ (x : Float). HasValue x false n 1) (round_diff f false n n 0 (omega arith) (λ t. absurd t)) (round_whole f false n h)

sum_diff : (f : Format) (s t : Bool) (a b p q r u : ℕ) → Worth s a p q → Worth t b r u → (T s → T t → 0 < a + b) → sum f s a t b 1 ≡ diff f (p + r) (q + u)
unfolding sum
sum_diff f false false a b p q r u v w z = round_diff f false (a + b) (p + r) (q + u) (omega arith) (λ t. absurd t)
sum_diff f true true a b p q r u v w z = round_diff f true (a + b) (p + r) (q + u) (omega arith) (z tt)
sum_diff f true false a b p q r u v w z = go (ltb a b) (ltb→lt a b) (nltb→le a b)
  where
    go : (t : Bool) → (T t → a < b) → (T (not t) → b ≤ a) → cond t (round f false (b - a) 1) (round f (ltb b a) (a - b) 1) ≡ diff f (p + r) (q + u)
    go true y n = let h = y tt in round_diff f false (b - a) (p + r) (q + u) (omega arith) (λ t. absurd t)
    go false y n = round_diff f (ltb b a) (a - b) (p + r) (q + u) (go2 (ltb b a) (ltb→lt b a) (nltb→le b a)) (λ t. let h = ltb→lt b a t in omega arith)
      where
        go2 : (t : Bool) → (T t → b < a) → (T (not t) → a ≤ b) → Worth t (a - b) (p + r) (q + u)
        go2 true y' n' = let h = y' tt in omega arith
        go2 false y' n' = let h = n' tt in let h' = n tt in omega arith
sum_diff f false true a b p q r u v w z = go (ltb a b) (ltb→lt a b) (nltb→le a b)
  where
    go : (t : Bool) → (T t → a < b) → (T (not t) → b ≤ a) → cond t (round f true (b - a) 1) (round f false (a - b) 1) ≡ diff f (p + r) (q + u)
    go true y n = let h = y tt in round_diff f true (b - a) (p + r) (q + u) (omega arith) (λ t. omega arith)
    go false y n = let h = n tt in round_diff f false (a - b) (p + r) (q + u) (omega arith) (λ t. absurd t)

worth_mul : (s t : Bool) (a b p q r u : ℕ) → Worth s a p q → Worth t b r u → Worth (unlike s t) (a * b) (p * r + q * u) (p * u + q * r)
worth_mul false false a b p q r u v w = rw (v, w) (omega arith)
worth_mul false true a b p q r u v w = rw (v, w) (omega arith)
worth_mul true false a b p q r u v w = rw (v, w) (omega arith)
worth_mul true true a b p q r u v w = rw (v, w) (omega arith)

pos_of : (p q : ℕ) → T (ltb p q) → 0 < dist p q
pos_of p q t = let h = ltb→lt p q t in omega arith

-- ---- sums and products

-- of any two floats that are worth p - q and r - u, and are not -0 both
pub add_worth : (f : Format) (x y : Float) (s t : Bool) (a b p q r u : ℕ) → HasValue x s a 1 → HasValue y t b 1 → Worth s a p q → Worth t b r u → (T s → T t → 0 < a + b) → add f x y ≡ diff f (p + r) (q + u)
add_worth f x y s t a b p q r u v w g h z = add_at f x y s t a b v w ∙ sum_diff f s t a b p q r u g h z

pub add_diff : (f : Format) (p q r u : ℕ) → Within f p q → Within f r u → add f (diff f p q) (diff f r u) ≡ diff f (p + r) (q + u)
add_diff f p q r u h k =
    add_worth f (diff f p q) (diff f r u) (ltb p q) (ltb r u) (dist p q) (dist r u) p q r u (diff_value f p q h) (diff_value f r u k) (worth_of p q) (worth_of r u) (λ s t. let g = pos_of p q s in omega arith)

-- the sign and the size of a product, and that it is in range
product_le : (f : Format) (s : Bool) (n p q : ℕ) → Worth s n p q → Within f p q → n ≤ 2 ^ prec f
product_le f false n p q w h = omega arith
product_le f true n p q w h = omega arith

mul_value : (f : Format) (p q r u : ℕ) → Within f p q → Within f r u
    → mul f (diff f p q) (diff f r u) ≡ round f (unlike (ltb p q) (ltb r u)) (dist p q * dist r u) 1
mul_value f p q r u h k = mul_at f (diff f p q) (diff f r u) (ltb p q) (ltb r u) (dist p q) (dist r u) (diff_value f p q h) (diff_value f r u k)

worth_product : (p q r u : ℕ) → Worth (unlike (ltb p q) (ltb r u)) (dist p q * dist r u) (p * r + q * u) (p * u + q * r)
worth_product p q r u = worth_mul (ltb p q) (ltb r u) (dist p q) (dist r u) p q r u (worth_of p q) (worth_of r u)

pub add_mul_diff : (f : Format) (p q r u v w : ℕ) → Within f p q → Within f r u → Within f v w → Within f (r * v + u * w) (r * w + u * v)
    → add f (diff f p q) (mul f (diff f r u) (diff f v w)) ≡ diff f (p + (r * v + u * w)) (q + (r * w + u * v))
add_mul_diff f p q r u v w h k l b =
    let s = unlike (ltb r u) (ltb v w) in
    let n = dist r u * dist v w in
    rw (mul_value f r u v w k l)
    (add_at f (diff f p q) (round f s n 1) (ltb p q) s (dist p q) n (diff_value f p q h) (round_whole f s n (product_le f s n (r * v + u * w) (r * w + u * v) (worth_product r u v w) b))
    ∙ sum_diff f (ltb p q) s (dist p q) n p q (r * v + u * w) (r * w + u * v) (worth_of p q) (worth_product r u v w) (λ x y. let g = pos_of p q x in omega arith))

-- the product first, and a zero, or any other whole number that is not negative, after it
pub mul_add_diff : (f : Format) (p q r u v w : ℕ) → q ≤ p → Within f p q → Within f r u → Within f v w → Within f (r * v + u * w) (r * w + u * v)
    → add f (mul f (diff f r u) (diff f v w)) (diff f p q) ≡ diff f (r * v + u * w + p) (r * w + u * v + q)
mul_add_diff f p q r u v w g h k l b =
    let s = unlike (ltb r u) (ltb v w) in
    let n = dist r u * dist v w in
    rw (mul_value f r u v w k l)
    (add_at f (round f s n 1) (diff f p q) s (ltb p q) n (dist p q) (round_whole f s n (product_le f s n (r * v + u * w) (r * w + u * v) (worth_product r u v w) b)) (diff_value f p q h)
    ∙ sum_diff f s (ltb p q) n (dist p q) (r * v + u * w) (r * w + u * v) p q (worth_product r u v w) (worth_of p q) (λ x y. let e = ltb→lt p q y in omega arith))

-- a product alone, of two that are not negative
pub mul_diff : (f : Format) (p q r u : ℕ) → q ≤ p → u ≤ r → Within f p q → Within f r u → mul f (diff f p q) (diff f r u) ≡ diff f (p * r + q * u) (p * u + q * r)
mul_diff f p q r u g e h k =
    mul_value f p q r u h k
    ∙ round_diff f (unlike (ltb p q) (ltb r u)) (dist p q * dist r u) (p * r + q * u) (p * u + q * r) (worth_product p q r u)
    (subst (λ (b : Bool). T (unlike b (ltb r u)) → 0 < dist p q * dist r u) (sym (le-ltb p q g)) (subst (λ (b : Bool). T (unlike false b) → 0 < dist p q * dist r u) (sym (le-ltb r u e)) (λ t. absurd t)))

-- a difference. -(p - q) itself is -0 where p ≡ q, so `neg` has no law as plain as these
neg_value : (x : Float) (s : Bool) (a : ℕ) → HasValue x s a 1 → HasValue (neg x) (not s) a 1
unfolding neg
neg_value (fin s' m e) s a v = (ap not v.0, v.1)
neg_value nan s a v = elim v [ ]
neg_value (inf _) s a v = elim v [ ]

worth_neg : (s : Bool) (n p q : ℕ) → Worth s n p q → Worth (not s) n q p
worth_neg false n p q w = w
worth_neg true n p q w = w

pub sub_diff : (f : Format) (p q r u : ℕ) → Within f p q → Within f r u → sub f (diff f p q) (diff f r u) ≡ diff f (p + u) (q + r)
unfolding sub
sub_diff f p q r u h k =
    add_at f (diff f p q) (neg (diff f r u)) (ltb p q) (not (ltb r u)) (dist p q) (dist r u) (diff_value f p q h) (neg_value (diff f r u) (ltb r u) (dist r u) (diff_value f r u k))
    ∙ sum_diff f (ltb p q) (not (ltb r u)) (dist p q) (dist r u) p q u r (worth_of p q) (worth_neg (ltb r u) (dist r u) r u (worth_of r u)) (λ s t. let g = pos_of p q s in omega arith)

-- ---- only the difference counts
pub diff_same : (f : Format) (p q r u : ℕ) → p + u ≡ r + q → diff f p q ≡ diff f r u
diff_same f p q r u e = go (ltb p q) (ltb→lt p q) (nltb→le p q)
  where
    go : (t : Bool) → (T t → p < q) → (T (not t) → q ≤ p) → diff f p q ≡ diff f r u
    go true y n = let h = y tt in sym (round_diff f true (dist p q) p q (omega arith) (λ t. omega arith)) ∙ round_diff f true (dist p q) r u (omega arith) (λ t. omega arith)
    go false y n = let h = n tt in sym (round_diff f false (dist p q) p q (omega arith) (λ t. absurd t)) ∙ round_diff f false (dist p q) r u (omega arith) (λ t. absurd t)

-- the one float of the format f that has that sign and that size, +0 for 0
pub diff_unique : (f : Format) (x : Float) (s : Bool) (n p q : ℕ) → T (fits f x) → HasValue x s n 1 → n ≤ 2 ^ prec f → Worth s n p q → (T s → 0 < n) → x ≡ diff f p q
diff_unique f x s n p q t v l w z = whole_unique f x (round f s n 1) s n t (round-fits f s n 1) v (round_whole f s n l) ∙ round_diff f s n p q w z

-- ---- the order
below_worth : (s t : Bool) (a b p q r u : ℕ) → Worth s a p q → Worth t b r u → below s a t b ≡ ltb (p + u) (r + q)
below_worth false false a b p q r u v w = ltb_iff a b (p + u) (r + q) (λ h. omega arith) (λ h. omega arith)
below_worth false true a b p q r u v w = sym (le-ltb (p + u) (r + q) (omega arith))
below_worth true false a b p q r u v w = ltb_iff 0 (a + b) (p + u) (r + q) (λ h. omega arith) (λ h. omega arith)
below_worth true true a b p q r u v w = ltb_iff b a (p + u) (r + q) (λ h. omega arith) (λ h. omega arith)

and-true : (x : Bool) → x && true ≡ x
and-true true = refl
and-true false = refl

both_zero : (a b x y : ℕ) → ((a ≡ b) × (a ≡ 0) → x ≡ y) → (x ≡ y → (a ≡ b) × (a ≡ 0)) → eqb a b && eqb a 0 ≡ eqb x y
both_zero a b x y h k =
    same_test (eqb a b && eqb a 0) (eqb x y)
    (λ t. eq→eqb (h (eqb→eq a b (and_l (eqb a b) (eqb a 0) t), eqb→eq a 0 (and_r (eqb a b) (eqb a 0) t))))
    (λ t. let e = k (eqb→eq x y t) in and_i (eqb a b) (eqb a 0) (eq→eqb e.0) (eq→eqb e.1))

level_worth : (s t : Bool) (a b p q r u : ℕ) → Worth s a p q → Worth t b r u → level s a t b ≡ eqb (p + u) (r + q)
level_worth false false a b p q r u v w = and-true (eqb a b) ∙ eqb_iff a b (p + u) (r + q) (λ h. omega arith) (λ h. omega arith)
level_worth false true a b p q r u v w = both_zero a b (p + u) (r + q) (λ h. omega arith) (λ h. omega arith)
level_worth true false a b p q r u v w = both_zero a b (p + u) (r + q) (λ h. omega arith) (λ h. omega arith)
level_worth true true a b p q r u v w = and-true (eqb a b) ∙ eqb_iff a b (p + u) (r + q) (λ h. omega arith) (λ h. omega arith)

pub lt_diff : (f : Format) (p q r u : ℕ) → Within f p q → Within f r u → lt (diff f p q) (diff f r u) ≡ ltb (p + u) (r + q)
lt_diff f p q r u h k =
    below_at (diff f p q) (diff f r u) (ltb p q) (ltb r u) (dist p q) (dist r u) (diff_value f p q h) (diff_value f r u k)
    ∙ below_worth (ltb p q) (ltb r u) (dist p q) (dist r u) p q r u (worth_of p q) (worth_of r u)

-- of any two floats that are worth p - q and r - u, with either sign of zero
pub eq_at : (x y : Float) (s t : Bool) (a b p q r u : ℕ) → HasValue x s a 1 → HasValue y t b 1 → Worth s a p q → Worth t b r u → eq x y ≡ eqb (p + u) (r + q)
eq_at x y s t a b p q r u v w g h = level_at x y s t a b v w ∙ level_worth s t a b p q r u g h

pub eq_diff : (f : Format) (p q r u : ℕ) → Within f p q → Within f r u → eq (diff f p q) (diff f r u) ≡ eqb (p + u) (r + q)
eq_diff f p q r u h k = eq_at (diff f p q) (diff f r u) (ltb p q) (ltb r u) (dist p q) (dist r u) p q r u (diff_value f p q h) (diff_value f r u k) (worth_of p q) (worth_of r u)

leb_split : (x y : ℕ) → ltb x y || eqb x y ≡ leb x y
leb_split x y = same_test (ltb x y || eqb x y) (leb x y) (λ t. le→leb x y (down1 (ltb x y) (eqb x y) (ltb→lt x y) (eqb→eq x y) t)) (λ t. up1 (leb→le x y t) (ltb x y) (nltb→le x y))
  where
    down1 : (b c : Bool) → (T b → x < y) → (T c → x ≡ y) → T (b || c) → x ≤ y
    down1 true c h k t = let g = h tt in omega arith
    down1 false c h k t = let g = k t in omega arith

    up1 : x ≤ y → (b : Bool) → (T (not b) → y ≤ x) → T (b || eqb x y)
    up1 h true k = tt
    up1 h false k = let g = k tt in let e : x ≡ y = omega arith in eq→eqb e

pub le_at : (x y : Float) (s t : Bool) (a b p q r u : ℕ) → HasValue x s a 1 → HasValue y t b 1 → Worth s a p q → Worth t b r u → le x y ≡ leb (p + u) (r + q)
unfolding le
le_at x y s t a b p q r u v w g h =
    (λ i. (below_at x y s t a b v w ∙ below_worth s t a b p q r u g h) i || eq_at x y s t a b p q r u v w g h i) ∙ leb_split (p + u) (r + q)

pub le_diff : (f : Format) (p q r u : ℕ) → Within f p q → Within f r u → le (diff f p q) (diff f r u) ≡ leb (p + u) (r + q)
le_diff f p q r u h k = le_at (diff f p q) (diff f r u) (ltb p q) (ltb r u) (dist p q) (dist r u) p q r u (diff_value f p q h) (diff_value f r u k) (worth_of p q) (worth_of r u)

-- ---- casts
pub of_nat_diff : (f : Format) (n : ℕ) → of_int f (pos n) ≡ diff f n 0
unfolding of_int
of_nat_diff f n = round_diff f false n n 0 (omega arith) (λ t. absurd t)

pub diff_back : (f : Format) (w n : ℕ) → n ≤ 2 ^ prec f → n < 2 ^ w → T (in_unsigned f w (diff f n 0)) × (to_unsigned w (diff f n 0) ≡ n)
unfolding in_float
diff_back f w n h k = subst (λ (x : Float). T (in_unsigned f w x) × (to_unsigned w x ≡ n)) (of_nat_diff f n) (unsigned_back f w n (le→leb n (2 ^ prec f) h) k)

-- ---- the literals

pub zero_is : zero32 ≡ diff binary32 0 0
unfolding diff round of_bits
zero_is = refl

pub one_is : one32 ≡ diff binary32 1 0
unfolding diff round of_bits
one_is = refl

pub minus_one_is : minus_one32 ≡ diff binary32 0 1
unfolding diff round of_bits neg
minus_one_is = refl

pub cursor_most_is : cursor_most32 ≡ diff binary32 65535 0
unfolding diff round of_bits
cursor_most_is = refl
