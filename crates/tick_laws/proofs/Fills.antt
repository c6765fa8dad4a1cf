-- The cells that a tick writes are the floats of the tree's input cells.
use mathlib.Core.Path.{◌≡◌, refl, sym, ◌∙◌, ap}
use mathlib.Core.Bool.{Bool, true, false}
use mathlib.Core.List.{List, [], ◌∷◌, ◌++◌, append-nil, append_assoc, map-append}
use Prim.Native.Nat.{ℕ, zero, suc, ◌+◌, ◌*◌, ◌≤◌, ◌<◌, min}
use native.Mathlib.Omega.{arith}
use borrow.Author.Tests.{leb-true, leb-false}
use lib.Dec.{leb}
use lib.ListN.{length, get_or, set, take, length-set}
use lib.Seq.{take-suc-set}
use lib.Ieee.{Float, binary32}
use Rattle.exact.specs.Whole.{diff}
use Rattle.exact.proofs.Whole.{zero_is, one_is}
use Rattle.tree.specs.Forest.{Forest, size}
use Rattle.wire.specs.declared.Counts.{Counts}
use Rattle.lists.specs.Each.{each}
use Rattle.lists.specs.Fill.{fill_at}
use Rattle.lists.proofs.Fill.{fill_length, snoc}
use Rattle.walk.specs.Kind as K
use Rattle.walk.specs.Status.{status_of}
use Rattle.walk.specs.Walk.{is_running, as_read, cells_in, slots_in}
use Rattle.construct_floats.specs.Floats.{number}
use Rattle.construct_faithful.proofs.Values.{numbers}
use Rattle.tick_lane.specs.Evaluate.{bit, flag_cell, cursor_cell, status_bit, leaves_at, cells_of}
use Rattle.tick_lane.proofs.Cells.{leaves_length}
use Rattle.compile_laws.proofs.Cells.{three_of, row_cells, flag_cells, cursor_cells, cells_for}

-- ---- one cell

pub bit_number : (b : Bool) → bit b ≡ number (K.bit b)
bit_number true = one_is
bit_number false = zero_is

pub cursor_number : (x : ℕ) → diff binary32 (min x 65535) 0 ≡ number (as_read x)
cursor_number x = go (leb x 65535) refl
  where
    go : (b : Bool) → leb x 65535 ≡ b → diff binary32 (min x 65535) 0 ≡ number (as_read x)
    go true e =
        let h = leb-true x 65535 e in
        let q : min x 65535 ≡ x = omega arith in
        rw (q, e)
    go false e =
        let h = leb-false x 65535 e in
        let q : min x 65535 ≡ 65535 = omega arith in
        rw (q, e)

pub status_numbers : (s : ℕ) → s ≤ 2 → status_bit s 0 ∷ status_bit s 1 ∷ status_bit s 2 ∷ [] ≡ numbers (three_of (status_of s))
status_numbers zero h = λ i. one_is i ∷ zero_is i ∷ zero_is i ∷ []
status_numbers (suc zero) h = λ i. zero_is i ∷ one_is i ∷ zero_is i ∷ []
status_numbers (suc (suc zero)) h = λ i. zero_is i ∷ zero_is i ∷ one_is i ∷ []
status_numbers (suc (suc (suc s))) h = absurd (omega arith)

-- ---- lists that are written

fill_take : {A : Type 0} (base : ℕ) (g : ℕ → A) (xs : List A) (n : ℕ) → base + n ≤ length xs
    → take (base + n) (fill_at base g xs n) ≡ take base xs ++ each g 0 n
unfolding fill_at each
fill_take base g xs zero h = let e : base + 0 ≡ base = omega arith in ap (λ (k : ℕ). take k xs) e ∙ sym (append-nil (take base xs))
fill_take {A} base g xs (suc n) h =
    let e : base + suc n ≡ suc (base + n) = omega arith in
    let now = fill_at base g xs n in
    ap (λ (k : ℕ). take k (set now (base + n) (g n))) e
    ∙ take-suc-set now (base + n) (g n) (omega (arith, fill_length base g xs n))
    ∙ ap (λ (l : List A). l ++ (g n ∷ [])) (fill_take base g xs n (omega arith))
    ∙ append_assoc (take base xs) (each g 0 n) (g n ∷ [])
    ∙ ap (λ (l : List A). take base xs ++ l) (snoc g n)

each_numbers : (g : ℕ → Float) (k : ℕ → ℕ) (i n : ℕ) → ((j : ℕ) → g j ≡ number (k j)) → each g i n ≡ numbers (each k i n)
unfolding each
each_numbers g k i zero e = refl
each_numbers g k i (suc n) e = λ j. e i j ∷ each_numbers g k (suc i) n e j

-- three writes, one after the other
three_take : (l : List Float) (at : ℕ) (a b c : Float) → at + 3 ≤ length l
    → take (at + 3) (set (set (set l at a) (at + 1) b) (at + 2) c) ≡ take at l ++ (a ∷ b ∷ c ∷ [])
three_take l at a b c h =
    let e3 : at + 3 ≡ suc (at + 2) = omega arith in
    let e2 : at + 2 ≡ suc (at + 1) = omega arith in
    let e1 : at + 1 ≡ suc at = omega arith in
    let one = set l at a in
    let two = set one (at + 1) b in
    ap (λ (k : ℕ). take k (set two (at + 2) c)) e3
    ∙ take-suc-set two (at + 2) c (omega (arith, length-set one (at + 1) b, length-set l at a))
    ∙ ap (λ (k : ℕ). take k two ++ (c ∷ [])) e2
    ∙ ap (λ (xs : List Float). xs ++ (c ∷ [])) (take-suc-set one (at + 1) b (omega (arith, length-set l at a)))
    ∙ ap (λ (k : ℕ). (take k one ++ (b ∷ [])) ++ (c ∷ [])) e1
    ∙ ap (λ (xs : List Float). (xs ++ (b ∷ [])) ++ (c ∷ [])) (take-suc-set l at a (omega arith))
    ∙ simp append_assoc

leaves_take : (base : ℕ) (row : List ℕ) (xs : List Float) (n : ℕ) → base + 3 * n ≤ length xs → ((s : ℕ) → s < n → get_or row s 0 ≤ 2)
    → take (base + 3 * n) (leaves_at base row xs n) ≡ take base xs ++ numbers (row_cells row n)
unfolding leaves_at row_cells
leaves_take base row xs zero h r = let e : base + 3 * 0 ≡ base = omega arith in ap (λ (k : ℕ). take k xs) e ∙ sym (append-nil (take base xs))
leaves_take base row xs (suc n) h r =
    let at = base + 3 * n in
    let s = get_or row n 0 in
    let e : base + 3 * suc n ≡ at + 3 = omega arith in
    let now = leaves_at base row xs n in
    ap (λ (k : ℕ). take k (set (set (set now at (status_bit s 0)) (at + 1) (status_bit s 1)) (at + 2) (status_bit s 2))) e
    ∙ three_take now at (status_bit s 0) (status_bit s 1) (status_bit s 2) (omega (arith, leaves_length base row xs n))
    ∙ (λ i. leaves_take base row xs n (omega arith) (λ k b. r k (omega arith)) i ++ status_numbers s (r n (omega arith)) i)
    ∙ append_assoc (take base xs) (numbers (row_cells row n)) (numbers (three_of (status_of s)))
    ∙ ap (λ (l : List Float). take base xs ++ l) (sym (map-append (λ (v : ℕ). number v) (row_cells row n) (three_of (status_of s))))

-- THE LAW: the first cells of the table are the tree's input cells
pub cells_numbers : (f : Forest ℕ) (n : Counts) (flags cursors row : List ℕ) (values : List Float)
    → n.nodes ≡ size f → n.cursors ≡ cells_in f → n.leaves ≡ slots_in f
    → n.nodes + n.cursors + 3 * n.leaves ≤ length values → ((s : ℕ) → s < n.leaves → get_or row s 0 ≤ 2)
    → take (n.nodes + n.cursors + 3 * n.leaves) (cells_of n row flags cursors values) ≡ numbers (cells_for f flags cursors row)
unfolding cells_of
cells_numbers f n flags cursors row values en ec el h r =
    let N = n.nodes in
    let C = n.cursors in
    let L = n.leaves in
    let t1 = fill_at 0 (flag_cell flags) values N in
    let t2 = fill_at N (cursor_cell cursors) t1 C in
    let z : N ≡ 0 + N = omega arith in
    let fs = flag_cells flags N in
    let cs = cursor_cells cursors C in
    let ls = row_cells row L in
    let k1 : length t1 ≡ length values = fill_length 0 (flag_cell flags) values N in
    let k2 : length t2 ≡ length t1 = fill_length N (cursor_cell cursors) t1 C in
    leaves_take (N + C) row t2 L (omega arith) r
    ∙ ap (λ (l : List Float). l ++ numbers ls) (fill_take N (cursor_cell cursors) t1 C (omega arith))
    ∙ ap (λ (l : List Float). (l ++ each (cursor_cell cursors) 0 C) ++ numbers ls)
    (ap (λ (k : ℕ). take k t1) z ∙ fill_take 0 (flag_cell flags) values N (omega arith))
    ∙ (λ i. (each_numbers (flag_cell flags) (λ i. K.bit (is_running (get_or flags i 0))) 0 N (λ j. bit_number (is_running (get_or flags j 0))) i
    ++ each_numbers (cursor_cell cursors) (λ c. as_read (get_or cursors c 0)) 0 C (λ j. cursor_number (get_or cursors j 0)) i) ++ numbers ls)
    ∙ append_assoc (numbers fs) (numbers cs) (numbers ls)
    ∙ sym (map-append (λ (v : ℕ). number v) fs (cs ++ ls) ∙ ap (λ (l : List Float). numbers fs ++ l) (map-append (λ (v : ℕ). number v) cs ls))
    ∙ (λ i. numbers (flag_cells flags (en i) ++ (cursor_cells cursors (ec i) ++ row_cells row (el i))))
