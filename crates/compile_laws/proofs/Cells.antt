-- The input cells of a tree's state and row, as whole numbers.
use mathlib.Core.Path.{◌≡◌, refl, sym, ◌∙◌, ap}
use mathlib.Core.Bool.{Bool, true, false}
use mathlib.Core.List.{List, [], ◌∷◌, ◌++◌}
use mathlib.Core.Logic.{⊎_elim}
use Prim.Native.Nat.{ℕ, zero, suc, ◌+◌, ◌*◌, ◌≤◌, ◌<◌}
use native.Mathlib.Nat.{eq-or-lt_of_le, le_of_suc-le-suc}
use native.Mathlib.Omega.{arith}
use lib.ListN.{length, get_or, length-append, get_or-append}
use lib.Seq.{get_or-append-add}
use Rattle.tree.specs.Forest.{Forest, size}
use Rattle.lists.specs.Each.{each}
use Rattle.lists.proofs.Entries.{each_length, each_get_d}
use Rattle.construct.specs.Value.{cell}
use Rattle.walk.specs.Kind.{bit}
use Rattle.lists.specs.Every.{All}
use Rattle.walk.specs.Status.{Status, is_success, is_failure, is_running_status, status_of}
use Rattle.walk.specs.Walk.{is_running, as_read, cells_in, slots_in}
use Rattle.walk.proofs.Laws.{read_low}
use Rattle.lists.proofs.Every.{all_append}
use Rattle.construct_means.specs.Means.{Loaded}

-- three cells of a leaf, and those of n leaves
abbrev pub three_of : Status → List ℕ
three_of s = bit (is_success s) ∷ bit (is_failure s) ∷ bit (is_running_status s) ∷ []

unfoldable pub row_cells : List ℕ → ℕ → List ℕ
row_cells row zero = []
row_cells row (suc n) = row_cells row n ++ three_of (status_of (get_or row n 0))

abbrev pub flag_cells : List ℕ → ℕ → List ℕ
flag_cells flags n = each (λ i. bit (is_running (get_or flags i 0))) 0 n

abbrev pub cursor_cells : List ℕ → ℕ → List ℕ
cursor_cells cursors n = each (λ c. as_read (get_or cursors c 0)) 0 n

pub row_length : (row : List ℕ) (n : ℕ) → length (row_cells row n) ≡ 3 * n
unfolding row_cells
row_length row zero = refl
row_length row (suc n) = simp length-append (omega (arith, row_length row n))

-- slot s's three cells begin at 3 s
row_at : (row : List ℕ) (n s k : ℕ) → s < n → k < 3 → cell (row_cells row n) (3 * s + k) ≡ cell (three_of (status_of (get_or row s 0))) k
unfolding row_cells
row_at row zero s k h l = absurd (omega arith)
row_at row (suc n) s k h l =
    ⊎_elim
    (λ q.
    let e : 3 * s + k ≡ length (row_cells row n) + k = omega (arith, row_length row n) in
    ap (λ (j : ℕ). cell (row_cells row n ++ three_of (status_of (get_or row n 0))) j) e
    ∙ get_or-append-add (row_cells row n) (three_of (status_of (get_or row n 0))) k 0
    ∙ ap (λ (m : ℕ). cell (three_of (status_of (get_or row m 0))) k) (sym q))
    (λ b.
    get_or-append (row_cells row n) (three_of (status_of (get_or row n 0))) 0 (3 * s + k) (omega (arith, row_length row n))
    ∙ row_at row n s k b l)
    (eq-or-lt_of_le (le_of_suc-le-suc h))

module _ (f : Forest ℕ) (flags cursors row : List ℕ) where
  abbrev pub cells_for : List ℕ
  cells_for = flag_cells flags (size f) ++ (cursor_cells cursors (cells_in f) ++ row_cells row (slots_in f))

  abbrev fs : List ℕ
  fs = flag_cells flags (size f)

  abbrev cs : List ℕ
  cs = cursor_cells cursors (cells_in f)

  abbrev ls : List ℕ
  ls = row_cells row (slots_in f)

  flags_length : length fs ≡ size f
  flags_length = each_length (λ i. bit (is_running (get_or flags i 0))) 0 (size f)

  cursors_length : length cs ≡ cells_in f
  cursors_length = each_length (λ c. as_read (get_or cursors c 0)) 0 (cells_in f)

  past_flags : (k : ℕ) → cell cells_for (size f + k) ≡ cell (cs ++ ls) k
  past_flags k = ap (λ (n : ℕ). cell cells_for (n + k)) (sym flags_length) ∙ get_or-append-add fs (cs ++ ls) k 0

  past_cursors : (k : ℕ) → cell cells_for (size f + cells_in f + k) ≡ cell ls k
  past_cursors k =
      let e : size f + cells_in f + k ≡ size f + (length cs + k) = omega (arith, cursors_length) in
      ap (λ (n : ℕ). cell cells_for n) e ∙ past_flags (length cs + k) ∙ get_or-append-add cs ls k 0

  pub cells_loaded : Loaded f flags cursors row cells_for
  cells_loaded = record {
    long = length-append fs (cs ++ ls) ∙ omega (arith, length-append cs ls, flags_length, cursors_length, row_length row (slots_in f));
    flag = λ i h.
        let e : 0 + i ≡ i = omega arith in
        get_or-append fs (cs ++ ls) 0 i (omega (arith, flags_length)) ∙ each_get_d (λ i. bit (is_running (get_or flags i 0))) 0 (size f) i 0 h
        ∙ ap (λ (j : ℕ). bit (is_running (get_or flags j 0))) e;
    cursor = λ c h.
        let e : 0 + c ≡ c = omega arith in
        past_flags c ∙ get_or-append cs ls 0 c (omega (arith, cursors_length)) ∙ each_get_d (λ c. as_read (get_or cursors c 0)) 0 (cells_in f) c 0 h
        ∙ ap (λ (j : ℕ). as_read (get_or cursors j 0)) e;
    success = λ s h.
        let e : 3 * s ≡ 3 * s + 0 = omega arith in
        past_cursors (3 * s) ∙ ap (λ (j : ℕ). cell ls j) e ∙ row_at row (slots_in f) s 0 h (omega arith);
    failure = λ s h.
        let e : size f + cells_in f + 3 * s + 1 ≡ size f + cells_in f + (3 * s + 1) = omega arith in
        ap (λ (j : ℕ). cell cells_for j) e ∙ past_cursors (3 * s + 1) ∙ row_at row (slots_in f) s 1 h (omega arith);
    running = λ s h.
        let e : size f + cells_in f + 3 * s + 2 ≡ size f + cells_in f + (3 * s + 2) = omega arith in
        ap (λ (j : ℕ). cell cells_for j) e ∙ past_cursors (3 * s + 2) ∙ row_at row (slots_in f) s 2 h (omega arith);
  }

-- ---- each is below 2^24

abbrev pub Low : List ℕ → Type 0
Low xs = All (λ (v : ℕ). v ≤ 16777216) xs

bit_low : (b : Bool) → bit b ≤ 16777216
bit_low true = omega arith
bit_low false = omega arith

each_low : (g : ℕ → ℕ) (i n : ℕ) → ((k : ℕ) → g k ≤ 16777216) → Low (each g i n)
unfolding each
each_low g i zero h = tt
each_low g i (suc n) h = (h i, each_low g (suc i) n h)

row_low : (row : List ℕ) (n : ℕ) → Low (row_cells row n)
unfolding row_cells
row_low row zero = tt
row_low row (suc n) =
    let s = status_of (get_or row n 0) in
    all_append (λ (v : ℕ). v ≤ 16777216) (row_cells row n) (three_of s) (row_low row n) (bit_low (is_success s), (bit_low (is_failure s), (bit_low (is_running_status s), tt)))

pub cells_low : (f : Forest ℕ) (flags cursors row : List ℕ) → Low (cells_for f flags cursors row)
cells_low f flags cursors row =
    all_append (λ (v : ℕ). v ≤ 16777216) (flag_cells flags (size f)) (cursor_cells cursors (cells_in f) ++ row_cells row (slots_in f))
    (each_low (λ i. bit (is_running (get_or flags i 0))) 0 (size f) (λ i. bit_low (is_running (get_or flags i 0))))
    (all_append (λ (v : ℕ). v ≤ 16777216) (cursor_cells cursors (cells_in f)) (row_cells row (slots_in f))
    (each_low (λ c. as_read (get_or cursors c 0)) 0 (cells_in f) (λ c. omega (arith, read_low (get_or cursors c 0)))) (row_low row (slots_in f)))
