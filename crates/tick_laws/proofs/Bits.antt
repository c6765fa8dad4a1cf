-- The floats of bits and counts: what validation and the answers make of them, and where they stand among the values of the output forms.
use mathlib.Core.Path.{◌≡◌, refl, ◌∙◌, ap}
use mathlib.Core.Bool.{Bool, true, false, not, cond}
use mathlib.Core.List.{List, [], ◌∷◌, ◌++◌}
use mathlib.Core.Logic.{inl}
use Prim.Native.Nat.{ℕ, zero, suc, ◌+◌, ◌*◌, ◌≤◌, ◌<◌}
use native.Mathlib.Omega.{arith}
use borrow.Author.Tests.{le-leb}
use lib.Dec.{eqb, ltb}
use lib.ListN.{length, get_or, length-append}
use lib.Seq.{get_or-append-add}
use lib.Ieee.{Float, nan, binary32, add, eq, ne, lt, le}
use Rattle.exact.specs.Whole.{diff, one32, cursor_most32}
use Rattle.exact.specs.Tests.{is_bit, natural, count_of}
use Rattle.exact.proofs.Whole.{add_diff, eq_diff, lt_diff, le_diff, zero_is, one_is, cursor_most_is}
use Rattle.exact.proofs.Tests.{is_bit_lem, is_natural, counts_natural}
use Rattle.exact.proofs.Cursor.{count_is}
use Rattle.walk.specs.Kind as K
use Rattle.walk.specs.Status.{Status, Success, Failure, Running, is_success, is_failure, is_running_status}
use Rattle.walk.specs.Walk.{Fate, next_flag}
use Rattle.tick_lane.specs.Answers.{is_set, bit_of}
use Rattle.construct_floats.specs.Floats.{number}
use Rattle.construct_faithful.proofs.Values.{numbers}
use Rattle.lists.proofs.Sets.{map_at}
use Rattle.compile_laws.proofs.Passes.{is_true}
use Rattle.tick_laws.proofs.Values.{bits_of}

-- ---- one float

bit_most : (b : Bool) → K.bit b ≤ 1
bit_most true = omega arith
bit_most false = omega arith

pub bit_passes : (b : Bool) → is_bit (number (K.bit b)) ≡ true
bit_passes b = is_true (is_bit (number (K.bit b))) (is_bit_lem binary32 (number (K.bit b)) (K.bit b) (bit_most b) (inl refl))

pub bit_set : (b : Bool) → is_set (number (K.bit b)) ≡ b
unfolding ne
bit_set b =
    ap (λ (z : Float). not (eq (number (K.bit b)) z)) zero_is
    ∙ ap not (eq_diff binary32 (K.bit b) 0 0 0 (omega (arith, bit_most b), omega arith) (omega arith, omega arith)) ∙ go b
  where
    go : (b : Bool) → not (eqb (K.bit b + 0) (0 + 0)) ≡ b
    go true = refl
    go false = refl

pub bit_back : (b : Bool) → bit_of (number (K.bit b)) ≡ K.bit b
bit_back b = ap (λ (t : Bool). cond t 1 0) (bit_set b) ∙ go b
  where
    go : (b : Bool) → cond b 1 0 ≡ K.bit b
    go true = refl
    go false = refl

-- a status is one of three
pub status_sum : (s : Status)
    → lt one32 (add binary32 (add binary32 (number (K.bit (is_success s))) (number (K.bit (is_failure s)))) (number (K.bit (is_running_status s))))
    ≡ false
status_sum s =
    let a = K.bit (is_success s) in
    let b = K.bit (is_failure s) in
    let c = K.bit (is_running_status s) in
    let ha = bit_most (is_success s) in
    let hb = bit_most (is_failure s) in
    let hc = bit_most (is_running_status s) in
    (λ i. lt (one_is i) (add binary32 (add_diff binary32 a 0 b 0 (omega arith, omega arith) (omega arith, omega arith) i) (number c)))
    ∙ ap (lt (diff binary32 1 0)) (add_diff binary32 (a + b) (0 + 0) c 0 (omega arith, omega arith) (omega arith, omega arith))
    ∙ lt_diff binary32 1 0 (a + b + c) (0 + 0 + 0) (omega arith, omega arith) (omega arith, omega arith)
    ∙ go s
  where
    go : (s : Status) → ltb (1 + (0 + 0 + 0)) (K.bit (is_success s) + K.bit (is_failure s) + K.bit (is_running_status s) + 0) ≡ false
    go Success = refl
    go Failure = refl
    go Running = refl

module _ (v : ℕ) (h : v ≤ 65535) where
  pub count_natural : natural (number v) ≡ true
  count_natural = is_true (natural (number v)) (is_natural (number v) v (counts_natural binary32 (number v) v (omega arith) (inl refl)))

  pub count_low : le (number v) cursor_most32 ≡ true
  count_low =
      ap (le (number v)) cursor_most_is ∙ le_diff binary32 v 0 65535 0 (omega arith, omega arith) (omega arith, omega arith)
      ∙ le-leb (v + 0) (65535 + 0) (omega arith)

  pub count_back : count_of (number v) ≡ v
  count_back = count_is (number v) v h (inl refl)

-- ---- where they stand

pub record NodeAt (outs : List Float) (i : ℕ) (x : Fate) : Type 0 where
  pub success : get_or outs (6 * i) nan ≡ number (K.bit (is_success x.would))
  pub failure : get_or outs (6 * i + 1) nan ≡ number (K.bit (is_failure x.would))
  pub running : get_or outs (6 * i + 2) nan ≡ number (K.bit (is_running_status x.would))
  pub ticked : get_or outs (6 * i + 3) nan ≡ number (K.bit x.ticked)
  pub halted : get_or outs (6 * i + 4) nan ≡ number (K.bit x.halted)
  pub next : get_or outs (6 * i + 5) nan ≡ number (K.bit (next_flag x))

pub node_at_lem : (xs : List Fate) (cs : List ℕ) (i : ℕ) (d : Fate) → i < length xs → NodeAt (numbers (bits_of xs ++ cs)) i (get_or xs i d)
unfolding bits_of
node_at_lem [] cs i d h = absurd (omega arith)
node_at_lem (x ∷ xs) cs zero d h = record { success = refl; failure = refl; running = refl; ticked = refl; halted = refl; next = refl }
node_at_lem (x ∷ xs) cs (suc i) d h =
    let r = node_at_lem xs cs i d (omega arith) in
    let at : ℕ → Float = λ (j : ℕ). get_or (numbers (bits_of (x ∷ xs) ++ cs)) j nan in
    let e0 : 6 * suc i ≡ suc (suc (suc (suc (suc (suc (6 * i)))))) = omega arith in
    let e1 : 6 * suc i + 1 ≡ suc (suc (suc (suc (suc (suc (6 * i + 1)))))) = omega arith in
    let e2 : 6 * suc i + 2 ≡ suc (suc (suc (suc (suc (suc (6 * i + 2)))))) = omega arith in
    let e3 : 6 * suc i + 3 ≡ suc (suc (suc (suc (suc (suc (6 * i + 3)))))) = omega arith in
    let e4 : 6 * suc i + 4 ≡ suc (suc (suc (suc (suc (suc (6 * i + 4)))))) = omega arith in
    let e5 : 6 * suc i + 5 ≡ suc (suc (suc (suc (suc (suc (6 * i + 5)))))) = omega arith in
    record {
      success = ap at e0 ∙ r.success;
      failure = ap at e1 ∙ r.failure;
      running = ap at e2 ∙ r.running;
      ticked = ap at e3 ∙ r.ticked;
      halted = ap at e4 ∙ r.halted;
      next = ap at e5 ∙ r.next;
    }

bits_length : (xs : List Fate) → length (bits_of xs) ≡ 6 * length xs
unfolding bits_of
bits_length [] = refl
bits_length (x ∷ xs) = omega (arith, bits_length xs)

pub cursor_at_lem : (xs : List Fate) (cs : List ℕ) (n c : ℕ) → length xs ≡ n → c < length cs
    → get_or (numbers (bits_of xs ++ cs)) (6 * n + c) nan ≡ number (get_or cs c 0)
unfolding bits_of
cursor_at_lem xs cs n c e h =
    let q : 6 * n + c ≡ length (bits_of xs) + c = omega (arith, bits_length xs) in
    ap (λ (j : ℕ). get_or (numbers (bits_of xs ++ cs)) j nan) q
    ∙ map_at (λ (v : ℕ). number v) (bits_of xs ++ cs) (length (bits_of xs) + c) nan 0 (simp length-append (omega arith))
    ∙ ap (λ (v : ℕ). number v) (get_or-append-add (bits_of xs) cs c 0)
