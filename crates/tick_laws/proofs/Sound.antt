-- Validation passes the walk's values.
use Rattle.std.specs.Prelude.{Ok}
use Rattle.std.specs.Result.{result_and}
use mathlib.Core.Path.{◌≡◌, refl}
use mathlib.Core.Bool.{Bool, false}
use mathlib.Core.List.{List, ◌++◌}
use Prim.Native.Nat.{ℕ, zero, suc, ◌+◌, ◌*◌, ◌≤◌, ◌<◌}
use native.Mathlib.Omega.{arith}
use lib.ListN.{length, get_or}
use lib.Ieee.{Float, nan, binary32, add}
use Rattle.index.specs.declared.NodeIndex.{NodeIndex}
use Rattle.tick_verdict.specs.Verdict.{Verdict, first_of, bit, one_hot, node_of, node_at, cursor_at, low_at, tick_verdict}
use Rattle.walk.specs.Kind as K
use Rattle.lists.specs.Every.{All}
use Rattle.walk.specs.Status.{Status, Success, is_success, is_failure, is_running_status}
use Rattle.walk.specs.Walk.{Fate, next_flag}
use Rattle.construct_floats.specs.Floats.{number}
use Rattle.construct_faithful.proofs.Values.{numbers}
use Rattle.compile_laws.proofs.Images.{all_get_d}
use Rattle.tick_laws.proofs.Values.{bits_of}
use Rattle.tick_laws.proofs.Bits.{bit_passes, status_sum, count_natural, count_low, NodeAt, node_at_lem, cursor_at_lem}

first_all : (v : ℕ → Verdict) (n : ℕ) → ((i : ℕ) → i < n → v i ≡ Ok tt) → first_of v n ≡ Ok tt
first_all v zero h = refl
first_all v (suc n) h = λ j. result_and (first_all v n (λ i b. h i (omega arith)) j) (h n (omega arith) j)

bit_sound : (node : NodeIndex) (x : Float) (b : Bool) → x ≡ number (K.bit b) → bit node x ≡ Ok tt
bit_sound node x b e = rw (e, bit_passes b)

hot_sound : (node : NodeIndex) (s f r : Float) (st : Status)
    → s ≡ number (K.bit (is_success st)) → f ≡ number (K.bit (is_failure st)) → r ≡ number (K.bit (is_running_status st))
    → one_hot node (add binary32 (add binary32 s f) r) ≡ Ok tt
hot_sound node s f r st es ef er = rw (es, ef, er, status_sum st)

node_sound : (outs : List Float) (i : ℕ) (x : Fate) → NodeAt outs i x → node_at outs i ≡ Ok tt
node_sound outs i x a =
    let node = node_of i in
    λ j.
    result_and
    (result_and (bit_sound node (get_or outs (6 * i) nan) (is_success x.would) a.success j)
    (result_and (bit_sound node (get_or outs (6 * i + 1) nan) (is_failure x.would) a.failure j)
    (result_and (bit_sound node (get_or outs (6 * i + 2) nan) (is_running_status x.would) a.running j)
    (hot_sound node (get_or outs (6 * i) nan) (get_or outs (6 * i + 1) nan) (get_or outs (6 * i + 2) nan) x.would a.success a.failure a.running j))))
    (result_and (bit_sound node (get_or outs (6 * i + 3) nan) x.ticked a.ticked j)
    (result_and (bit_sound node (get_or outs (6 * i + 4) nan) x.halted a.halted j)
    (bit_sound node (get_or outs (6 * i + 5) nan) (next_flag x) a.next j)))

-- what is read past the end of a list
abbrev pub no_fate : Fate
no_fate = record { own = record { kind = K.Leaf; running = false; cursor = 0; given = Success }; would = Success; ticked = false; halted = false; resume = 0 }

-- THE LAW, for next cursors of at most 65,535
pub verdict_sound : (xs : List Fate) (cs : List ℕ) (n c : ℕ) → length xs ≡ n → length cs ≡ c → All (λ (v : ℕ). v ≤ 65535) cs
    → tick_verdict (numbers (bits_of xs ++ cs)) n c ≡ Ok tt
verdict_sound xs cs n c en ec h =
    let outs = numbers (bits_of xs ++ cs) in
    let at : (i : ℕ) → i < c → get_or cs i 0 ≤ 65535 = λ i b. all_get_d (λ (v : ℕ). v ≤ 65535) cs i 0 h (omega arith) in
    let stands : (i : ℕ) → i < c → get_or outs (6 * n + i) nan ≡ number (get_or cs i 0) = λ i b. cursor_at_lem xs cs n i en (omega arith) in
    let nodes = first_all (node_at outs) n (λ i b. node_sound outs i (get_or xs i no_fate) (node_at_lem xs cs i no_fate (omega arith))) in
    let whole = first_all (cursor_at outs n) c (λ i b. rw (stands i b, count_natural (get_or cs i 0) (at i b))) in
    let lows = first_all (low_at outs n) c (λ i b. rw (stands i b, count_low (get_or cs i 0) (at i b))) in
    λ j. result_and (result_and (nodes j) (whole j)) (lows j)
