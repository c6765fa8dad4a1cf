-- What a tick writes of the walk's values is the walk's answer.
use mathlib.Core.Path.{◌≡◌, refl, sym, ◌∙◌, ap}
use mathlib.Core.Bool.{Bool, true, false, cond}
use mathlib.Core.List.{List, ◌++◌, map, append-nil}
use Prim.Native.Nat.{ℕ, ◌+◌, ◌≤◌, ◌<◌}
use native.Mathlib.Omega.{arith}
use lib.ListN.{length, get_or, drop, length-map}
use lib.Seq.{drop-length}
use lib.Ieee.{Float}
use Rattle.exact.specs.Tests.{count_of}
use Rattle.wire.specs.Storage.{leaves_from}
use Rattle.lists.proofs.Entries.{each_is}
use Rattle.lists.specs.Fill.{prefix}
use Rattle.walk.specs.Kind as K
use Rattle.lists.specs.Every.{All}
use Rattle.walk.specs.Status.{Status, Success, Failure, Running, is_success, is_failure, code_of, not_ticked}
use Rattle.walk.specs.Walk.{Fate, next_flag, status, edge, is_running}
use Rattle.tick_lane.specs.Answers.{bit_of, status_of, status_at, halt_at, flag_at, edge_at, cursor_at}
use Rattle.construct_faithful.proofs.Values.{numbers}
use Rattle.lists.proofs.Sets.{map_at}
use Rattle.compile_laws.proofs.Images.{all_get_d}
use Rattle.tick_laws.proofs.Values.{bits_of}
use Rattle.tick_laws.proofs.Bits.{bit_set, bit_back, count_back, NodeAt, node_at_lem, cursor_at_lem}
use Rattle.tick_laws.proofs.Sound.{no_fate}

-- a list in the first places, and the rest as it was
pub prefix_is : (g : ℕ → ℕ) (n : ℕ) (xs old : List ℕ) → length xs ≡ n → ((k : ℕ) → k < n → g k ≡ get_or xs k 0) → prefix g n old ≡ xs ++ drop (length xs) old
unfolding prefix
prefix_is g n xs old e h = λ j. each_is g n xs 0 e h j ++ drop (sym e j) old

-- .. of which there is none
pub prefix_all : (g : ℕ → ℕ) (n : ℕ) (xs old : List ℕ) → length xs ≡ n → length old ≡ n → ((k : ℕ) → k < n → g k ≡ get_or xs k 0) → prefix g n old ≡ xs
prefix_all g n xs old e l h =
    prefix_is g n xs old e h ∙ ap (λ (k : ℕ). xs ++ drop k old) (e ∙ sym l) ∙ ap (λ (r : List ℕ). xs ++ r) (drop-length old) ∙ append-nil xs

-- ---- one node

coded : (t : Bool) (s : Status)
    → cond t (cond (is_success s) (code_of Success) (cond (is_failure s) (code_of Failure) (code_of Running))) not_ticked ≡ cond t (code_of s) not_ticked
coded false s = refl
coded true Success = refl
coded true Failure = refl
coded true Running = refl

module _ (outs : List Float) (i : ℕ) (x : Fate) (a : NodeAt outs i x) where
  status_is : status_at outs i ≡ status x
  unfolding status_at
  status_is =
      (λ j. status_of (a.ticked j) (a.success j) (a.failure j))
      ∙ (λ j. cond (bit_set x.ticked j) (cond (bit_set (is_success x.would) j) (code_of Success)
      (cond (bit_set (is_failure x.would) j) (code_of Failure) (code_of Running))) not_ticked)
      ∙ coded x.ticked x.would

  halt_is : halt_at outs i ≡ K.bit x.halted
  unfolding halt_at
  halt_is = ap bit_of a.halted ∙ bit_back x.halted

  flag_is : flag_at outs i ≡ K.bit (next_flag x)
  unfolding flag_at
  flag_is = ap bit_of a.next ∙ bit_back (next_flag x)

runs : (b : Bool) → is_running (K.bit b) ≡ b
runs true = refl
runs false = refl

-- ---- all of them

module _ (xs : List Fate) (cs : List ℕ) (n c : ℕ) (nodes : length xs ≡ n) (cells : length cs ≡ c) where
  abbrev outs : List Float
  outs = numbers (bits_of xs ++ cs)

  at : (k : ℕ) → k < n → NodeAt outs k (get_or xs k no_fate)
  at k h = node_at_lem xs cs k no_fate (omega arith)

  pub statuses_are : (old : List ℕ) → prefix (status_at outs) n old ≡ map status xs ++ drop (length (map status xs)) old
  statuses_are old =
      prefix_is (status_at outs) n (map status xs) old (length-map xs status ∙ nodes)
      (λ k h. status_is outs k (get_or xs k no_fate) (at k h) ∙ sym (map_at status xs k 0 no_fate (omega arith)))

  pub halts_are : (old : List ℕ)
      → prefix (halt_at outs) n old ≡ map (λ (x : Fate). K.bit x.halted) xs ++ drop (length (map (λ (x : Fate). K.bit x.halted) xs)) old
  halts_are old =
      prefix_is (halt_at outs) n (map (λ (x : Fate). K.bit x.halted) xs) old (length-map xs (λ (x : Fate). K.bit x.halted) ∙ nodes)
      (λ k h. halt_is outs k (get_or xs k no_fate) (at k h) ∙ sym (map_at (λ (x : Fate). K.bit x.halted) xs k 0 no_fate (omega arith)))

  pub flags_are : (old : List ℕ) → length old ≡ n → prefix (flag_at outs) n old ≡ map (λ (x : Fate). K.bit (next_flag x)) xs
  flags_are old l =
      prefix_all (flag_at outs) n (map (λ (x : Fate). K.bit (next_flag x)) xs) old (length-map xs (λ (x : Fate). K.bit (next_flag x)) ∙ nodes) l
      (λ k h. flag_is outs k (get_or xs k no_fate) (at k h) ∙ sym (map_at (λ (x : Fate). K.bit (next_flag x)) xs k 0 no_fate (omega arith)))

  pub cursors_are : (old : List ℕ) → length old ≡ c → All (λ (v : ℕ). v ≤ 65535) cs → prefix (cursor_at outs n) c old ≡ cs
  unfolding cursor_at
  cursors_are old l low =
      prefix_all (cursor_at outs n) c cs old cells l
      (λ k h.
      ap count_of (cursor_at_lem xs cs n k nodes (omega arith)) ∙ count_back (get_or cs k 0) (all_get_d (λ (v : ℕ). v ≤ 65535) cs k 0 low (omega arith)))

  -- the edge of a slot, by the node that the leaf list gives
  pub edge_is : (nums flags : List ℕ) (slot node : ℕ) → get_or nums (leaves_from + slot) 0 ≡ node → node < n
      → edge_at nums flags outs slot ≡ edge (is_running (get_or flags node 0)) (next_flag (get_or xs node no_fate))
  unfolding edge_at
  edge_is nums flags slot node e h =
      (λ j. edge (is_running (get_or flags (e j) 0)) (is_running (flag_at outs (e j))))
      ∙ ap (λ (m : ℕ). edge (is_running (get_or flags node 0)) (is_running m)) (flag_is outs node (get_or xs node no_fate) (at node h))
      ∙ ap (λ (b : Bool). edge (is_running (get_or flags node 0)) b) (runs (next_flag (get_or xs node no_fate)))
