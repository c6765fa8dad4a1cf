-- What one tick computes: one of three statuses, never both ticked and halted, whole sums below 2^24.
use Rattle.std.specs.Prelude.{Ok}
use mathlib.Core.Path.{◌≡◌, refl, sym, ◌∙◌, ap}
use mathlib.Core.Bool.{Bool, true, false, cond, ◌&&◌}
use mathlib.Core.List.{List, map}
use mathlib.Core.Logic.{◌⊎◌, inl, inr}
use Prim.Native.Nat.{ℕ, ◌+◌, ◌*◌, ◌<◌}
use native.Mathlib.Omega.{arith}
use lib.ListN.{length, get_or, drop, length-map, get_or-append}
use lib.Ieee.{Float, nan}
use Rattle.tree.specs.Forest.{Forest}
use Rattle.tree.specs.Bytes as limits
use Rattle.wire.specs.declared.Counts.{Counts}
use Rattle.wire.specs.Storage as W
use Rattle.lists.proofs.Entries.{each_get_d}
use Rattle.walk.specs.Kind as K
use Rattle.walk.specs.Status.{Status, Success, is_success, is_failure, is_running_status, code_of, not_ticked}
use Rattle.walk.specs.Walk.{Fate, fates_of, walk, answer_of, status}
use Rattle.walk.proofs.Laws.{never_both, Apart}
use Rattle.construct_means.specs.Means as means
use Rattle.construct_faithful.proofs.Values.{numbers}
use Rattle.tick_check.specs.Check.{Stored}
use Rattle.tick_lane.specs.Evaluate as E
use Rattle.tick_lane.specs.Lane.{Lent, outcome}
use Rattle.compile.specs.Compile as compile
use Rattle.lists.proofs.Sets.{map_at}
use Rattle.compile_laws.proofs.Compiles.{tree_circuit, stored_of, Slots}
use Rattle.compile_laws.proofs.Images.{all_get_d}
use Rattle.tick_laws.proofs.Values.{values_of}
use Rattle.tick_laws.proofs.Fills.{bit_number}
use Rattle.tick_laws.proofs.Bits.{node_at_lem}
use Rattle.tick_laws.proofs.Sound.{no_fate}
use Rattle.demands.specs.Demands.{ValidRow, Ready, over, walked, OneOfThree, NeverBoth, Sure}
use Rattle.demands.proofs.Once.{fate_count, outs_same}
use Rattle.demands.proofs.Exact.{drops_nothing}

-- a node that is not ticked and halted at once
apart : (t h : Bool) (st : Status) → t && h ≡ false → (cond t (code_of st) not_ticked ≡ not_ticked) ⊎ (K.bit h ≡ 0)
apart false h st e = inl refl
apart true h st e = inr (ap K.bit e)

module _ (f : Forest ℕ) (w : limits.Within f) (l : compile.Lent) (slots : Slots l (tree_circuit f))
    (row : List ℕ) (m : Lent) (valid : ValidRow f row) (ready : Ready f (stored_of l f).counts m) where
  abbrev s : Stored
  s = stored_of l f

  abbrev n : Counts
  n = s.counts

  abbrev xs : List Fate
  xs = fates_of f m.flags m.cursors row

  abbrev table : List Float
  table = E.table_of s row m.flags m.cursors m.values

  nodes : length xs ≡ n.nodes
  nodes = fate_count f w l slots row m valid ready

  -- an output form's value, of the list of all
  out_is : (k : ℕ) (x : Float) → k < W.output_count n → get_or (numbers (values_of xs)) k nan ≡ x → E.out_value s table k ≡ x
  unfolding E.outs_of
  out_is k x h e =
      let z : 0 + k ≡ k = omega arith in
      sym (each_get_d (E.out_value s table) 0 (W.output_count n) k nan h ∙ ap (E.out_value s table) z)
      ∙ ap (λ (ys : List Float). get_or ys k nan) (outs_same f w l slots row m valid ready) ∙ e

  one_of_three : OneOfThree s table xs
  one_of_three i h =
      let st = (get_or xs i no_fate).would in
      let a = node_at_lem xs (means.cursors_of xs) i no_fate (omega (arith, nodes)) in
      let same = map_at (λ (x : Fate). x.would) xs i Success no_fate (omega (arith, nodes)) in
      rw same (
        out_is (6 * i) (E.bit (is_success st)) (omega arith) (a.success ∙ sym (bit_number (is_success st))),
        out_is (6 * i + 1) (E.bit (is_failure st)) (omega arith) (a.failure ∙ sym (bit_number (is_failure st))),
        out_is (6 * i + 2) (E.bit (is_running_status st)) (omega arith) (a.running ∙ sym (bit_number (is_running_status st))),
      )

  apart_all : NeverBoth s (walked s f row m)
  unfolding walked walk answer_of
  apart_all i h =
      let x = get_or xs i no_fate in
      let b : i < length xs = omega (arith, nodes) in
      let halt : Fate → ℕ = λ (x : Fate). K.bit x.halted in
      let e1 : get_or (over (map status xs) m.statuses) i not_ticked ≡ status x
      = get_or-append (map status xs) (drop (length (map status xs)) m.statuses) not_ticked i (omega (arith, length-map xs status))
      ∙ map_at status xs i not_ticked no_fate b in
      let e2 : get_or (over (map halt xs) m.halts) i 0 ≡ K.bit x.halted
      = get_or-append (map halt xs) (drop (length (map halt xs)) m.halts) 0 i (omega (arith, length-map xs halt)) ∙ map_at halt xs i 0 no_fate b in
      let never = all_get_d Apart xs i no_fate (never_both f m.flags m.cursors row) b in
      go (status x) (K.bit x.halted) e1 e2 (apart x.ticked x.halted x.would never)
    where
      go : {a b : ℕ} (c d : ℕ) → a ≡ c → b ≡ d → (c ≡ not_ticked) ⊎ (d ≡ 0) → (a ≡ not_ticked) ⊎ (b ≡ 0)
      go c d p q (inl e) = inl (p ∙ e)
      go c d p q (inr e) = inr (q ∙ e)

  pub sure : Sure s f (record { row = row; lent = m; out = outcome (Ok tt) (walked s f row m) })
  unfolding walked
  sure = record { walks = refl; one_of_three = one_of_three; apart = apart_all; exact = drops_nothing f w l slots row m valid ready }
