-- What a composite's children are told is the construction's `spread`.
use Prim.Native.Nat.{ℕ, suc, ◌+◌, ◌*◌, ◌≤◌, ◌<◌}
use native.Mathlib.Omega.{arith}
use native.Mathlib.Nat.{add-zero}
use mathlib.Core.Path.{◌≡◌, sym, subst, ◌∙◌}
use mathlib.Core.List.{List, [], ◌∷◌, ◌++◌}
use lib.ListN.{length, length-map, length-append}
use Rattle.wire.specs.declared.Form.{Form}
use Rattle.wire.specs.Terms.{Affine}
use Rattle.construct.specs.Builder.{Op, Out, and, or}
use Rattle.construct.specs.Lower.{ArbitratedChild, Entry, Many, spread}
use Rattle.construct_floats.specs.Floats.{floats}
use Rattle.builder_table.specs.Work.{Standing, Mem, loaded, Stood}
use Rattle.builder_laws.specs.Table.{Stands}
use Rattle.lower_room.proofs.Uses.{or_use, spread_use}
use Rattle.builder_laws.proofs.Running.{Not, Keeps, Runs, Rows}
use Rattle.builder_laws.proofs.Runs.{slot_kept, rows_kept, Ready, runs_none, runs_then, runs_less, runs_wide, ready_after, stands_after}
use Rattle.builder_laws.proofs.Steps.{and_runs, or_runs}
use Rattle.builder_table.specs.Slots.{reach_from, after_stop_from, entry_reached_from, entry_called_from}
use Rattle.lower_passes.specs.Reach.{entry_in, spread_one_in, spread_in}
use Rattle.lower_ordered_laws.proofs.Orders.{reaches, afters}
use Rattle.lower_ordered_laws.proofs.Passes.{EntriesAt}
use Rattle.lower_ordered_laws.proofs.Kept.{entries_kept}
use Rattle.lower_reach_laws.proofs.Counts.{spread_count}
use Rattle.lower_reach_laws.proofs.Store.{store_runs}

-- the slots left alone by n entries from depth d on
abbrev pub Told : ℕ → ℕ → ℕ → Type 0
Told d n k = Not (entry_reached_from + d) (entry_reached_from + d + n) k × Not (entry_called_from + d) (entry_called_from + d + n) k

-- ---- one entry

-- at depth d stands x
pub record EntryAt (d : ℕ) (m : Mem) (b : Standing) (x : Entry Affine) : Type 0 where
  pub reached : Stands m b (loaded m (entry_reached_from + d)) x.reached
  pub called : Stands m b (loaded m (entry_called_from + d)) x.called

pub record Entered (d : ℕ) (m : Mem) (b : Standing) (m' : Mem) (x : Entry Affine) (os : List (Op Affine)) : Type 0 where
  pub runs : Runs (Told d 1) m b m' b os 0 0
  pub entry : EntryAt d m' b x

pub entry_law : {n : ℕ} {m : Mem} {b : Standing} {os : List (Op Affine)} {f g : Form} {x y : Affine} → Ready n m b os → (d : ℕ) → d < 128 → Stands m b f x → Stands m b g y
    → Entered d m b (entry_in m d f g) (record { reached = x; called = y }) os
unfolding entry_in
entry_law r d l hx hy =
    let p = store_runs {K = Told d 1} r (entry_reached_from + d) (omega arith) (λ q. q.0 (omega arith) (omega arith)) hx in
    let s = store_runs {K = Told d 1} (ready_after p.runs r) (entry_called_from + d) (omega arith) (λ q. q.1 (omega arith) (omega arith)) (stands_after p.runs hy) in
    let t = store_runs {K = Not (entry_called_from + d) (entry_called_from + d + 1)} (ready_after p.runs r) (entry_called_from + d) (omega arith) (λ q. q (omega arith) (omega arith)) (stands_after p.runs hy) in
    record {
      runs = runs_then p.runs s.runs;
      entry = record { reached = slot_kept t.runs.keeps (entry_reached_from + d) (omega arith) (omega arith) p.slot; called = s.slot };
    }

-- an entry above others
pub entries_push : {m : Mem} {b : Standing} {d : ℕ} {x : Entry Affine} → EntryAt d m b x → (es : List (Entry Affine)) → length es ≡ d → EntriesAt m b es → EntriesAt m b (x ∷ es)
entries_push h es e t =
    record {
      reached = (rw (length-map es (λ (x : Entry Affine). x.reached) ∙ e) h.reached, t.reached);
      called = (rw (length-map es (λ (x : Entry Affine). x.called) ∙ e) h.called, t.called);
    }

pub entry_kept : {K : ℕ → Type 0} {m : Mem} {b : Standing} {m' : Mem} {b' : Standing} → Keeps K m b m' b' → (d : ℕ) (x : Entry Affine) → d < 128 → K (entry_reached_from + d) → K (entry_called_from + d)
    → EntryAt d m b x → EntryAt d m' b' x
entry_kept g d x l p q h = record { reached = slot_kept g (entry_reached_from + d) (omega arith) p h.reached; called = slot_kept g (entry_called_from + d) (omega arith) q h.called }

-- ---- one child

-- reached AND reach_k; reached AND after_stop_k; halted OR that
abbrev ticks : ℕ → Affine → ArbitratedChild Affine → List (Op Affine) → Out Affine
ticks n r x os = and floats n r x.reach os

abbrev stopped : ℕ → Affine → ArbitratedChild Affine → List (Op Affine) → Out Affine
stopped n r x os = and floats n r x.after_stop (ticks n r x os).ops

abbrev halts : ℕ → Affine → Affine → ArbitratedChild Affine → List (Op Affine) → Out Affine
halts n r h x os = or floats n h (stopped n r x os).form (stopped n r x os).ops

record OneRuns (n d : ℕ) (m : Mem) (b : Standing) (r h : Affine) (x : ArbitratedChild Affine) (os : List (Op Affine)) (e : Stood) : Type 0 where
  runs : Runs (Told d 1) m b e.mem e.builder (halts n r h x os).ops (2 + or_use floats h (stopped n r x os).form) 3
  entry : EntryAt d e.mem e.builder (record { reached = (ticks n r x os).form; called = (halts n r h x os).form })

module _ {n : ℕ} {f g : Form} {r h : Affine} where
  one_law : {m : Mem} {b : Standing} {os : List (Op Affine)} → Ready n m b os → Stands m b f r → Stands m b g h → (row d : ℕ) (x : ArbitratedChild Affine) → d < 128
      → Stands m b (loaded m (reach_from + row)) x.reach → Stands m b (loaded m (after_stop_from + row)) x.after_stop → OneRuns n d m b r h x os (spread_one_in m b f g row d)
  unfolding spread_one_in
  one_law z hr hh row d x l p q =
      let a = and_runs {K = Told d 1} z hr p in
      let za = ready_after a.runs z in
      let s = and_runs {K = Told d 1} za (stands_after a.runs hr) (stands_after a.runs q) in
      let zs = ready_after s.runs za in
      let c = or_runs {K = Told d 1} zs (stands_after s.runs (stands_after a.runs hh)) s.form in
      let e = entry_law (ready_after c.runs zs) d l (stands_after c.runs (stands_after s.runs a.form)) c.form in
      record { runs = runs_wide (runs_then a.runs (runs_then s.runs (runs_then c.runs e.runs))) _ _ (omega arith) (omega arith); entry = e.entry }

-- ---- all children

pub record SpreadRuns (d n need : ℕ) (m : Mem) (b : Standing) (es : List (Entry Affine)) (e : Stood) (s : Many Affine (Entry Affine)) : Type 0 where
  pub runs : Runs (Told d n) m b e.mem e.builder s.ops need (3 * n)
  pub entries : EntriesAt e.mem e.builder (s.items ++ es)

module _ {n : ℕ} {f g : Form} {r h : Affine} (cursorsAt row : ℕ) (es : List (Entry Affine)) where
  spread_from : {m : Mem} {b : Standing} {os : List (Op Affine)} → Ready n m b os → Stands m b f r → Stands m b g h → (k : ℕ) (xs : List (ArbitratedChild Affine)) → row + k + length xs ≤ 128
      → length es + length xs ≤ 128 → Rows m b (reach_from + (row + k)) (reaches xs) → Rows m b (after_stop_from + (row + k)) (afters xs) → EntriesAt m b es
      → SpreadRuns (length es) (length xs) (spread_use floats n r h xs os) m b es (spread_in m b f g row (length es) k (length xs)) (spread floats n cursorsAt r h xs os)
  unfolding spread_in spread spread_use
  spread_from z hr hh k [] l d p q t = record { runs = runs_none z; entries = t }
  spread_from {m} {b} {os} z hr hh k (x ∷ xs) l d p q t =
      let o = one_law z hr hh (row + k) (length es + length xs) x (omega arith) p.0 q.0 in
      let g' = o.runs.keeps in
      let lr = length-map xs (λ (y : ArbitratedChild Affine). y.reach) in
      let la = length-map xs (λ (y : ArbitratedChild Affine). y.after_stop) in
      let p' = rows_kept g' (suc (reach_from + (row + k))) (reaches xs) (omega arith) (λ j a c. omega arith) p.1 in
      let q' = rows_kept g' (suc (after_stop_from + (row + k))) (afters xs) (omega arith) (λ j a c. omega arith) q.1 in
      let s = spread_one_in m b f g (row + k) (length es + length xs) in
      let er : suc (reach_from + (row + k)) ≡ reach_from + (row + (k + 1)) = omega arith in
      let ea : suc (after_stop_from + (row + k)) ≡ after_stop_from + (row + (k + 1)) = omega arith in
      let rest =
      spread_from {m = s.mem} (ready_after o.runs z) (stands_after o.runs hr) (stands_after o.runs hh) (k + 1) xs (omega arith) (omega arith)
      (subst (λ (j : ℕ). Rows s.mem s.builder j (reaches xs)) er p')
      (subst (λ (j : ℕ). Rows s.mem s.builder j (afters xs)) ea q')
      (entries_kept g' es (omega arith) (λ j a c. omega arith) (λ j a c. omega arith) t) in
      let told = (spread floats n cursorsAt r h xs (halts n r h x os).ops).items in
      let en : length (told ++ es) ≡ length es + length xs = omega (arith, length-append told es, spread_count floats n cursorsAt r h xs (halts n r h x os).ops) in
      let e = entry_kept rest.runs.keeps (length es + length xs) _ (omega arith) (omega arith) (omega arith) o.entry in
      record {
        runs = runs_wide (runs_then (runs_less o.runs (λ j u. (λ a c. u.0 (omega arith) (omega arith), λ a c. u.1 (omega arith) (omega arith))))
            (runs_less rest.runs (λ j u. (λ a c. u.0 (omega arith) (omega arith), λ a c. u.1 (omega arith) (omega arith))))) _ _ (omega arith) (omega arith);
        entries = entries_push e (told ++ es) en rest.entries;
      }

  pub spread_law : {m : Mem} {b : Standing} {os : List (Op Affine)} → Ready n m b os → Stands m b f r → Stands m b g h → (xs : List (ArbitratedChild Affine)) → row + length xs ≤ 128
      → length es + length xs ≤ 128 → Rows m b (reach_from + row) (reaches xs) → Rows m b (after_stop_from + row) (afters xs) → EntriesAt m b es
      → SpreadRuns (length es) (length xs) (spread_use floats n r h xs os) m b es (spread_in m b f g row (length es) 0 (length xs)) (spread floats n cursorsAt r h xs os)
  spread_law {m} {b} z hr hh xs l d p q t =
      spread_from z hr hh 0 xs (omega arith) d
      (subst (λ (j : ℕ). Rows m b (reach_from + j) (reaches xs)) (sym (add-zero row)) p)
      (subst (λ (j : ℕ). Rows m b (after_stop_from + j) (afters xs)) (sym (add-zero row)) q) t
