-- The third loop of lower_ordered followed: the slots of stop, reach and after stand for the construction's, and the sum for that of all stops. Assumes
-- nothing.
use Prim.Native.Nat.{ℕ, suc, ◌+◌, ◌*◌, ◌≤◌, ◌<◌}
use native.Mathlib.Omega.{arith}
use mathlib.Core.Path.{◌≡◌, refl, ap}
use mathlib.Core.List.{List, [], ◌∷◌, map}
use lib.ListN.{length, length-map}
use Rattle.wire.specs.declared.Form.{Form}
use Rattle.wire.specs.Terms.{Affine}
use Rattle.construct.specs.Builder.{Op, and, not'}
use Rattle.construct.specs.Lower.{StatusBits, ClearedChild, ArbitratedChild, Many, stops, total}
use Rattle.construct_floats.specs.Floats.{floats}
use Rattle.builder_table.specs.Work.{Standing, Mem, Ended, loaded, saved}
use Rattle.builder_laws.specs.Table.{Stands}
use Rattle.builder_table.specs.Slots.{before_from, blocked_from, clear_from, stops_from, reach_from, after_stop_from}
use Rattle.lower_passes.specs.Stops.{reach_in, stop_in, stops_in}
use Rattle.lower_room.proofs.Uses.{plus_use, stops_use}
use Rattle.builder_laws.proofs.Running.{Not, Runs, Rows}
use Rattle.builder_laws.proofs.Runs.{slot_kept, rows_kept, slot_filled, Ready, runs_none, runs_then, runs_less, runs_wide, ready_after, stands_after, saved_runs}
use Rattle.builder_laws.proofs.Steps.{not_runs, plus_runs, and_runs}
use Rattle.lower_ordered_laws.proofs.Orders.{reaches, afters}
use Rattle.lower_ordered_laws.proofs.Gates.{Filled}
use Rattle.lower_ordered_laws.proofs.Clears.{Summed, clear_bits}

-- ---- the construction's lists

abbrev pub stop_bits : List (ArbitratedChild Affine) → List Affine
stop_bits xs = map (λ (x : ArbitratedChild Affine). x.stop) xs

abbrev pub kid_befores : List (ClearedChild Affine) → List Affine
kid_befores xs = map (λ (x : ClearedChild Affine). x.child.before) xs

abbrev pub kid_blockeds : List (ClearedChild Affine) → List Affine
kid_blockeds xs = map (λ (x : ClearedChild Affine). x.child.blocked) xs

module _ (n : ℕ) where
  pub stops_count : (acc : Affine) (xs : List (ClearedChild Affine)) (os : List (Op Affine)) → length (stops floats n acc xs os).items ≡ length xs
  unfolding stops
  stops_count acc [] os = refl
  stops_count acc (x ∷ xs) os = ap suc (stops_count (floats.plus acc (and floats n x.clear x.child.blocked (and floats n x.clear (not' floats x.child.before) os).ops).form) xs _)

  pub stops_trips : (part : StatusBits Affine → Affine) (acc : Affine) (xs : List (ClearedChild Affine)) (os : List (Op Affine))
      → map (λ (x : ArbitratedChild Affine). part x.status) (stops floats n acc xs os).items ≡ map (λ (x : ClearedChild Affine). part x.child.status) xs
  unfolding stops
  stops_trips part acc [] os = refl
  stops_trips part acc (x ∷ xs) os = ap (part x.child.status ∷◌)
      (stops_trips part (floats.plus acc (and floats n x.clear x.child.blocked (and floats n x.clear (not' floats x.child.before) os).ops).form) xs _)

-- ---- one child

reach_one : {n : ℕ} {K : ℕ → Type 0} {m : Mem} {b : Standing} {os : List (Op Affine)} {before clear : Affine} (k row : ℕ)
    → Ready n m b os → Stands m b (loaded m (before_from + k)) before → Stands m b (loaded m (clear_from + k)) clear → row < 128 → (K (reach_from + row) → ⊥)
    → let r = and floats n clear (not' floats before) os in
    Filled K m b (record { mem = (reach_in m b k row).mem; builder = (reach_in m b k row).builder }) (reach_from + row) r.form r.ops (floats.terms before + 1) 1
unfolding reach_in
reach_one {K = K} k row r hb hc l p =
    let not-before = not_runs {K = K} r hb in
    let r1 = ready_after not-before.runs r in
    let reach = and_runs {K = K} r1 (stands_after not-before.runs hc) not-before.form in
    let r2 = ready_after reach.runs r1 in
    let s = saved_runs {K = K} r2 (reach_from + row) _ (omega arith) p in
    record {
      runs = runs_wide (runs_then not-before.runs (runs_then reach.runs s)) _ _ (omega arith) (omega arith);
      slot = slot_filled r2 (reach_from + row) (omega arith) reach.form;
    }

stop_one : {n : ℕ} {K : ℕ → Type 0} {m : Mem} {b : Standing} {os : List (Op Affine)} {sum : Form} {acc clear blocked : Affine} (k : ℕ)
    → Ready n m b os → Stands m b sum acc → Stands m b (loaded m (clear_from + k)) clear → Stands m b (loaded m (blocked_from + k)) blocked → k < 128 → (K (stops_from + k) → ⊥)
    → let s = and floats n clear blocked os in
    Summed K m b (stop_in m b sum k) (stops_from + k) s.form (floats.plus acc s.form) s.ops (1 + plus_use floats acc s.form) 1
unfolding stop_in
stop_one {K = K} k r ha hc hb l p =
    let stop = and_runs {K = K} r hc hb in
    let r1 = ready_after stop.runs r in
    let s = saved_runs {K = K} r1 (stops_from + k) _ (omega arith) p in
    let r2 = ready_after s r1 in
    let sum = plus_runs {K = λ j. Unit {0}} r2 (stands_after s (stands_after stop.runs ha)) (stands_after s stop.form) in
    record {
      runs = runs_wide (runs_then stop.runs (runs_then s (runs_less sum.runs (λ j h. tt)))) _ _ (omega arith) (omega arith);
      slot = slot_kept sum.runs.keeps (stops_from + k) (omega arith) tt (slot_filled r1 (stops_from + k) (omega arith) stop.form);
      form = sum.form;
    }

-- the k-th child's part of a turn: three slots written, one after the other
record Stopped (K : ℕ → Type 0) (m : Mem) (b : Standing) (e : Ended) (k row : ℕ) (r s a t : Affine) (os : List (Op Affine)) (need : ℕ) : Type 0 where
  runs : Runs K m b e.mem e.builder os need 2
  reach : Stands e.mem e.builder (loaded e.mem (reach_from + row)) r
  stop : Stands e.mem e.builder (loaded e.mem (stops_from + k)) s
  after : Stands e.mem e.builder (loaded e.mem (after_stop_from + row)) a
  form : Stands e.mem e.builder e.form t

-- all slots but three
abbrev But : ℕ → ℕ → ℕ → Type 0
But k row j = (j ≡ stops_from + k → ⊥) × (j ≡ reach_from + row → ⊥) × (j ≡ after_stop_from + row → ⊥)

turn : {n : ℕ} {m : Mem} {b : Standing} {os : List (Op Affine)} {sum : Form} {acc before blocked clear : Affine} (k row : ℕ)
    → Ready n m b os → Stands m b sum acc → Stands m b (loaded m (before_from + k)) before → Stands m b (loaded m (blocked_from + k)) blocked → Stands m b (loaded m (clear_from + k)) clear
    → k < 128 → row < 128
    → let r = and floats n clear (not' floats before) os in
    let s = and floats n clear blocked r.ops in
    let e = reach_in (saved m (after_stop_from + row) sum) b k row in
    Stopped (But k row) m b (stop_in e.mem e.builder sum k) k row r.form s.form acc (floats.plus acc s.form) s.ops
    (floats.terms before + 2 + plus_use floats acc s.form)
turn {sum = sum} k row r ha hb hd hc l l' =
    let s = saved_runs {K = λ j. j ≡ after_stop_from + row → ⊥} r (after_stop_from + row) sum (omega arith) (λ h. h refl) in
    let r1 = ready_after s r in
    let reach = reach_one {K = λ j. j ≡ reach_from + row → ⊥} k row r1 (slot_kept s.keeps (before_from + k) (omega arith) (λ e. omega arith) hb) (slot_kept s.keeps (clear_from + k) (omega arith) (λ e. omega arith) hc) l' (λ h. h refl) in
    let r2 = ready_after reach.runs r1 in
    let hc2 = slot_kept reach.runs.keeps (clear_from + k) (omega arith) (λ e. omega arith) (slot_kept s.keeps (clear_from + k) (omega arith) (λ e. omega arith) hc) in
    let hd2 = slot_kept reach.runs.keeps (blocked_from + k) (omega arith) (λ e. omega arith) (slot_kept s.keeps (blocked_from + k) (omega arith) (λ e. omega arith) hd) in
    let stop = stop_one {K = λ j. j ≡ stops_from + k → ⊥} k r2 (stands_after reach.runs (stands_after s ha)) hc2 hd2 l (λ h. h refl) in
    let after1 = slot_filled r (after_stop_from + row) (omega arith) ha in
    let after2 = slot_kept reach.runs.keeps (after_stop_from + row) (omega arith) (λ e. omega arith) after1 in
    record {
      runs = runs_wide (runs_then (runs_less s (λ j h. h.2)) (runs_then (runs_less reach.runs (λ j h. h.1)) (runs_less stop.runs (λ j h. h.0)))) _ _ (omega arith) (omega arith);
      reach = slot_kept stop.runs.keeps (reach_from + row) (omega arith) (λ e. omega arith) reach.slot;
      stop = stop.slot;
      after = slot_kept stop.runs.keeps (after_stop_from + row) (omega arith) (λ e. omega arith) after2;
      form = stop.form;
    }

-- ---- all children

-- all slots but those of the children from the k-th on
abbrev pub NotStops : ℕ → ℕ → ℕ → ℕ → Type 0
NotStops row k count j = Not (stops_from + k) (stops_from + k + count) j × Not (reach_from + (row + k)) (reach_from + (row + k) + count) j × Not (after_stop_from + (row + k)) (after_stop_from + (row + k) + count) j

pub record StopsRun (m : Mem) (b : Standing) (row k count need : ℕ) (e : Ended) (acc : Affine) (o : Many Affine (ArbitratedChild Affine)) : Type 0 where
  pub runs : Runs (NotStops row k count) m b e.mem e.builder o.ops need (2 * count)
  pub stop : Rows e.mem e.builder (stops_from + k) (stop_bits o.items)
  pub reach : Rows e.mem e.builder (reach_from + (row + k)) (reaches o.items)
  pub after : Rows e.mem e.builder (after_stop_from + (row + k)) (afters o.items)
  pub form : Stands e.mem e.builder e.form (total floats acc o.items)

pub stops_run : {n : ℕ} {m : Mem} {b : Standing} {os : List (Op Affine)} {sum : Form} {acc : Affine} (row k : ℕ) (xs : List (ClearedChild Affine))
    → Ready n m b os → Stands m b sum acc → Rows m b (before_from + k) (kid_befores xs) → Rows m b (blocked_from + k) (kid_blockeds xs) → Rows m b (clear_from + k) (clear_bits xs)
    → row + k + length xs ≤ 128
    → StopsRun m b row k (length xs) (stops_use floats n acc xs os) (stops_in m b sum row k (length xs)) acc (stops floats n acc xs os)
unfolding stops total stops_in stops_use
stops_run row k [] r ha hb hd hc l = record { runs = runs_none r; stop = tt; reach = tt; after = tt; form = ha }
stops_run {n} {m} {b} {os} {sum} {acc} row k (x ∷ xs) r ha hb hd hc l =
    let one = turn k (row + k) r ha hb.0 hd.0 hc.0 (omega arith) (omega arith) in
    let r1 = ready_after one.runs r in
    let c0 : length (kid_befores xs) ≡ length xs = length-map xs _ in
    let c1 : length (kid_blockeds xs) ≡ length xs = length-map xs _ in
    let c2 : length (clear_bits xs) ≡ length xs = length-map xs _ in
    let kb = rows_kept one.runs.keeps (suc (before_from + k)) (kid_befores xs) (omega arith) (λ j d e. ((λ u. omega arith), (λ u. omega arith), (λ u. omega arith))) hb.1 in
    let kd = rows_kept one.runs.keeps (suc (blocked_from + k)) (kid_blockeds xs) (omega arith) (λ j d e. ((λ u. omega arith), (λ u. omega arith), (λ u. omega arith))) hd.1 in
    let kc = rows_kept one.runs.keeps (suc (clear_from + k)) (clear_bits xs) (omega arith) (λ j d e. ((λ u. omega arith), (λ u. omega arith), (λ u. omega arith))) hc.1 in
    let e0 : suc (before_from + k) ≡ before_from + (k + 1) = omega arith in
    let e1 : suc (blocked_from + k) ≡ blocked_from + (k + 1) = omega arith in
    let e2 : suc (clear_from + k) ≡ clear_from + (k + 1) = omega arith in
    let e3 : suc (stops_from + k) ≡ stops_from + (k + 1) = omega arith in
    let e4 : suc (reach_from + (row + k)) ≡ reach_from + (row + (k + 1)) = omega arith in
    let e5 : suc (after_stop_from + (row + k)) ≡ after_stop_from + (row + (k + 1)) = omega arith in
    let turned = reach_in (saved m (after_stop_from + (row + k)) sum) b k (row + k) in
    let all = stops_run {m = (stop_in turned.mem turned.builder sum k).mem} row (k + 1) xs r1 one.form (rw (← e0) kb) (rw (← e1) kd) (rw (← e2) kc) (omega arith) in
    let keep = all.runs.keeps in
    record {
      runs = runs_wide (runs_then (runs_less one.runs (λ j h. ((λ u. h.0 (omega arith) (omega arith)), (λ u. h.1 (omega arith) (omega arith)), (λ u. h.2 (omega arith) (omega arith)))))
          (runs_less all.runs (λ j h. ((λ u v. h.0 (omega arith) (omega arith)), (λ u v. h.1 (omega arith) (omega arith)), (λ u v. h.2 (omega arith) (omega arith)))))) _ _ (omega arith) (omega arith);
      stop = (slot_kept keep (stops_from + k) (omega arith) ((λ u v. omega arith), (λ u v. omega arith), (λ u v. omega arith)) one.stop, rw e3 all.stop);
      reach = (slot_kept keep (reach_from + (row + k)) (omega arith) ((λ u v. omega arith), (λ u v. omega arith), (λ u v. omega arith)) one.reach, rw e4 all.reach);
      after = (slot_kept keep (after_stop_from + (row + k)) (omega arith) ((λ u v. omega arith), (λ u v. omega arith), (λ u v. omega arith)) one.after, rw e5 all.after);
      form = all.form;
    }
