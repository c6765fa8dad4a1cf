-- What a pass has left stays where the slots that hold it do.
use Prim.Native.Nat.{ℕ, suc, ◌+◌, ◌-◌, ◌≤◌, ◌<◌}
use native.Mathlib.Omega.{arith}
use mathlib.Core.List.{List, [], ◌∷◌, map}
use lib.ListN.{length, length-map}
use Rattle.wire.specs.Terms.{Affine}
use Rattle.construct.specs.Lower.{Flat, leaf, fixed, invert, force, ordered, StatusBits, ArbitratedChild, Arbitration, Entry, NodeReach}
use Rattle.builder_table.specs.Work.{Standing, Mem}
use Rattle.lower_room.proofs.Uses.{kids_of}
use Rattle.builder_laws.proofs.Running.{Keeps}
use Rattle.builder_laws.proofs.Runs.{slot_kept, rows_kept, stack_kept}
use Rattle.builder_table.specs.Slots.{reach_from, after_stop_from, raw_success_from, raw_failure_from, raw_running_from, arbitrated_from, reached_from, halted_from, untouched_from, entry_reached_from, entry_called_from}
use Rattle.lower_ordered_laws.proofs.Orders.{reaches, afters}
use Rattle.lower_ordered_laws.proofs.Passes.{rows_in, RawAt, CurAt, ArbitrationAt, ArbitrationsAt, EntriesAt, OutAt, OutsAt}

-- all slots from lo up to hi
abbrev pub All : (ℕ → Type 0) → ℕ → ℕ → Type 0
All K lo hi = (k : ℕ) → lo ≤ k → k < hi → K k

-- the slots by node that arbitrating writes
abbrev pub ArbitrationSlots : (ℕ → Type 0) → ℕ → Type 0
ArbitrationSlots K i = K (raw_success_from + i) × K (raw_failure_from + i) × K (raw_running_from + i) × K (arbitrated_from + i)

-- the slots by node that hold what reach leaves
abbrev pub OutSlots : (ℕ → Type 0) → ℕ → Type 0
OutSlots K i = K (raw_success_from + i) × K (raw_failure_from + i) × K (raw_running_from + i) × K (reached_from + i) × K (halted_from + i) × K (untouched_from + i)

module _ {K : ℕ → Type 0} {m : Mem} {b : Standing} {m' : Mem} {b' : Standing} (g : Keeps K m b m' b') where
  pub raw_kept : {t : StatusBits Affine} (i : ℕ) → i < 128 → K (raw_success_from + i) → K (raw_failure_from + i) → K (raw_running_from + i) → RawAt m b i t → RawAt m' b' i t
  raw_kept i l s f r h = record { success = slot_kept g (raw_success_from + i) (omega arith) s h.success; failure = slot_kept g (raw_failure_from + i) (omega arith) f h.failure; running = slot_kept g (raw_running_from + i) (omega arith) r h.running }

  pub cur_kept : (x : Affine) (i : ℕ) (n : Flat) → i < 128 → K (arbitrated_from + i) → CurAt m b i n x → CurAt m' b' i n x
  cur_kept x i leaf l q h = tt
  cur_kept x i (fixed own) l q h = tt
  cur_kept x i invert l q h = tt
  cur_kept x i (force own) l q h = tt
  cur_kept x i (ordered memory on n) l q h = slot_kept g (arbitrated_from + i) (omega arith) q h

  pub info_kept : (i row : ℕ) (n : Flat) (x : Arbitration Affine) → i < 128 → kids_of n ≤ row → row ≤ 128 → ArbitrationSlots K i → All K (reach_from + (row - kids_of n)) (reach_from + row) → All K (after_stop_from + (row - kids_of n)) (after_stop_from + row)
      → ArbitrationAt m b i row n x → ArbitrationAt m' b' i row n x
  info_kept i row n x l p w q qr qa h =
      let cr = length-map x.kids (λ (k : ArbitratedChild Affine). k.reach) in
      let ca = length-map x.kids (λ (k : ArbitratedChild Affine). k.after_stop) in
      let c = h.count in
      record {
        node = h.node;
        count = c;
        raw = raw_kept i l q.0 q.1 q.2 h.raw;
        cursor = cur_kept x.cursor i n l q.3 h.cursor;
        reach = rows_kept g (reach_from + (row - kids_of n)) (reaches x.kids) (omega arith) (λ k s t. qr k s (omega arith)) h.reach;
        after = rows_kept g (after_stop_from + (row - kids_of n)) (afters x.kids) (omega arith) (λ k s t. qa k s (omega arith)) h.after;
      }

  pub infos_kept : (i : ℕ) (ns : List Flat) (xs : List (Arbitration Affine)) → i + length ns ≤ 128 → rows_in ns ≤ 128 → ((j : ℕ) → i ≤ j → j < i + length ns → ArbitrationSlots K j)
      → All K reach_from (reach_from + rows_in ns) → All K after_stop_from (after_stop_from + rows_in ns) → ArbitrationsAt m b i ns xs → ArbitrationsAt m' b' i ns xs
  unfolding rows_in
  infos_kept i [] [] l w q qr qa h = tt
  infos_kept i [] (x ∷ xs) l w q qr qa h = elim h [ ]
  infos_kept i (n ∷ ns) [] l w q qr qa h = elim h [ ]
  infos_kept i (n ∷ ns) (x ∷ xs) l w q qr qa h = (
    info_kept i (rows_in (n ∷ ns)) n x (omega arith) (omega arith) w (q i (omega arith) (omega arith)) (λ k s t. qr k (omega arith) t) (λ k s t. qa k (omega arith) t) h.0,
    infos_kept (suc i) ns xs (omega arith) (omega arith) (λ j s t. q j (omega arith) (omega arith)) (λ k s t. qr k s (omega arith)) (λ k s t. qa k s (omega arith)) h.1,
  )

  pub entries_kept : (es : List (Entry Affine)) → length es ≤ 128 → All K entry_reached_from (entry_reached_from + length es) → All K entry_called_from (entry_called_from + length es) → EntriesAt m b es → EntriesAt m' b' es
  entries_kept es l r c h =
      let lr = length-map es (λ (e : Entry Affine). e.reached) in
      let lc = length-map es (λ (e : Entry Affine). e.called) in
      record {
        reached = stack_kept g entry_reached_from (map (λ (e : Entry Affine). e.reached) es) (omega arith) (λ k s t. r k s (omega arith)) h.reached;
        called = stack_kept g entry_called_from (map (λ (e : Entry Affine). e.called) es) (omega arith) (λ k s t. c k s (omega arith)) h.called;
      }

  pub out_kept : (i : ℕ) (x : NodeReach Affine) → i < 128 → OutSlots K i → OutAt m b i x → OutAt m' b' i x
  out_kept i x l q h =
      record {
        raw = raw_kept i l q.0 q.1 q.2 h.raw;
        reached = slot_kept g (reached_from + i) (omega arith) q.3 h.reached;
        halted = slot_kept g (halted_from + i) (omega arith) q.4 h.halted;
        untouched = slot_kept g (untouched_from + i) (omega arith) q.5 h.untouched;
        was = h.was;
      }

  pub outs_kept : (i : ℕ) (xs : List (NodeReach Affine)) → i + length xs ≤ 128 → ((j : ℕ) → i ≤ j → j < i + length xs → OutSlots K j) → OutsAt m b i xs → OutsAt m' b' i xs
  outs_kept i [] l q h = tt
  outs_kept i (x ∷ xs) l q h = (
    out_kept i x (omega arith) (q i (omega arith) (omega arith)) h.0,
    outs_kept (suc i) xs (omega arith) (λ j s t. q j (omega arith) (omega arith)) h.1,
  )
