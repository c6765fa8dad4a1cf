-- What compiling and a tick leave is as long as what was lent.
use Rattle.std.proofs.Common.{arith, ◌≡◌, ℕ, ◌≤◌, Bool, true, false, cond, ltb, List, Float, Ok, Err, length, refl, sym, ap, ◌∙◌}
use Rattle.std.proofs.lemmas.List.{length-replicate}
use Rattle.tree.specs.Tree.{Parsed, accepted, refused, tree_of}
use Rattle.tree_record.specs.declared.refusal.Cause.{Cause}
use Rattle.tree_record.specs.declared.refusal.Cause.TheVariants.{NoOpRoom, NoTermRoom, ShortRoom}
use Rattle.lists.specs.Fill.{prefix}
use Rattle.lists.proofs.Fill.{fill_length}
use Rattle.wire.specs.Storage.{op_slots, term_slots}
use Rattle.construct_floats.specs.Floats.{floats}
use Rattle.construct.specs.Circuit.{op_count, term_count}
use Rattle.tick_check.specs.Check.{Stored}
use Rattle.tick_verdict.specs.Verdict.{Verdict, tick_verdict}
use Rattle.tick_lane.specs.Evaluate.{table_of, outs_of}
use Rattle.tick_lane.specs.Lane as lane
use Rattle.tick_lane.specs.Loans.{Ready}
use Rattle.tick_lane.proofs.Cells.{filled, table_length}
use Rattle.tick.specs.Tick.{gate_of, tick_of}
use Rattle.tick.proofs.Passed.{ready}
use Rattle.compile.specs.Compile as compile
use Rattle.compile_laws.proofs.Back.{nums_length, biases_length, wires_length, coefs_length}
use Rattle.demands.specs.Contracts.{Place, circuit, lane as lane_at}

-- ---- compile

abbrev pub Stays : compile.Lent → compile.Outcome → Type 0
Stays l o = (length o.nums ≡ l.nums) × (length o.biases ≡ l.biases) × (length o.wires ≡ l.wires) × (length o.coefs ≡ l.coefs)

refusal_stays : (l : compile.Lent) (c : Cause) (place : ℕ) → Stays l (compile.refusal l c place)
refusal_stays l c place = (length-replicate l.nums 0, length-replicate l.biases _, length-replicate l.wires 0, length-replicate l.coefs _)

either : (l : compile.Lent) (test : Bool) (a b : compile.Outcome) → Stays l a → Stays l b → Stays l (cond test a b)
either l true a b h k = h
either l false a b h k = k

stored_stays : (l : compile.Lent) (ks cs : List ℕ) → Stays l (compile.stored l ks cs)
unfolding compile.stored
stored_stays l ks cs =
    let p = compile.lists_of ks cs in
    let c = compile.circuit_of ks cs in
    (nums_length p c l.nums, biases_length p c l.biases, wires_length p c l.wires, coefs_length p c l.coefs)

tree_stays : (l : compile.Lent) (p : Parsed) → Stays l (compile.compile_tree l p)
unfolding compile.compile_tree
tree_stays l (refused r) = refusal_stays l r.cause r.place
tree_stays l (accepted ks cs) =
    let c = compile.circuit_of ks cs in
    either l (ltb (op_slots l.nums l.biases) (op_count c)) _ _ (refusal_stays l NoOpRoom 0)
    (either l (ltb (term_slots l.wires l.coefs) (term_count floats c)) _ _ (refusal_stays l NoTermRoom 0) (stored_stays l ks cs))

pub compile_stays : (l : compile.Lent) (bytes : List ℕ) → Stays l (compile.compile_of l bytes)
unfolding compile.compile_of
compile_stays l bytes = either l (compile.roomy l) _ _ (tree_stays l (tree_of bytes)) (refusal_stays l ShortRoom 0)

-- ---- tick

abbrev pub SameLengths : lane.Lent → lane.Lent → Type 0
SameLengths a b =
    (length b.flags ≡ length a.flags) × (length b.cursors ≡ length a.cursors) × (length b.values ≡ length a.values)
    × (length b.statuses ≡ length a.statuses) × (length b.halts ≡ length a.halts) × (length b.edges ≡ length a.edges)

prefix_length : (g : ℕ → ℕ) (n : ℕ) (xs : List ℕ) → n ≤ length xs → length (prefix g n xs) ≡ length xs
prefix_length g n xs h = sym (ap length (filled g xs n h)) ∙ fill_length 0 g xs n

pub nowhere : ℕ → Place
nowhere k = record { ptr = (0, 0); name = 0 }

module _ (s : Stored) (row : List ℕ) (m : lane.Lent) where
  abbrev table : List Float
  table = table_of s row m.flags m.cursors m.values

  abbrev made : lane.Lent
  made = lane.written s.counts s.nums (outs_of s table) (lane.computed m table)

  computed_stays : SameLengths m (lane.computed m table)
  computed_stays = (refl, refl, table_length s row m.flags m.cursors m.values, refl, refl, refl)

  made_stays : Ready (circuit nowhere s) (lane_at nowhere m) → SameLengths m made
  unfolding lane.written
  made_stays r = (
    prefix_length _ s.counts.nodes m.flags (omega (arith, r.flags)),
    prefix_length _ s.counts.cursors m.cursors (omega (arith, r.cursors)),
    table_length s row m.flags m.cursors m.values,
    prefix_length _ s.counts.nodes m.statuses r.statuses,
    prefix_length _ s.counts.nodes m.halts r.halts,
    prefix_length _ s.counts.leaves m.edges r.edges,
  )

  judged_stays : (v : Verdict) → SameLengths m made → SameLengths m (lane.judged v made (lane.computed m table)).left
  judged_stays (Ok sound) h = h
  judged_stays (Err what) h = computed_stays

  after_stays : (t : lane.Ticked) (next : lane.Outcome) → (t ≡ Ok tt → SameLengths m next.left) → SameLengths m (lane.after t m next).left
  after_stays (Ok done) next h = h refl
  after_stays (Err what) next h = (refl, refl, refl, refl, refl, refl)

  pub tick_stays : SameLengths m (tick_of s row m).left
  unfolding tick_of lane.lane_of lane.settle_of
  tick_stays =
      after_stays (gate_of s row m) _ (λ passed.
      after_stays (lane.inputs_of row m.flags) _ (λ low.
      judged_stays (tick_verdict (outs_of s table) s.counts.nodes s.counts.cursors)
      (made_stays (ready (circuit nowhere s) row (lane_at nowhere m) passed))))
