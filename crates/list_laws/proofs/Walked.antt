-- What is listed of a tree within the limits and valid rows is the lines of the direct walk.
use Rattle.std.proofs.Common.{◌≡◌, true, List, [], ◌∷◌, ◌++◌, ℕ, zero, suc, ◌≤◌, length, take, drop, replicate, refl, sym, ◌∙◌, ap, arith, le-leb, leb-true, take_at}
use Rattle.std.proofs.lemmas.List.{length-replicate, drop_all}
use Rattle.exact.specs.Whole.{zero32}
use Rattle.tree.specs.Forest.{Forest, preorder}
use Rattle.tree.specs.Bytes.{Within, bytes_of}
use Rattle.lists.specs.Every.{All}
use Rattle.walk.specs.Walk.{Answer, walk}
use Rattle.walk.proofs.Laws.{lengths}
use Rattle.tick_check.specs.Check.{Stored}
use Rattle.tick_lane.specs.Evaluate.{table_of}
use Rattle.tick_lane.proofs.Cells.{table_length}
use Rattle.tick_lane.specs.Lane.{Lent, lent, accepted}
use Rattle.compile.specs.Answer.{Compiled}
use Rattle.compile.specs.Compile as compile
use Rattle.compile_laws.proofs.Compiles.{tree_circuit, stored_of, Slots}
use Rattle.tree.proofs.Lengths.{preorder_length}
use Rattle.plan_laws.proofs.Nodes.{leaves_count, cursors_count, leaves_few, cursors_few}
use Rattle.demands.specs.Demands.{ValidRow, Ready, over, walked}
use Rattle.demands.proofs.Left.{Compiles, left_by}
use Rattle.demands.proofs.Once.{ticks, state_next}
use Rattle.demands.proofs.Trees.{compiles_all}
use Rattle.list_text.specs.declared.outer.Outer.{Outer}
use Rattle.list_text.specs.Line.{tick_line, line_of}
use Rattle.list_rows.specs.Rows.{Kept, Shown, Step, outputs, ticked_from, kept_of, text_after, row_of, row_kind, next_number, shows, step_at, step_of}
use Rattle.list_rows.specs.Listing.{rest_from, rest_of, storage_lent, values_lent, at_first, tree_kind, list_from, listing_at, listing}
use Rattle.list_rows.proofs.Edges.{rest_goes}
use Rattle.list_laws.specs.Lines.{outer_record, row_records, input_of, lines_from, lines_of}
use Rattle.list_laws.proofs.Records.{ends, record_length, record_read, record_payload, record_rest, record_alone, payload_alone}

zeros_low : (n : ℕ) → All (λ (flag : ℕ). flag ≤ 1) (replicate n 0)
zeros_low zero = tt
zeros_low (suc n) = (omega arith, zeros_low n)

module _ (f : Forest ℕ) (w : Within f) where
  made : Compiles storage_lent f (compile.counts_of (preorder f) (tree_circuit f))
  unfolding compile.roomy
  made = compiles_all f w storage_lent refl (leb-true 2163 2163 refl) (leb-true 507904 507904 refl)

  slots : Slots storage_lent (tree_circuit f)
  slots = (left_by storage_lent f (compile.counts_of (preorder f) (tree_circuit f)) made).slots

  -- the circuit that the rows run on
  abbrev s : Stored
  s = stored_of storage_lent f

  -- what a tick of the listing is lent
  abbrev given : Kept → Lent
  given k = lent k.flags k.cursors k.values outputs outputs outputs

  -- ---- a row

  line_is : (number : ℕ) (flags cursors row : List ℕ)
      → (let a = walk f flags cursors row in
      line_of number (take s.counts.nodes (over a.statuses outputs)) (take s.counts.nodes (over a.halts outputs)) a.cursors
      (take s.counts.leaves (over a.edges outputs))
      ≡ tick_line number a.statuses a.halts a.cursors a.edges)
  unfolding line_of
  line_is number flags cursors row =
      let a = walk f flags cursors row in
      let z = lengths f flags cursors row in
      let few = w.few in
      let nodes = preorder_length f in
      let leaves = leaves_count f w.lowered w.few in
      let cells = cursors_count f w.lowered w.few in
      let x = take_at a.statuses (drop (length a.statuses) outputs) s.counts.nodes (z.statuses ∙ sym nodes) in
      let y = take_at a.halts (drop (length a.halts) outputs) s.counts.nodes (z.halts ∙ sym nodes) in
      let e = take_at a.edges (drop (length a.edges) outputs) s.counts.leaves (z.edges ∙ sym leaves) in
      let p = le-leb (length a.statuses) 128 (omega (arith, z.statuses)) in
      let q = le-leb (length a.cursors) 128 (omega (arith, z.cursors, cursors_few f w.lowered w.few)) in
      let r = le-leb (length a.edges) 128 (omega (arith, z.edges, leaves_few f w.lowered w.few)) in
      (λ i. line_of number (x i) (y i) a.cursors (e i)) ∙ rw (p, q, r)

  module _ (row : List ℕ) (number : ℕ) (k : Kept) (valid : ValidRow f row) (ready : Ready f s.counts (given k)) where
    abbrev answer : Answer
    answer = walk f k.flags k.cursors row

    abbrev next : Kept
    next = record { flags = answer.flags; cursors = answer.cursors; values = table_of s row k.flags k.cursors k.values }

    abbrev printed : Shown
    printed = record { text = tick_line number answer.statuses answer.halts answer.cursors answer.edges; goes = true; kept = next }

    row_is : row_of s row number k ≡ printed
    unfolding row_of text_after ticked_from walked
    row_is =
        let e = ticks f w storage_lent slots row (given k) valid ready in
        (λ i. record { text = text_after s number (e i); goes = accepted (e i).answer; kept = kept_of (e i).left })
        ∙ (λ i. record { text = line_is number k.flags k.cursors row i; goes = true; kept = next })

    step_is : step_of s (outer_record row_kind row) number k ≡ shows (ends row_kind row) number printed
    unfolding step_of step_at
    step_is =
        ap (λ (p : Outer). step_at p s (outer_record row_kind row) number k) (record_alone row_kind row)
        ∙ ap (λ (payload : List ℕ). shows (ends row_kind row) number (row_of s payload number k)) (payload_alone row_kind row)
        ∙ ap (shows (ends row_kind row) number) row_is

    -- a row is a line, and then the rest from the next state on
    row_listed : (more : List ℕ)
        → rest_of s (outer_record row_kind row ++ more) number k ≡ printed.text ++ rest_of s more (next_number number) next
    row_listed more =
        rest_goes s number k more (outer_record row_kind row) (ap (λ (o : Step). o.goes) step_is)
        ∙ (λ i. (step_is i).text ++ rest_of s (drop (step_is i).read (outer_record row_kind row) ++ more) (step_is i).number (step_is i).kept)
        ∙ ap (λ (l : List ℕ). printed.text ++ rest_of s (l ++ more) (next_number number) next)
        (drop_all (ends row_kind row) (outer_record row_kind row) (omega (arith, record_length row_kind row)))

    still_ready : Ready f s.counts (given next)
    still_ready =
        let room = ready.room in
        record {
          state = state_next f k.flags k.cursors row;
          room = record {
            values = omega (arith, table_length s row k.flags k.cursors k.values, room.values);
            statuses = room.statuses;
            halts = room.halts;
            edges = room.edges;
          };
        }

  -- ---- row after row

  rows_listed : (rows : List (List ℕ)) (number : ℕ) (k : Kept) → All (ValidRow f) rows → Ready f s.counts (given k)
      → rest_of s (row_records rows) number k ≡ lines_from number f k.flags k.cursors rows
  unfolding rest_of rest_from row_records lines_from
  rows_listed [] number k valid ready = refl
  rows_listed (row ∷ rows) number k valid ready =
      row_listed row number k valid.0 ready (row_records rows)
      ∙ ap (λ (l : List ℕ). (printed row number k valid.0 ready).text ++ l)
      (rows_listed rows (next_number number) (next row number k valid.0 ready) valid.1 (still_ready row number k valid.0 ready))

  -- ---- from the start

  first_ready : Ready f s.counts (given (at_first s.counts))
  first_ready =
      let few = w.few in
      let nodes = preorder_length f in
      let leaves = leaves_count f w.lowered w.few in
      let leaves-low = leaves_few f w.lowered w.few in
      let cells_low = cursors_few f w.lowered w.few in
      let ops = slots.in_nums in
      record {
        state = record {
          flags_long = length-replicate s.counts.nodes 0 ∙ nodes;
          flags_low = zeros_low s.counts.nodes;
          cursors_long = length-replicate s.counts.cursors 0 ∙ cursors_count f w.lowered w.few;
        };
        room = record { values = omega (arith, length-replicate values_lent zero32); statuses = omega arith; halts = omega arith; edges = omega arith };
      }

  begun : (more : List ℕ) → listing (outer_record tree_kind (bytes_of f) ++ more) ≡ rest_of s more 0 (at_first s.counts)
  unfolding listing listing_at list_from
  begun more =
      let tree = bytes_of f in
      let n = compile.counts_of (preorder f) (tree_circuit f) in
      let o = compile.compile_of storage_lent tree in
      ap (λ (p : Outer). listing_at p (outer_record tree_kind tree ++ more)) (record_read tree_kind tree more)
      ∙ (λ i. let o = compile.compile_of storage_lent (record_payload tree_kind tree more i) in list_from o.answer o (record_rest tree_kind tree more i))
      ∙ ap (λ (a : Compiled). list_from a o more) made.accepted
      ∙ ap (λ (x : Stored). rest_of x more 0 (at_first n)) (left_by storage_lent f n made).same

  -- THE LISTING IS THE WALK
  pub lists_the_walk : (rows : List (List ℕ)) → All (ValidRow f) rows → listing (input_of f rows) ≡ lines_of f rows
  lists_the_walk rows valid =
      begun (row_records rows)
      ∙ rows_listed rows 0 (at_first s.counts) valid first_ready
      ∙ (λ i. lines_from 0 f (replicate (preorder_length f i) 0) (replicate (cursors_count f w.lowered w.few i) 0) rows)
