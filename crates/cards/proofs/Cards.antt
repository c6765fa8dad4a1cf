-- Every row of the table of bench cards holds, whatever room is lent, if it is enough. The layers' own tables are computed in tree_laws
-- proofs/Cards (refusals, and the cards on limits), construct specs/Cards (ops) and walk specs/Cards (ticks).
use Prim.Native.Nat.{ℕ, ◌+◌, ◌*◌, ◌≤◌}
use native.Mathlib.Omega.{arith}
use mathlib.Core.Path.{◌≡◌, refl, sym, ◌∙◌, ap, subst₂}
use mathlib.Core.Bool.{Bool, true, cond, ◌&&◌}
use mathlib.Core.List.{List, [], ◌∷◌, ◌++◌, map}
use borrow.Author.Tests.{leb-true, eqb-true}
use lib.Dec.{eqb, leb}
use lib.ListN.{length, get_or, take, drop}
use Rattle.tree_kinds.specs.Kinds.{rows, row_of}
use Rattle.tree.specs.Forest.{Forest, none, node, preorder, counts, size}
use Rattle.tree.specs.Bytes.{Within, bytes_of}
use Rattle.tree_record.specs.Record.{record_at}
use Rattle.tree.specs.Tree.{refused_at, parse, tree_of}
use Rattle.tree_record.specs.Refusal.{number_of, kind_of}
use Rattle.tree_record.specs.declared.refusal.Cause.{Cause}
use Rattle.tree_record.specs.declared.refusal.Cause.TheVariants as cause
use Rattle.plan.specs.Plan.{leaves_of, cursors_of}
use Rattle.wire.specs.declared.Counts.{Counts}
use Rattle.wire.specs.Storage.{ops_from, op_biases_from}
use Rattle.lists.proofs.Tests.{both_left, both_right}
use Rattle.lists.specs.Every.{All}
use Rattle.walk.specs.Kind.{kind_of as walkKind}
use Rattle.walk.specs.Walk.{Answer, cells_in, slots_in, walk}
use Rattle.walk.specs.Cards.{Card, sequence, reactive, rows_of_two, past_the_end, document, answered, Hold, document_holds}
use Rattle.construct.specs.Circuit.{flats, construct, op_count}
use Rattle.construct.specs.Pairs.{pairs}
use Rattle.construct.specs.Cards as construction
use Rattle.construct_means.proofs.Sizes.{sizes}
use Rattle.construct_floats.specs.Floats.{floats}
use Rattle.construct_faithful.proofs.Float.{float}
use Rattle.construct_faithful.proofs.Same.{faithful}
use Rattle.lower_room.proofs.Counted.{op_count_lem}
use Rattle.compile.specs.Compile as compile
use Rattle.compile_laws.proofs.Compiles.{tree_circuit}
use Rattle.tree.proofs.Lengths.{preorder_length}
use Rattle.plan_laws.proofs.Nodes.{leaves_count}
use Rattle.demands.specs.Demands.{ValidRow, ValidState, Room, over, walked}
use Rattle.demands.proofs.Left.{Compiles}
use Rattle.demands.proofs.Once.{ticks_left}
use Rattle.demands.proofs.Trees.{compiles_all}
use Rattle.cards.specs.Cards.{refused, accepted, Row, leaf, composite, table, Enough, told, Ticked, Holds}

-- ---- the trees

abbrev one_leaf : Forest ℕ
one_leaf = node 1 none none

abbrev two_reactive : Forest ℕ
two_reactive = node 5 (node 1 none (node 1 none none)) none

leaf_within : Within one_leaf
unfolding row_of rows
leaf_within = record { one = refl; lowered = (refl, tt, tt); few = omega arith; shallow = omega arith }

pub sequence_within : Within sequence
unfolding row_of rows
sequence_within = record { one = refl; lowered = (omega arith, (refl, tt, (refl, tt, tt)), tt); few = omega arith; shallow = omega arith }

reactive_within : Within two_reactive
unfolding row_of rows
reactive_within = record { one = refl; lowered = (omega arith, (refl, tt, (refl, tt, tt)), tt); few = omega arith; shallow = omega arith }

below_within : Within reactive
unfolding row_of rows
below_within = record { one = refl; lowered = (omega arith, (refl, tt, (omega arith, (refl, tt, tt), tt)), tt); few = omega arith; shallow = omega arith }

past_within : (rows : List (List ℕ)) (more : List Card) → All (λ (c : Card). Within c.tree) more
    → All (λ (c : Card). Within c.tree) (map past_the_end rows ++ more)
past_within [] more w = w
past_within (row ∷ rows) more w = (sequence_within, past_within rows more w)

document_within : All (λ (c : Card). Within c.tree) document
document_within =
    let others : All (λ (c : Card). Within c.tree) (drop 9 document) = (sequence_within, (below_within, (below_within, (below_within, tt)))) in
    past_within rows_of_two (drop 9 document) others

-- ---- the layers' cards

abbrev card_at : List construction.Card → ℕ → construction.Card
card_at cs k = get_or cs k (record { kinds = []; counts = []; cells = 0; ops = 0; terms = 0 })

ops_at : (k : ℕ) → (card_at (map construction.counted construction.cards) k).ops ≡ (card_at construction.cards k).ops
ops_at k = ap (λ (cs : List construction.Card). (card_at cs k).ops) construction.cards_hold

-- ops are counted in the construction with whole coefficients
card_ops : (c : construction.Card) → (construction.counted c).ops ≡ op_count (construct pairs (flats c.kinds c.counts))
unfolding construction.counted
card_ops c = refl

-- ---- state and row of a card: of the right shape and range

abbrev at_most : ℕ → List ℕ → Bool
at_most most [] = true
at_most most (x ∷ xs) = leb x most && at_most most xs

low : (most : ℕ) (xs : List ℕ) → at_most most xs ≡ true → All (λ (x : ℕ). x ≤ most) xs
low most [] e = tt
low most (x ∷ xs) e = (leb-true x most (both_left (leb x most) (at_most most xs) e), low most xs (both_right (leb x most) (at_most most xs) e))

abbrev shaped : Card → Bool
shaped c =
    (eqb (length c.row) (slots_in c.tree) && at_most 2 c.row)
    && (eqb (length c.flags) (size c.tree) && (at_most 1 c.flags && eqb (length c.cursors) (cells_in c.tree)))

record Shaped (c : Card) : Type 0 where
  valid : ValidRow c.tree c.row
  state : ValidState c.tree c.flags c.cursors

shape : (c : Card) → shaped c ≡ true → Shaped c
shape c e =
    let rows : Bool = eqb (length c.row) (slots_in c.tree) in
    let flags : Bool = eqb (length c.flags) (size c.tree) in
    let cursors : Bool = eqb (length c.cursors) (cells_in c.tree) in
    let given = both_left (rows && at_most 2 c.row) (flags && (at_most 1 c.flags && cursors)) e in
    let stands = both_right (rows && at_most 2 c.row) (flags && (at_most 1 c.flags && cursors)) e in
    let rest = both_right flags (at_most 1 c.flags && cursors) stands in
    record {
      valid = record { long = eqb-true _ _ (both_left rows (at_most 2 c.row) given); low = low 2 c.row (both_right rows (at_most 2 c.row) given) };
      state = record {
        flags_long = eqb-true _ _ (both_left flags (at_most 1 c.flags && cursors) stands);
        flags_low = low 1 c.flags (both_left (at_most 1 c.flags) cursors rest);
        cursors_long = eqb-true _ _ (both_right (at_most 1 c.flags) cursors rest);
      };
    }

abbrev all_shaped : List Card → Bool
all_shaped [] = true
all_shaped (c ∷ cs) = shaped c && all_shaped cs

abbrev made_of : Forest ℕ → Counts
made_of f = compile.counts_of (preorder f) (tree_circuit f)

module _ (l : compile.Lent) (enough : Enough l) where
  refuses : (bytes : List ℕ) (why : Cause) (place : ℕ) → tree_of bytes ≡ refused_at why place
      → Holds l (Row.compiles bytes (refused (number_of why) place (kind_of why)))
  unfolding compile.compile_of compile.compile_tree
  refuses bytes why place e = λ i. told (cond (enough.fixed i) (compile.compile_tree l (e i)) (compile.refusal l cause.ShortRoom 0)).answer

  all : (f : Forest ℕ) → Within f → Compiles l f (made_of f)
  all f w = compiles_all f w l enough.fixed enough.ops enough.terms

  -- a card of the construction
  makes : (f : Forest ℕ) → Within f → (c : construction.Card) → preorder f ≡ c.kinds → counts f ≡ c.counts → (made_of f).cells ≡ c.cells
      → (construction.counted c).ops ≡ c.ops → Holds l (Row.compiles (bytes_of f) (accepted c.cells c.ops))
  makes f w c kinds kids cells ops =
      let ns = flats (preorder f) (counts f) in
      let paired = op_count_lem floats float faithful ns (omega (arith, (sizes f).nodes, w.few)) in
      let made : (made_of f).ops ≡ c.ops = paired ∙ (λ i. op_count (construct pairs (flats (kinds i) (kids i)))) ∙ sym (card_ops c) ∙ ops in
      ap told (all f w).accepted ∙ (λ i. accepted (cells i) (made i))

  -- a card of the walk
  ticked : (c : Card) → Within c.tree → Shaped c → walk c.tree c.flags c.cursors c.row ≡ c.answer → Ticked l c
  unfolding walked
  ticked c w s e =
      record {
        n = made_of c.tree;
        compiled = (all c.tree w).accepted;
        comes =
            λ m g.
            let f = c.tree in
            let state : ValidState f m.flags m.cursors = subst₂ (ValidState f) (sym g.flags) (sym g.cursors) s.state in
            let room : Room f (made_of f) m
            = record {
              values = g.values_room;
              statuses = omega (arith, g.statuses_room, preorder_length f);
              halts = omega (arith, g.halts_room, preorder_length f);
              edges = omega (arith, g.edges_room, leaves_count f w.lowered w.few);
            } in
            let same = ticks_left l f (made_of f) (all f w) c.row m s.valid (record { state = state; room = room }) in
            let walks-as : walk f m.flags m.cursors c.row ≡ c.answer = (λ i. walk f (g.flags i) (g.cursors i) c.row) ∙ e in
            record {
              accepted = λ i. (same i).answer;
              statuses = (λ i. (same i).left.statuses) ∙ (λ i. over (walks-as i).statuses m.statuses);
              halts = (λ i. (same i).left.halts) ∙ (λ i. over (walks-as i).halts m.halts);
              edges = (λ i. (same i).left.edges) ∙ (λ i. over (walks-as i).edges m.edges);
              flags = (λ i. (same i).left.flags) ∙ (λ i. (walks-as i).flags);
              cursors = (λ i. (same i).left.cursors) ∙ (λ i. (walks-as i).cursors);
            };
      }

  all_ticked : (cs : List Card) → All (λ (c : Card). Within c.tree) cs → all_shaped cs ≡ true → Hold cs → All (Holds l) (map Row.ticks cs)
  unfolding answered
  all_ticked [] w s e = tt
  all_ticked (c ∷ cs) w s e = (
    ticked c w.0 (shape c (both_left (shaped c) (all_shaped cs) s)) (ap (λ (xs : List Answer). get_or xs 0 c.answer) e),
    all_ticked cs w.1 (both_right (shaped c) (all_shaped cs) s) (ap (λ (xs : List Answer). drop 1 xs) e),
  )

  -- ---- the rows

  refusals_hold : All (Holds l) (take 4 table)
  unfolding row_of rows record_at parse tree_of
  refusals_hold = (
    refuses [] cause.Truncated 0 refl,
    (
      refuses (0x02 ∷ 0x00 ∷ 0x0B ∷ 0x00 ∷ []) (cause.Unsupported 11) 0 refl,
      (refuses (composite 4 0) cause.EmptyComposite 0 refl, (refuses (leaf ++ 0x00 ∷ []) cause.Trailing 1 refl, tt)),
    ),
  )

  counts_hold : All (Holds l) (take 3 (drop 4 table))
  unfolding row_of rows leaves_of cursors_of
  counts_hold = (
    makes one_leaf leaf_within (card_at construction.cards 0) refl refl refl (ops_at 0),
    (
      makes sequence sequence_within (card_at construction.cards 1) refl refl refl (ops_at 1),
      (makes two_reactive reactive_within (card_at construction.cards 2) refl refl refl (ops_at 2), tt),
    ),
  )

  ticks_hold : All (Holds l) (drop 7 table)
  unfolding row_of rows walkKind
  ticks_hold = all_ticked document document_within refl document_holds

  -- THE CARDS
  pub cards_hold : All (Holds l) table
  cards_hold = (
    refusals_hold.0,
    (refusals_hold.1.0, (refusals_hold.1.1.0, (refusals_hold.1.1.1.0, (counts_hold.0, (counts_hold.1.0, (counts_hold.1.1.0, ticks_hold)))))),
  )

-- there is such room: the lengths of docs/STORAGE, with the slots that are enough for every tree
pub room : Enough (compile.lent (ops_from + 5 * 2163) (op_biases_from + 2 * 2163) 507904 507904 13920 6960 262144 262144)
unfolding compile.roomy
room = record { fixed = refl; ops = leb-true 2163 2163 refl; terms = leb-true 507904 507904 refl }
