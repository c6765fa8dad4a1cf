-- The bench cards on counts, as rows of one table under one statement; and some on the walk, as the circuit computes them.
use Rattle.std.specs.Prelude.{ℕ, ◌-◌, ◌≡◌, refl, List, [], ◌∷◌, ◌++◌, map}
use Rattle.walk.specs.Kind.{kind_of}
use Rattle.construct.specs.Builder as B
use Rattle.construct.specs.Lower as L
use Rattle.construct.specs.Circuit.{flats, slot_end, cell_end, inputs, build, construct, op_count, op_forms, output_forms, terms_in, term_count}
use Rattle.construct.specs.Pairs as P
use Rattle.construct.specs.Pairs.{pairs}
use Rattle.construct.specs.Value as Val

-- kinds and child counts in pre-order, and the circuit's cells, ops and terms
pub record Card : Type 0 where
  pub kinds : List ℕ
  pub counts : List ℕ
  pub cells : ℕ
  pub ops : ℕ
  pub terms : ℕ

-- one leaf; a Sequence, a ReactiveSequence of two leaves
abbrev pub cards : List Card
cards =
    record { kinds = 1 ∷ []; counts = 0 ∷ []; cells = 4; ops = 0; terms = 4 }
    ∷ record { kinds = 4 ∷ 1 ∷ 1 ∷ []; counts = 2 ∷ 0 ∷ 0 ∷ []; cells = 10; ops = 21; terms = 82 }
    ∷ record { kinds = 5 ∷ 1 ∷ 1 ∷ []; counts = 2 ∷ 0 ∷ 0 ∷ []; cells = 9; ops = 10; terms = 38 }
    ∷ []

unfoldable pub counted : Card → Card
unfolding kind_of slot_end cell_end construct build op_forms output_forms terms_in B.not' B.minus B.push B.relu B.is_zero_at B.is_zero B.step B.at_least_at B.at_least B.and_at B.and B.or_at B.or L.inverted L.inverteds L.forced L.fixed_t L.gates L.clears L.stops L.picks L.total L.lower_seq L.lower L.up_step L.up L.spread L.children L.next_cur L.down L.flags P.keep P.insert_at P.insert P.merge P.flip P.times P.constant P.wire' P.offset P.negate P.plus P.scaled P.empty P.known_at P.known
counted c =
    let ns = flats c.kinds c.counts in
    let x = construct pairs ns in
    record { kinds = c.kinds; counts = c.counts; cells = inputs ns; ops = op_count x; terms = term_count pairs x }

pub cards_hold : map counted cards ≡ cards
unfolding counted
cards_hold = refl

-- the circuits, evaluated on the input cells of three cards, of the listing's first line and of a Sequence that is not reached, put out what the walk answers: for each node success, failure, running, reached,
-- halted and next running, then the next cursors
pub record Run : Type 0 where
  pub kinds : List ℕ
  pub counts : List ℕ
  pub cells : List ℕ
  pub outputs : List ℕ

abbrev pub runs : List Run
runs =
    record {
      kinds = 4 ∷ 1 ∷ 1 ∷ [];
      counts = 2 ∷ 0 ∷ 0 ∷ [];
      cells = 1 ∷ 0 ∷ 1 ∷ 2 ∷ 1 ∷ 0 ∷ 0 ∷ 1 ∷ 0 ∷ 0 ∷ [];
      outputs = 1 ∷ 0 ∷ 0 ∷ 1 ∷ 0 ∷ 0 ∷ 1 ∷ 0 ∷ 0 ∷ 0 ∷ 0 ∷ 0 ∷ 1 ∷ 0 ∷ 0 ∷ 0 ∷ 0 ∷ 1 ∷ 0 ∷ [];
    }
    ∷ record {
      kinds = 4 ∷ 1 ∷ 1 ∷ [];
      counts = 2 ∷ 0 ∷ 0 ∷ [];
      cells = 1 ∷ 0 ∷ 1 ∷ 0 ∷ 0 ∷ 0 ∷ 1 ∷ 1 ∷ 0 ∷ 0 ∷ [];
      outputs = 0 ∷ 0 ∷ 1 ∷ 1 ∷ 0 ∷ 1 ∷ 0 ∷ 0 ∷ 1 ∷ 1 ∷ 0 ∷ 1 ∷ 1 ∷ 0 ∷ 0 ∷ 0 ∷ 1 ∷ 0 ∷ 0 ∷ [];
    }
    ∷ record {
      kinds = 5 ∷ 1 ∷ 4 ∷ 1 ∷ [];
      counts = 2 ∷ 0 ∷ 1 ∷ 0 ∷ [];
      cells = 0 ∷ 0 ∷ 1 ∷ 1 ∷ 65535 ∷ 0 ∷ 1 ∷ 0 ∷ 1 ∷ 0 ∷ 0 ∷ [];
      outputs = 0 ∷ 1 ∷ 0 ∷ 1 ∷ 0 ∷ 0 ∷ 0 ∷ 1 ∷ 0 ∷ 1 ∷ 0 ∷ 0 ∷ 1 ∷ 0 ∷ 0 ∷ 0 ∷ 1 ∷ 0 ∷ 1 ∷ 0 ∷ 0 ∷ 0 ∷ 1 ∷ 0 ∷ 0 ∷ [];
    }
    ∷ record {
      kinds = 4 ∷ 1 ∷ 1 ∷ [];
      counts = 2 ∷ 0 ∷ 0 ∷ [];
      cells = 0 ∷ 0 ∷ 0 ∷ 0 ∷ 1 ∷ 0 ∷ 0 ∷ 0 ∷ 0 ∷ 1 ∷ [];
      outputs = 0 ∷ 0 ∷ 1 ∷ 1 ∷ 0 ∷ 1 ∷ 1 ∷ 0 ∷ 0 ∷ 1 ∷ 0 ∷ 0 ∷ 0 ∷ 0 ∷ 1 ∷ 1 ∷ 0 ∷ 1 ∷ 1 ∷ [];
    }
    ∷ record {
      kinds = 5 ∷ 1 ∷ 4 ∷ 1 ∷ 1 ∷ [];
      counts = 2 ∷ 0 ∷ 2 ∷ 0 ∷ 0 ∷ [];
      cells = 0 ∷ 0 ∷ 0 ∷ 0 ∷ 0 ∷ 0 ∷ 0 ∷ 1 ∷ 0 ∷ 1 ∷ 0 ∷ 0 ∷ 0 ∷ 0 ∷ 1 ∷ [];
      outputs = 0 ∷ 1 ∷ 0 ∷ 1 ∷ 0 ∷ 0 ∷ 0 ∷ 1 ∷ 0 ∷ 1 ∷ 0 ∷ 0 ∷ 0 ∷ 0 ∷ 1 ∷ 0 ∷ 0 ∷ 0 ∷ 1 ∷ 0 ∷ 0 ∷ 0 ∷ 0 ∷ 0 ∷ 0 ∷ 0 ∷ 1 ∷ 0 ∷ 0 ∷ 0 ∷ 0 ∷ [];
    }
    ∷ []

unfoldable pub evaluated : Run → Run
unfolding kind_of slot_end cell_end construct build op_forms output_forms terms_in B.not' B.minus B.push B.relu B.is_zero_at B.is_zero B.step B.at_least_at B.at_least B.and_at B.and B.or_at B.or L.inverted L.inverteds L.forced L.fixed_t L.gates L.clears L.stops L.picks L.total L.lower_seq L.lower L.up_step L.up L.spread L.children L.next_cur L.down L.flags P.keep P.insert_at P.insert P.merge P.flip P.times P.constant P.wire' P.offset P.negate P.plus P.scaled P.empty P.known_at P.known Val.sum_p Val.sum_n Val.P Val.N Val.op_val Val.table_of
evaluated r =
    let x = construct pairs (flats r.kinds r.counts) in
    let ρ = Val.cell (Val.table_of r.cells x.ops) in
    record { kinds = r.kinds; counts = r.counts; cells = r.cells; outputs = map (λ (f : P.Form). Val.P ρ f - Val.N ρ f) (output_forms x.outputs ++ x.cursors) }

pub runs_hold : map evaluated runs ≡ runs
unfolding evaluated
runs_hold = refl
