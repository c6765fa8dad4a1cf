-- What building takes for three small trees, by computation: a Sequence of one, two and three leaves.
use Prim.Native.Nat.{ℕ}
use mathlib.Core.Path.{◌≡◌, refl}
use mathlib.Core.List.{List, [], ◌∷◌, map}
use Rattle.walk.specs.Kind.{kind_of}
use Rattle.construct.specs.Builder as B
use Rattle.construct.specs.Lower as L
use Rattle.construct.specs.Circuit.{flats, slot_end, cell_end}
use Rattle.construct.specs.Pairs as P
use Rattle.construct.specs.Pairs.{pairs}
use Rattle.lower_room.proofs.Uses as U
use Rattle.lower_room.proofs.Uses.{arena_use}

-- kinds and child counts in pre-order, and the terms that building takes
pub record Card : Type 0 where
  pub kinds : List ℕ
  pub counts : List ℕ
  pub room : ℕ

abbrev pub cards : List Card
cards =
    record { kinds = 4 ∷ 1 ∷ []; counts = 1 ∷ 0 ∷ []; room = 71 }
    ∷ record { kinds = 4 ∷ 1 ∷ 1 ∷ []; counts = 2 ∷ 0 ∷ 0 ∷ []; room = 147 }
    ∷ record { kinds = 4 ∷ 1 ∷ 1 ∷ 1 ∷ []; counts = 3 ∷ 0 ∷ 0 ∷ 0 ∷ []; room = 237 }
    ∷ []

unfoldable pub taken : Card → Card
unfolding kind_of slot_end cell_end arena_use U.gates_use U.clears_use U.stops_use U.picks_use U.seq_use U.step_use U.up_use U.spread_use U.children_use U.down_use U.flags_use B.not' B.minus B.push B.relu B.is_zero_at B.is_zero B.step B.at_least_at B.at_least B.and_at B.and B.or_at B.or L.inverted L.inverteds L.forced L.fixed_t L.gates L.clears L.stops L.picks L.total L.lower_seq L.lower L.up_step L.up L.spread L.children L.next_cur L.down L.flags P.keep P.insert_at P.insert P.merge P.flip P.times P.constant P.wire' P.offset P.negate P.plus P.scaled P.empty P.known_at P.known
taken c = record { kinds = c.kinds; counts = c.counts; room = arena_use pairs (flats c.kinds c.counts) }

pub cards_hold : map taken cards ≡ cards
unfolding taken
cards_hold = refl
