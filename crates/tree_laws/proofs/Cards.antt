-- Document 01's bench cards on tree bytes, with 128 slots lent for kinds and for counts: rows of one table under one statement.
use Rattle.std.proofs.Common.{◌≡◌, refl, List, [], ◌∷◌, ◌++◌, ℕ, zero, suc}
use Rattle.tree_kinds.specs.Kinds.{rows, row_of}
use Rattle.tree.specs.Bytes.{bytes_of}
use Rattle.tree.specs.Forest.{Forest, none, node}
use Rattle.tree_record.specs.Record.{record_at}
use Rattle.tree.specs.Told.{Told, nodes, refused, told}
use Rattle.tree.specs.Tree.{parse, tree_of, flat_of, answer_of}

pub record Card : Type 0 where
  pub input : List ℕ
  pub answer : Told

pub leaves : ℕ → Forest ℕ
leaves zero = none
leaves (suc n) = node 1 none (leaves n)

-- inverters one below the other, over a leaf
pub chain : ℕ → Forest ℕ
chain zero = leaves 1
chain (suc n) = node 8 (chain n) none

pub cards : List Card
cards =
    record { input = []; answer = refused 1 0 0 } ∷
    record { input = 0x02 ∷ 0x00 ∷ 0x0B ∷ 0x00 ∷ []; answer = refused 4 0 11 } ∷
    record { input = 0x04 ∷ 0x00 ∷ 0x04 ∷ 0x00 ∷ 0x00 ∷ 0x00 ∷ []; answer = refused 5 0 0 } ∷
    record { input = bytes_of (leaves 1) ++ 0 ∷ []; answer = refused 8 1 0 } ∷
    record { input = bytes_of (chain 15); answer = nodes 16 } ∷
    record { input = bytes_of (chain 16); answer = refused 6 16 0 } ∷
    record { input = bytes_of (node 4 (leaves 127) none); answer = nodes 128 } ∷
    record { input = bytes_of (node 4 (leaves 128) none); answer = refused 7 128 0 } ∷
    []

abbrev pub Hold : List Card → Type 0
Hold [] = Unit {0}
Hold (card ∷ more) = (told (answer_of (flat_of 128 128 card.input)) ≡ card.answer) × Hold more

pub cards_hold : Hold cards
unfolding cards leaves chain flat_of tree_of parse record_at row_of rows
cards_hold = (refl, (refl, (refl, (refl, (refl, (refl, (refl, (refl, tt))))))))
