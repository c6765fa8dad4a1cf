-- The bench cards on ticks, as the walk answers them. Crate cards takes document 01's from here into its table.
use Rattle.std.specs.Prelude.{ℕ, ◌≡◌, refl, List, [], ◌∷◌, ◌++◌, map}
use Rattle.tree.specs.Forest.{Forest, none, node}
use Rattle.walk.specs.Kind.{kind_of}
use Rattle.walk.specs.Walk.{Answer, walk, report_order}

-- a tree, its flags, cursors and row, and what the walk answers
pub record Card : Type 0 where
  pub tree : Forest ℕ
  pub flags : List ℕ
  pub cursors : List ℕ
  pub row : List ℕ
  pub answer : Answer

-- a Sequence of two leaves
abbrev pub sequence : Forest ℕ
sequence = node 4 (node 1 none (node 1 none none)) none

-- a ReactiveSequence of a leaf and a Sequence of one leaf
abbrev pub reactive : Forest ℕ
reactive = node 5 (node 1 none (node 4 (node 1 none none) none)) none

-- a tree of the other kinds: a Fallback of an Inverter, a ForceFailure, a ForceSuccess and a ReactiveFallback
abbrev pub others : Forest ℕ
others = node 6 (node 8 (node 1 none none) (node 10 (node 2 none none) (node 9 (node 3 none none) (node 7 (node 1 none none) none)))) none

-- ---- document 01's cards

-- the rows that two leaves can be given
abbrev pub rows_of_two : List (List ℕ)
rows_of_two =
    (0 ∷ 0 ∷ [])
    ∷ (0 ∷ 1 ∷ [])
    ∷ (0 ∷ 2 ∷ [])
    ∷ (1 ∷ 0 ∷ [])
    ∷ (1 ∷ 1 ∷ [])
    ∷ (1 ∷ 2 ∷ [])
    ∷ (2 ∷ 0 ∷ [])
    ∷ (2 ∷ 1 ∷ [])
    ∷ (2 ∷ 2 ∷ [])
    ∷ []

-- "cursor 2, flags 1,0,1: statuses 0,3,3, flags 0,0,1, cursor 0": no leaf is named, so it is a card for each row
abbrev pub past_the_end : List ℕ → Card
past_the_end row =
    record {
      tree = sequence;
      flags = 1 ∷ 0 ∷ 1 ∷ [];
      cursors = 2 ∷ [];
      row = row;
      answer = record { statuses = 0 ∷ 3 ∷ 3 ∷ []; halts = 0 ∷ 0 ∷ 0 ∷ []; flags = 0 ∷ 0 ∷ 1 ∷ []; cursors = 0 ∷ []; edges = 0 ∷ 0 ∷ [] };
    }

-- that and one more on `sequence`, three on `reactive`
abbrev pub document : List Card
document =
    map past_the_end rows_of_two
    ++ record {
      tree = sequence;
      flags = 1 ∷ 0 ∷ 1 ∷ [];
      cursors = 0 ∷ [];
      row = 2 ∷ 0 ∷ [];
      answer = record { statuses = 2 ∷ 2 ∷ 3 ∷ []; halts = 0 ∷ 0 ∷ 1 ∷ []; flags = 1 ∷ 1 ∷ 0 ∷ []; cursors = 0 ∷ []; edges = 1 ∷ 2 ∷ [] };
    }
    ∷ record {
      tree = reactive;
      flags = 0 ∷ 0 ∷ 0 ∷ 0 ∷ [];
      cursors = 70000 ∷ [];
      row = 1 ∷ 0 ∷ [];
      answer = record { statuses = 1 ∷ 1 ∷ 3 ∷ 3 ∷ []; halts = 0 ∷ 0 ∷ 0 ∷ 0 ∷ []; flags = 0 ∷ 0 ∷ 0 ∷ 0 ∷ []; cursors = 65535 ∷ []; edges = 0 ∷ 0 ∷ [] };
    }
    ∷ record {
      tree = reactive;
      flags = 0 ∷ 0 ∷ 1 ∷ 1 ∷ [];
      cursors = 70000 ∷ [];
      row = 1 ∷ 0 ∷ [];
      answer = record { statuses = 1 ∷ 1 ∷ 3 ∷ 3 ∷ []; halts = 0 ∷ 0 ∷ 1 ∷ 1 ∷ []; flags = 0 ∷ 0 ∷ 0 ∷ 0 ∷ []; cursors = 0 ∷ []; edges = 0 ∷ 2 ∷ [] };
    }
    ∷ record {
      tree = reactive;
      flags = 0 ∷ 0 ∷ 0 ∷ 1 ∷ [];
      cursors = 70000 ∷ [];
      row = 1 ∷ 0 ∷ [];
      answer = record { statuses = 1 ∷ 1 ∷ 3 ∷ 3 ∷ []; halts = 0 ∷ 0 ∷ 0 ∷ 0 ∷ []; flags = 0 ∷ 0 ∷ 0 ∷ 1 ∷ []; cursors = 65535 ∷ []; edges = 0 ∷ 0 ∷ [] };
    }
    ∷ []

-- ---- ours: the two lines of the listing, and a row on `others`

abbrev pub ours : List Card
ours =
    record {
      tree = sequence;
      flags = 0 ∷ 0 ∷ 0 ∷ [];
      cursors = 0 ∷ [];
      row = 0 ∷ 2 ∷ [];
      answer = record { statuses = 2 ∷ 0 ∷ 2 ∷ []; halts = 0 ∷ 0 ∷ 0 ∷ []; flags = 1 ∷ 0 ∷ 1 ∷ []; cursors = 1 ∷ []; edges = 0 ∷ 1 ∷ [] };
    }
    ∷ record {
      tree = sequence;
      flags = 1 ∷ 0 ∷ 1 ∷ [];
      cursors = 1 ∷ [];
      row = 1 ∷ 0 ∷ [];
      answer = record { statuses = 0 ∷ 3 ∷ 0 ∷ []; halts = 0 ∷ 0 ∷ 0 ∷ []; flags = 0 ∷ 0 ∷ 0 ∷ []; cursors = 0 ∷ []; edges = 0 ∷ 2 ∷ [] };
    }
    ∷ record {
      tree = others;
      flags = 0 ∷ 0 ∷ 0 ∷ 0 ∷ 0 ∷ 0 ∷ 0 ∷ 1 ∷ 1 ∷ [];
      cursors = 0 ∷ [];
      row = 0 ∷ 2 ∷ [];
      answer = record {
        statuses = 0 ∷ 1 ∷ 0 ∷ 1 ∷ 0 ∷ 0 ∷ 1 ∷ 3 ∷ 3 ∷ [];
        halts = 0 ∷ 0 ∷ 0 ∷ 0 ∷ 0 ∷ 0 ∷ 0 ∷ 1 ∷ 1 ∷ [];
        flags = 0 ∷ 0 ∷ 0 ∷ 0 ∷ 0 ∷ 0 ∷ 0 ∷ 0 ∷ 0 ∷ [];
        cursors = 0 ∷ [];
        edges = 0 ∷ 2 ∷ [];
      };
    }
    ∷ []

-- ---- they hold

unfoldable pub answered : List Card → List Answer
unfolding kind_of walk
answered cs = map (λ (c : Card). walk c.tree c.flags c.cursors c.row) cs

abbrev pub Hold : List Card → Type 0
Hold cs = answered cs ≡ map (λ (c : Card). c.answer) cs

pub document_holds : Hold document
unfolding answered
document_holds = refl

pub ours_hold : Hold ours
unfolding answered
ours_hold = refl

pub order_holds : report_order reactive ≡ 1 ∷ 3 ∷ 2 ∷ 0 ∷ []
order_holds = refl
