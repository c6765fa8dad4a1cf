-- What a tick reports, in report order: the nodes it ticked with their statuses, and the nodes it halted (tick.rs's `ticked` and `halts`). Definitions only.
use Rattle.std.specs.Prelude.{ℕ, Bool, List, cond, not, map, filter, ◌&&◌, length, get_or, eqb, leb, Option, Some, None}
use Rattle.std.proofs.lemmas.List.Edits.{sets}
use Rattle.walk.specs.Status.{not_ticked}

-- the answer's number: 14 where an output is too short for the list
abbrev pub number_of : Option ℕ → ℕ
number_of (Some n) = 0
number_of None = 14

-- whether a node's mark is not the absent one; a node past the marks has none
abbrev pub is_marked : List ℕ → ℕ → ℕ → Bool
is_marked marks absent v = not (eqb (get_or marks v absent) absent)

-- the marked nodes of a list, in its order
abbrev pub nodes_of : List ℕ → ℕ → List ℕ → List ℕ
nodes_of marks absent report = filter (is_marked marks absent) report

-- their marks
abbrev pub marks_of : List ℕ → ℕ → List ℕ → List ℕ
marks_of marks absent report = map (λ v. get_or marks v absent) (nodes_of marks absent report)

-- an answer, and what stands in the outputs
pub record Listed : Type 0 where
  pub answer : Option ℕ
  pub nodes : List ℕ
  pub marks : List ℕ

abbrev pub listed : Option ℕ → List ℕ → List ℕ → Listed
listed r nodes marks = record { answer = r; nodes = nodes; marks = marks }

-- the ticked nodes and their statuses: from the first place of each output on, and nothing past them; nothing at all where an output is too short
unfoldable pub ticked_of : List ℕ → List ℕ → List ℕ → List ℕ → Listed
ticked_of report statuses nodes marks =
    let list = nodes_of statuses not_ticked report in
    cond (leb (length list) (length nodes) && leb (length list) (length marks))
    (listed (Some (length list)) (sets nodes 0 list) (sets marks 0 (marks_of statuses not_ticked report)))
    (listed None nodes marks)

-- an answer, and what stands in the one output
pub record Halted : Type 0 where
  pub answer : Option ℕ
  pub nodes : List ℕ

abbrev pub halted : Option ℕ → List ℕ → Halted
halted r nodes = record { answer = r; nodes = nodes }

-- the halted nodes
unfoldable pub halts_of : List ℕ → List ℕ → List ℕ → Halted
halts_of report halts nodes =
    let list = nodes_of halts 0 report in
    cond (leb (length list) (length nodes)) (halted (Some (length list)) (sets nodes 0 list)) (halted None nodes)
