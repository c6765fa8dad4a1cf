-- The numbers that the output forms of a tree's circuit are to have: what becomes of each node, then the next cursors. Definitions only.
use Prim.Native.Nat.{ℕ}
use mathlib.Core.List.{List, [], ◌∷◌, ◌++◌}
use Rattle.walk.specs.Kind.{bit}
use Rattle.walk.specs.Status.{is_success, is_failure, is_running_status}
use Rattle.walk.specs.Walk.{Fate, next_flag}
use Rattle.construct_means.specs.Means.{cursors_of}

-- "three statuses, reached, halted, next running per node"
unfoldable pub bits_of : List Fate → List ℕ
bits_of [] = []
bits_of (x ∷ xs) =
    bit (is_success x.would) ∷ bit (is_failure x.would) ∷ bit (is_running_status x.would) ∷ bit x.ticked ∷ bit x.halted ∷ bit (next_flag x) ∷ bits_of xs

-- ".. next cursor per cell"
abbrev pub values_of : List Fate → List ℕ
values_of xs = bits_of xs ++ cursors_of xs
