-- The whole construction: from nodes in pre-order, each a kind and a child count, to ops in order and output forms; and how they are counted.
use Rattle.std.specs.Prelude.{ℕ, ◌+◌, ◌*◌, List, [], ◌∷◌, ◌++◌, reverse, length}
use Rattle.walk.specs.Kind.{kind_of}
use Rattle.construct.specs.Forms.{Forms}
use Rattle.construct.specs.Builder.{Op}
use Rattle.construct.specs.Lower.{Flat, flat_of, slot_after, cell_after, StatusBits, Entry, NodeReach, Down, Many, up, down, flags}

-- the nodes of these kind numbers and child counts
abbrev pub flats : List ℕ → List ℕ → List Flat
flats [] cs = []
flats (k ∷ ks) [] = []
flats (k ∷ ks) (c ∷ cs) = flat_of (kind_of k) c ∷ flats ks cs

-- L and C: the leaf slots and cursor cells once all nodes have theirs
unfoldable pub slot_end : ℕ → List Flat → ℕ
slot_end s [] = s
slot_end s (n ∷ ns) = slot_end (slot_after n s) ns

unfoldable pub cell_end : ℕ → List Flat → ℕ
cell_end c [] = c
cell_end c (n ∷ ns) = cell_end (cell_after n c) ns

-- "Cells: running flag of node i at i; cursor c at N + c; leaf slot s at N + C + 3s for success, then failure, then running. Ops follow."
abbrev pub cells_n : List Flat → ℕ
cells_n ns = length ns

abbrev pub cells_nc : List Flat → ℕ
cells_nc ns = length ns + cell_end 0 ns

abbrev pub inputs : List Flat → ℕ
inputs ns = cells_nc ns + 3 * slot_end 0 ns

-- what a node puts out: "three statuses, reached, halted, next running per node"
pub record Output (F : Type 0) : Type 0 where
  pub status : StatusBits F
  pub reached : F
  pub halted : F
  pub running : F

-- ops in order; then the outputs, "next cursor per cell" last
pub record Circuit (F : Type 0) : Type 0 where
  pub ops : List (Op F)
  pub outputs : List (Output F)
  pub cursors : List F

-- the passes' results, ops newest first
pub record Built (F : Type 0) : Type 0 where
  pub pass : Down F
  pub running : Many F F

abbrev pub outputs_of : {F : Type 0} → List (NodeReach F) → List F → List (Output F)
outputs_of [] fs = []
outputs_of (x ∷ xs) [] = []
outputs_of (x ∷ xs) (f ∷ fs) = record { status = x.raw; reached = x.reached; halted = x.halted; running = f } ∷ outputs_of xs fs

module _ {F : Type 0} (A : Forms F) where
  -- the root is reached, and no halt is called on it
  abbrev pub root : Entry F
  root = record { reached = A.constant 1; called = A.constant 0 }

  unfoldable pub build : List Flat → Built F
  build ns =
      let opsAt = inputs ns in
      let u = up A opsAt (cells_n ns) (cells_nc ns) 0 0 ns in
      let d = down A opsAt (cells_n ns) 0 0 u.arbitrations (root ∷ []) u.ops in
      record { pass = d; running = flags A opsAt (cells_n ns) d.outs d.ops }

  unfoldable pub construct : List Flat → Circuit F
  construct ns =
      let b = build ns in
      record { ops = reverse b.running.ops; outputs = outputs_of b.pass.outs b.running.items; cursors = b.pass.cursors }

-- the circuit's forms in order: "both forms of every op, then .. the output forms (three statuses, reached, halted, next running per node; next
-- cursor per cell)"
unfoldable pub op_forms : {F : Type 0} → List (Op F) → List F
op_forms [] = []
op_forms (o ∷ os) = o.left ∷ o.gate ∷ op_forms os

unfoldable pub output_forms : {F : Type 0} → List (Output F) → List F
output_forms [] = []
output_forms (x ∷ xs) = x.status.success ∷ x.status.failure ∷ x.status.running ∷ x.reached ∷ x.halted ∷ x.running ∷ output_forms xs

abbrev pub forms_of : {F : Type 0} → Circuit F → List F
forms_of c = op_forms c.ops ++ (output_forms c.outputs ++ c.cursors)

-- "Terms are counted .. one for each appearance."
unfoldable pub terms_in : {F : Type 0} → Forms F → List F → ℕ
terms_in A [] = 0
terms_in A (f ∷ fs) = A.terms f + terms_in A fs

abbrev pub term_count : {F : Type 0} → Forms F → Circuit F → ℕ
term_count A c = terms_in A (forms_of c)

abbrev pub op_count : {F : Type 0} → Circuit F → ℕ
op_count c = length c.ops
