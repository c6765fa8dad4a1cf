-- The ten kinds that are lowered, by families, from document 01's numbers; what a node of a kind takes of children, cells and slots.
use Rattle.std.specs.Prelude.{ℕ, Bool, true, false, List, [], ◌∷◌, get_or}

-- true stands for success
pub data Kind : Type 0 where
  Leaf : Kind
  Constant : Bool → Kind
  -- has a cursor; the status that it advances on
  Composite : Bool → Bool → Kind
  Inverter : Kind
  Force : Bool → Kind

-- by number, from kind 0, which no node has. "Sequences advance on Success, fallbacks on Failure."
abbrev pub kinds : List Kind
kinds =
    Leaf
    ∷ Leaf
    ∷ Constant true
    ∷ Constant false
    ∷ Composite true true
    ∷ Composite false true
    ∷ Composite true false
    ∷ Composite false false
    ∷ Inverter
    ∷ Force true
    ∷ Force false
    ∷ []

-- kinds 11 to 18 are never lowered, so that it is all one what stands here for them
unfoldable pub kind_of : ℕ → Kind
kind_of k = get_or kinds k Leaf

abbrev pub bit : Bool → ℕ
bit true = 1
bit false = 0

abbrev pub is_leaf : Kind → Bool
is_leaf Leaf = true
is_leaf (Constant own) = false
is_leaf (Composite memory on) = false
is_leaf Inverter = false
is_leaf (Force own) = false

abbrev pub has_cursor : Kind → Bool
has_cursor Leaf = false
has_cursor (Constant own) = false
has_cursor (Composite memory on) = memory
has_cursor Inverter = false
has_cursor (Force own) = false

-- "Each of kinds 4 and 6 owns a cursor cell, claimed in pre-order; leaves get slots in pre-order."
abbrev pub cells : Kind → ℕ
cells k = bit (has_cursor k)

abbrev pub slots : Kind → ℕ
slots k = bit (is_leaf k)

-- the children that a node has, if its record gives n: none, one, or n
abbrev pub arity : Kind → ℕ → ℕ
arity Leaf n = 0
arity (Constant own) n = 0
arity (Composite memory on) n = n
arity Inverter n = 1
arity (Force own) n = 1
