-- The value of an op and the table of all values, document 01, "Cells and forms"; and what a reader must know that reads without a test.
use Rattle.std.specs.Prelude.{ℕ, zero, suc, ◌+◌, ◌≤◌, ◌<◌, ◌≡◌, List, length, get_or, set, Float}
use Rattle.std.specs.Float.{nan, binary32}
use Rattle.std.specs.Float.Ieee.{mul}
use Rattle.exact.specs.Tests.{relu}
use Rattle.wire.specs.declared.Form.{Form}
use Rattle.wire.specs.declared.Pools.{Pools}
use Rattle.wire.specs.declared.Circuit.{Circuit}
use Rattle.wire.specs.Terms.{value_in}
use Rattle.wire.specs.Storage.{op_slots, affine_kind, reglu_kind, kind_at, left_form, gate_form, Op, affine, reglu, neither}

-- "An op is a form, or left times max(0, gate), where a NaN gate counts as 0"; one of neither kind has no value
unfoldable pub op_value : List Float → Op → Float
op_value table (affine form) = value_in table form
op_value table (reglu left gate) = mul binary32 (value_in table left) (relu (value_in table gate))
op_value table neither = nan

-- the table after the first n ops, each of which reads the values before its own: "Ops follow" the cells
unfoldable pub table_after : (ℕ → Op) → ℕ → List Float → ℕ → List Float
unfolding op_value
table_after op cells table zero = table
table_after op cells table (suc n) = let before = table_after op cells table n in set before (cells + n) (op_value before (op n))

-- a form lies in both pools and reads below n
pub record Readable (wires : List ℕ) (coefs : List Float) (n : ℕ) (f : Form) : Type 0 where
  pub in_wires : f.first + f.len ≤ length wires
  pub in_coefs : f.first + f.len ≤ length coefs
  pub reads : (k : ℕ) → f.first ≤ k → k < f.first + f.len → get_or wires k 0 < n

-- the same, of lent pools
abbrev pub ReadableIn : Pools → ℕ → Form → Type 0
ReadableIn p n f = Readable p.wires.now p.coefs.now n f

-- op i has a slot, is of one of the two kinds, and the forms of its kind can be read
pub record OpReadable (nums : List ℕ) (biases : List Float) (wires : List ℕ) (coefs : List Float) (n i : ℕ) : Type 0 where
  pub slot : i < op_slots (length nums) (length biases)
  pub kind_low : affine_kind ≤ kind_at nums i
  pub kind_high : kind_at nums i ≤ reglu_kind
  pub left : Readable wires coefs n (left_form nums biases i)
  pub gate : kind_at nums i ≡ reglu_kind → Readable wires coefs n (gate_form nums biases i)

-- the same, of a lent circuit
abbrev pub OpReadableIn : Circuit → ℕ → ℕ → Type 0
OpReadableIn c n i = OpReadable c.nums.now c.biases.now c.pools.wires.now c.pools.coefs.now n i
