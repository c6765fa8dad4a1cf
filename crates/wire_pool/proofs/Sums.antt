-- The loop that adds up a form; more places to read; the length of a table that ops ran on.
use mathlib.Core.Path.{◌≡◌, refl, ◌∙◌}
use mathlib.Core.List.{List}
use Prim.Native.Nat.{ℕ, zero, suc, ◌+◌, ◌-◌, ◌≤◌, ◌<◌}
use native.Mathlib.Omega.{arith}
use lib.ListN.{length, get_or, length-set}
use lib.Ieee.{Float, nan, binary32, add, mul}
use Rattle.wire.specs.declared.Form.{Form}
use Rattle.wire.specs.Terms.{part, added}
use Rattle.wire.specs.Storage.{Op}
use Rattle.wire.proofs.Parts.{part_step, part_end}
use Rattle.wire_pool.specs.Values.{op_value, table_after, Readable}

-- ---- a form's sum

module _ (ws : List ℕ) (cs table : List Float) (f : Form) where
  -- a total, and the terms from an index up to the form's end added to it
  abbrev pub rest : ℕ → Float → Float
  rest at total = added table (part ws cs at (f.first + f.len - at)) total

  pub rest_next : (at : ℕ) (total : Float) → at < f.first + f.len
      → rest (at + 1) (add binary32 total (mul binary32 (get_or cs at nan) (get_or table (get_or ws at 0) nan))) ≡ rest at total
  unfolding added
  rest_next at total h = rw (part_step ws cs at (f.first + f.len) h)

  pub rest_last : (at : ℕ) (total : Float) → f.first + f.len ≤ at → rest at total ≡ total
  unfolding added
  rest_last at total h = rw (part_end ws cs at (f.first + f.len) h)

-- ---- what can be read

pub more_readable : (ws : List ℕ) (cs : List Float) (n m : ℕ) (f : Form) → n ≤ m → Readable ws cs n f → Readable ws cs m f
more_readable ws cs n m f h r =
    record { in_wires = r.in_wires; in_coefs = r.in_coefs; reads = λ k a b. let l = r.reads k a b in omega arith }

-- ---- all ops

module _ (op : ℕ → Op) (cells : ℕ) (table : List Float) where
  pub after_length : (n : ℕ) → length (table_after op cells table n) ≡ length table
  unfolding table_after
  after_length zero = refl
  after_length (suc n) = length-set (table_after op cells table n) (cells + n) (op_value (table_after op cells table n) (op n)) ∙ after_length n
