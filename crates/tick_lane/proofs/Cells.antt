-- The lengths of what is written, and the values that stand first in some room.
use Rattle.std.specs.Float.{nan}
use Rattle.std.proofs.Common.{◌≡◌, ℕ, zero, suc, ◌≤◌, List, length, take, Float, refl, ap, ◌∙◌}
use Rattle.std.proofs.Math.ListN.{length-set}
use Rattle.wire.specs.declared.Counts.{Counts}
use Rattle.wire.specs.Storage.{op_at, output_count}
use Rattle.wire_pool.proofs.Sums.{after_length}
use Rattle.tick_check.specs.Check.{Stored}
use Rattle.lists.specs.Fill.{fill_at, prefix}
use Rattle.lists.proofs.Fill.{fill_length, fill_prefix, take_prefix}
use Rattle.tick_lane.specs.Evaluate.{leaves_at, cells_of, table_of, out_value, outs_of}

pub filled : (f : ℕ → ℕ) (xs : List ℕ) (n : ℕ) → n ≤ length xs → fill_at 0 f xs n ≡ prefix f n xs
filled f xs n h = fill_prefix f xs 0 n h

pub leaves_length : (base : ℕ) (row : List ℕ) (xs : List Float) (n : ℕ) → length (leaves_at base row xs n) ≡ length xs
unfolding leaves_at
leaves_length base row xs zero = refl
leaves_length base row xs (suc n) = simp length-set (leaves_length base row xs n)

pub cells_length : (n : Counts) (row flags cursors : List ℕ) (xs : List Float) → length (cells_of n row flags cursors xs) ≡ length xs
unfolding cells_of
cells_length n row flags cursors xs = simp (leaves_length, fill_length)

pub table_length : (s : Stored) (row flags cursors : List ℕ) (xs : List Float) → length (table_of s row flags cursors xs) ≡ length xs
unfolding table_of
table_length s row flags cursors xs =
    after_length (op_at s.nums s.biases s.wires s.coefs) s.counts.cells (cells_of s.counts row flags cursors xs) s.counts.ops
    ∙ cells_length s.counts row flags cursors xs

-- the part of some room that holds the values of the output forms
pub outs_part : (s : Stored) (table room : List Float) → output_count s.counts ≤ length room
    → take (output_count s.counts) (fill_at 0 (out_value s table) room (output_count s.counts)) ≡ outs_of s table
unfolding outs_of
outs_part s table room h =
    let n = output_count s.counts in
    ap (take n) (fill_prefix (out_value s table) room nan n h) ∙ take_prefix (out_value s table) room nan n
