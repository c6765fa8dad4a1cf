-- Where the machine waits for more, a buffer of 131,072 bytes has room for it.
use Rattle.std.proofs.Common.{◌≡◌, false, List, [], ◌∷◌, ℕ, zero, suc, ◌≤◌, ◌<◌, length, get_or, arith}
use Rattle.std.proofs.lemmas.Grind.{common_steps}
use Rattle.tree.specs.Bytes.{Bytes}
use Rattle.tick_check.specs.Check.{Stored}
use Rattle.list_text.specs.declared.outer.Outer.TheVariants.{Cut}
use Rattle.list_text.specs.Line.{line_room}
use Rattle.list_text.specs.Outer.{outer_at}
use Rattle.list_rows.specs.Rows.{Kept, rows_of}
use Rattle.list_machine.specs.Begin.{Rooms, begin_of}
use Rattle.list_machine.proofs.Begins.{begin_cut}
use Rattle.list_machine.proofs.Rows.{run_cut}

byte_low : (bytes : List ℕ) → Bytes bytes → (i : ℕ) → get_or bytes i 0 < 256
byte_low [] b i = omega arith
byte_low (x ∷ xs) b zero = b.0
byte_low (x ∷ xs) b (suc i) = byte_low xs b.1 i

-- a record has at most 65,535 bytes after its length
pub low_short : (bytes : List ℕ) → get_or bytes 0 0 < 256 → get_or bytes 1 0 < 256 → outer_at bytes 0 ≡ Cut → length bytes ≤ 65536
unfolding outer_at
low_short bytes a b e = grind (arith, common_steps)

pub cut_short : (bytes : List ℕ) → Bytes bytes → outer_at bytes 0 ≡ Cut → length bytes ≤ 65536
cut_short bytes b e = low_short bytes (byte_low bytes b 0) (byte_low bytes b 1) e

-- ---- where the machine waits

-- for the tree
pub begin_room : (m : Rooms) (bytes : List ℕ) → Bytes bytes → (begin_of m bytes).ended ≡ false → (begin_of m bytes).goes ≡ false
    → length bytes < 131072
begin_room m bytes b e g = omega (arith, cut_short bytes b (begin_cut m bytes e g))

-- for rows
pub rows_room : (s : Stored) (room : ℕ) (bytes : List ℕ) → Bytes bytes → line_room ≤ room → (number : ℕ) (k : Kept)
    → (rows_of s room bytes 0 number k).ended ≡ false → (rows_of s room bytes 0 number k).read ≡ 0 → length bytes < 131072
rows_room s room bytes b wide number k e z = omega (arith, cut_short bytes b (run_cut s room bytes wide number k e z))
