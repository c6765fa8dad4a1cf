-- The records that the listing program reads: "two-byte length (bytes that follow it), two-byte kind, payload; all little-endian". Definitions only.
use Rattle.std.specs.Prelude.{ℕ, ◌+◌, ◌-◌, cond, List, ltb, length}
use Rattle.tree_record.specs.Record.{u16_at}
use Rattle.list_text.specs.declared.outer.Outer.{Outer}
use Rattle.list_text.specs.declared.outer.Outer.TheVariants.{Whole, Cut, Bad}

-- "length below 2" is bad; with fewer bytes than the length it is cut, and more may come
abbrev pub sized_outer : List ℕ → ℕ → ℕ → Outer
sized_outer bytes at size =
    cond (ltb size 2) Bad
    (cond (ltb (length bytes - at - 2) size) Cut
    (Whole (u16_at bytes (at + 2)) (at + 4) (at + 2 + size)))

-- the record at a position: its kind, where its payload begins and where it ends
unfoldable pub outer_at : List ℕ → ℕ → Outer
outer_at bytes at = cond (ltb (length bytes - at) 2) Cut (sized_outer bytes at (u16_at bytes at))
