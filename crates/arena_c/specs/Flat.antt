-- What an operation of the arena answers to C: the form and the room in one row. Definitions only.
use Rattle.std.specs.Prelude.{ℕ, ◌≡◌, List, Float}
use Rattle.arena.specs.Arena.{Outcome}
use Rattle.arena_c.specs.declared.Row.{Row}

abbrev pub row_of : Outcome → Row
row_of o = record { bias = o.form.bias; first = o.form.first; len = o.form.len; used = o.room.used; ok = o.room.ok }

-- the pools end as ws and cs, and the answer is r, as the outcome says
pub record Leaves (o : Outcome) (ws : List ℕ) (cs : List Float) (r : Row) : Type 0 where
  pub wires : ws ≡ o.wires
  pub coefs : cs ≡ o.coefs
  pub row : r ≡ row_of o
