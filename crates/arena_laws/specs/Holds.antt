-- What a caller of the arena goes by: which form stands for which value, that a later operation leaves it so, and how much room is enough.
-- Inner: the shape of the code; nobody need believe it.
use Rattle.std.specs.Prelude.{ℕ, ◌+◌, ◌≤◌, ◌≡◌, List, true, length, Float}
use Rattle.wire.specs.declared.Form.{Form}
use Rattle.wire.specs.Terms.{part, terms_of, Affine}
use Rattle.arena_room.specs.declared.Room.{Room}

-- the form f stands for x, and its terms lie below used
pub record Is (ws : List ℕ) (cs : List Float) (used : ℕ) (f : Form) (x : Affine) : Type 0 where
  pub below : f.first + f.len ≤ used
  pub terms : terms_of ws cs f ≡ x.terms
  pub bias : f.bias ≡ x.bias

-- it does where all had room so far
pub record Holds (ws : List ℕ) (cs : List Float) (room : Room) (f : Form) (x : Affine) : Type 0 where
  pub holds : room.ok ≡ true → Is ws cs room.used f x

-- the arena grows: the terms in use stay, and a flag that is down stays down
pub record Grows (ws : List ℕ) (cs : List Float) (room : Room) (ws' : List ℕ) (cs' : List Float) (room' : Room) : Type 0 where
  pub wires : length ws' ≡ length ws
  pub coefs : length cs' ≡ length cs
  pub was : room'.ok ≡ true → room.ok ≡ true
  pub more : room.used ≤ room'.used
  pub keeps : (i n : ℕ) → i + n ≤ room.used → part ws' cs' i n ≡ part ws cs i n

-- with slots for `need` more terms the flag stays up, and no more is used
pub record Lives (slots : ℕ) (room room' : Room) (need : ℕ) : Type 0 where
  pub lives : room.ok ≡ true → room.used + need ≤ slots → (room'.ok ≡ true) × (room'.used ≤ room.used + need)
