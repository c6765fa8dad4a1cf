-- Forms with whole coefficients: the instance of the algebra on which the laws are proved. A bias or a coefficient is a pair (p, n) of
-- naturals, unreduced, and stands for p - n. "sorted by wire, duplicates summed, zero coefficients dropped"
use Prim.Native.Nat.{ℕ, zero, suc, ◌+◌, ◌*◌, compare, Ordering}
use Rattle.std.specs.Prelude.{Bool, true, false, List, [], ◌∷◌, length, leb, eqb}
use Rattle.construct.specs.Forms.{Known, No, Yes, Open, Forms}
use Rattle.construct.specs.Builder as B
use Rattle.construct.specs.Lower as L

pub record Term : Type 0 where
  pub wire : ℕ
  pub cp : ℕ
  pub cn : ℕ

pub record Form : Type 0 where
  pub bp : ℕ
  pub bn : ℕ
  pub terms : List Term

-- one term put into a sorted list: duplicates summed, a zero sum dropped
unfoldable pub keep : Bool → Term → List Term → List Term
keep true t ts = ts
keep false t ts = t ∷ ts

abbrev pub summed : Term → Term → Term
summed t u = record { wire = u.wire; cp = t.cp + u.cp; cn = t.cn + u.cn }

unfoldable pub insert_at : Ordering → Term → Term → List Term → List Term → List Term
insert_at Ordering.lt t u us r = t ∷ u ∷ us
insert_at Ordering.eq t u us r = keep (eqb (t.cp + u.cp) (t.cn + u.cn)) (summed t u) us
insert_at Ordering.gt t u us r = u ∷ r

unfoldable pub insert : Term → List Term → List Term
insert t [] = t ∷ []
insert t (u ∷ us) = insert_at (compare t.wire u.wire) t u us (insert t us)

unfoldable pub merge : List Term → List Term → List Term
merge [] us = us
merge (t ∷ ts) us = insert t (merge ts us)

unfoldable pub flip : List Term → List Term
flip [] = []
flip (t ∷ ts) = record { wire = t.wire; cp = t.cn; cn = t.cp } ∷ flip ts

unfoldable pub times : ℕ → List Term → List Term
times k [] = []
times k (t ∷ ts) = record { wire = t.wire; cp = k * t.cp; cn = k * t.cn } ∷ times k ts

-- ---- the operations of wire.rs

unfoldable pub constant : ℕ → Form
constant b = record { bp = b; bn = 0; terms = [] }

unfoldable pub wire' : ℕ → Form
wire' w = record { bp = 0; bn = 0; terms = record { wire = w; cp = 1; cn = 0 } ∷ [] }

-- offset by p - n
unfoldable pub offset : ℕ → ℕ → Form → Form
offset p n f = record { bp = f.bp + p; bn = f.bn + n; terms = f.terms }

unfoldable pub negate : Form → Form
negate f = record { bp = f.bn; bn = f.bp; terms = flip f.terms }

unfoldable pub plus : Form → Form → Form
plus f g = record { bp = f.bp + g.bp; bn = f.bn + g.bn; terms = merge f.terms g.terms }

-- scaled by a natural: zero leaves no terms
unfoldable pub scaled : ℕ → Form → Form
scaled zero f = constant 0
scaled (suc k) f = record { bp = suc k * f.bp; bn = suc k * f.bn; terms = times (suc k) f.terms }

-- a form without terms is the constant p - n
unfoldable pub empty : List Term → Bool
empty [] = true
empty (t ∷ ts) = false

unfoldable pub known_at : Bool → Bool → Known
known_at true true = No
known_at true false = Yes
known_at false b = Open

unfoldable pub known : Form → Known
known f = known_at (empty f.terms) (eqb f.bp f.bn)

abbrev pub len : Form → ℕ
len f = length f.terms

abbrev pub pairs : Forms Form
pairs = record {
  constant = constant;
  wire = wire';
  plus = plus;
  negate = negate;
  scaled = scaled;
  offset = offset;
  known = known;
  reaches = λ k f. leb (f.bn + k) f.bp;
  terms = len;
}

-- ---- the construction's records over these forms

abbrev pub Op : Type 0
Op = B.Op Form

abbrev pub Out : Type 0
Out = B.Out Form

abbrev pub StatusBits : Type 0
StatusBits = L.StatusBits Form

abbrev pub GatedChild : Type 0
GatedChild = L.GatedChild Form

abbrev pub ClearedChild : Type 0
ClearedChild = L.ClearedChild Form

abbrev pub ArbitratedChild : Type 0
ArbitratedChild = L.ArbitratedChild Form

abbrev pub Picked : Type 0
Picked = L.Picked Form

abbrev pub Ordered : Type 0
Ordered = L.Ordered Form

abbrev pub Arbitration : Type 0
Arbitration = L.Arbitration Form

abbrev pub Up : Type 0
Up = L.Up Form

abbrev pub Entry : Type 0
Entry = L.Entry Form

abbrev pub NodeReach : Type 0
NodeReach = L.NodeReach Form

abbrev pub Down : Type 0
Down = L.Down Form

abbrev pub Many : Type 0 → Type 0
Many X = L.Many Form X
