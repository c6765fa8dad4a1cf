-- When another algebra of forms constructs the same circuit: its operations are those on forms with whole coefficients, as long as these are
-- small.
use Prim.Native.Nat.{◌≤◌, ℕ}
use mathlib.Core.List.{map}
use mathlib.Core.Path.{◌≡◌}
use Rattle.construct.specs.Circuit.{Circuit, Output}
use Rattle.construct.specs.Forms.{Forms}
use Rattle.construct.specs.Pairs.{Form, constant, known, len, negate, offset, pairs, plus, scaled, wire'}
use Rattle.construct.specs.Scope.{Reads}
use Rattle.construct_sizes.specs.Exact.{Small}
use Rattle.construct.specs.Builder as B
use Rattle.construct.specs.Lower as L
use mathlib.Core.List.{map}

-- terms in rising order with coefficients other than 0, and no number larger than C in size
abbrev pub Fits : ℕ → Form → Type 0
Fits C f = ((n : ℕ) × Reads n f) × Small C f

-- an algebra whose operations on images of small forms are images of the results
pub record Respects {F : Type 0} (A : Forms F) (of : Form → F) : Type 0 where
  pub constant_same : (b : ℕ) → b ≤ 1 → A.constant b ≡ of (constant b)
  pub wire_same : (w : ℕ) → A.wire w ≡ of (wire' w)
  pub plus_same : (f g : Form) → Fits 8388608 f → Fits 8388608 g → A.plus (of f) (of g) ≡ of (plus f g)
  pub negate_same : (f : Form) → Fits 8388608 f → A.negate (of f) ≡ of (negate f)
  pub scaled_same : (k : ℕ) (f : Form) → k ≤ 128 → Fits 65536 f → A.scaled k (of f) ≡ of (scaled k f)
  pub offset_same : (p n : ℕ) (f : Form) → p ≤ 1 → n ≤ 128 → Fits 8388608 f → A.offset p n (of f) ≡ of (offset p n f)
  pub known_same : (f : Form) → Fits 8388608 f → A.known (of f) ≡ known f
  pub reaches_same : (k : ℕ) (f : Form) → k ≤ 128 → Fits 8388608 f → A.reaches k (of f) ≡ pairs.reaches k f
  pub terms_same : (f : Form) → A.terms (of f) ≡ len f

-- the images of a circuit's parts
module _ {F G : Type 0} (of : F → G) where
  abbrev pub of_op : B.Op F → B.Op G
  of_op o = record { left = of o.left; gate = of o.gate }

  abbrev pub of_status : L.StatusBits F → L.StatusBits G
  of_status t = record { success = of t.success; failure = of t.failure; running = of t.running }

  abbrev pub of_output : Output F → Output G
  of_output x = record { status = of_status x.status; reached = of x.reached; halted = of x.halted; running = of x.running }

  abbrev pub of_circuit : Circuit F → Circuit G
  of_circuit c = record { ops = map of_op c.ops; outputs = map of_output c.outputs; cursors = map of c.cursors }
