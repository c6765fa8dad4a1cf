-- Each operation of table and builder as a step: the op that it makes, the room that it needs, and the form that it answers. All leave every slot below
-- the ops.
use Prim.Native.Nat.{ℕ, ◌+◌, ◌*◌}
use mathlib.Core.List.{List}
use lib.Ieee.{Float}
use Rattle.wire.specs.declared.Form.{Form}
use Rattle.wire.specs.Terms.{Affine}
use Rattle.arena_terms.specs.Sums as S
use Rattle.construct.specs.Builder as B
use Rattle.construct.specs.Builder.{Op, Out}
use Rattle.construct_floats.specs.Floats.{number, floats}
use Rattle.builder_table.specs.Work.{Standing, Mem, Ended}
use Rattle.builder_table.specs.Steps.{wire_in, plus_in, scaled_in, one_minus_in, push_in}
use Rattle.builder_laws.specs.Table.{Stands, Gives, Grown, Lasts}
use Rattle.builder_laws.proofs.Table as T
use Rattle.builder.specs.Bits.{is_zero_in, at_least_in, and_in, or_in}
use Rattle.builder_laws.proofs.Builder.{not_gives, zero_grown, zero_gives, least_grown, least_gives, and_grown, and_gives, or_grown, or_gives}
use Rattle.builder_laws.proofs.Lasts.{size, zero_lasts, least_lasts, and_lasts, or_lasts}
use Rattle.builder_laws.proofs.Running.{Runs}
use Rattle.builder_laws.proofs.Runs.{keeps_grown, Ready}

-- the ops are o's, and so is the form
pub record Made (K : ℕ → Type 0) (m : Mem) (b : Standing) (e : Ended) (o : Out Affine) (need more : ℕ) : Type 0 where
  pub runs : Runs K m b e.mem e.builder o.ops need more
  pub form : Stands e.mem e.builder e.form o.form

-- a form, and no op
abbrev pub only : Affine → List (Op Affine) → Out Affine
only x os = record { form = x; ops = os }

made : {K : ℕ → Type 0} {m : Mem} {b : Standing} {e : Ended} {o : Out Affine} {need more : ℕ}
    → Grown m b e.mem e.builder → Gives e o → Lasts m b e.builder need more → Made K m b e o need more
made g h l = record { runs = record { keeps = keeps_grown g; ops = h.ops; lasts = l }; form = h.form }

module _ {n : ℕ} {K : ℕ → Type 0} {m : Mem} {b : Standing} {os : List (Op Affine)} (r : Ready n m b os) where
  pub wire_runs : (w : ℕ) → Made K m b (wire_in m b w) (only (S.single w) os) 1 0
  wire_runs w = made (T.wire_grown m b w) (T.wire_gives m b w r.ops) (T.wire_lasts m b w)

  module _ {f : Form} {x : Affine} (hx : Stands m b f x) where
    pub scaled_runs : (factor : Float) → Made K m b (scaled_in m b f factor) (only (S.scaled factor x) os) (size x) 0
    scaled_runs factor = made (T.scaled_grown m b f factor) (T.scaled_gives m b f factor r.ops hx) (T.scaled_lasts m b f factor hx)

    pub not_runs : Made K m b (one_minus_in m b f) (only (B.not' floats x) os) (size x) 0
    not_runs = made (T.one_minus_grown m b f) (not_gives m b f r.ops hx) (T.one_minus_lasts m b f hx)

    pub zero_runs : Made K m b (is_zero_in m b f) (B.is_zero floats n x os) (size x + 1) 1
    zero_runs = rw (← r.cells) (made (zero_grown m b f) (zero_gives m b f r.whole r.ops hx) (zero_lasts m b f hx))

    pub least_runs : (k : ℕ) → Made K m b (at_least_in m b f (number k)) (B.at_least floats n x k os) 5 2
    least_runs k = rw (← r.cells) (made (least_grown m b f (number k)) (least_gives m b f k r.whole r.ops hx) (least_lasts m b f (number k) r.whole r.ops hx))

    module _ {g : Form} {y : Affine} (hy : Stands m b g y) where
      pub plus_runs : Made K m b (plus_in m b f g) (only (S.plus x y) os) (size x + size y) 0
      plus_runs = made (T.plus_grown m b f g) (T.plus_gives m b f g r.ops hx hy) (T.plus_lasts m b f g hx hy)

      pub push_runs : Made K m b (push_in m b f g) (B.push floats n x y os) 1 1
      push_runs = rw (← r.cells) (made (T.push_grown m b f g) (T.push_gives m b f g r.whole r.ops hx hy) (T.push_lasts m b f g))

      pub and_runs : Made K m b (and_in m b f g) (B.and floats n x y os) 1 1
      and_runs = rw (← r.cells) (made (and_grown m b f g) (and_gives m b f g r.whole r.ops hx hy) (and_lasts m b f g))

      pub or_runs : Made K m b (or_in m b f g) (B.or floats n x y os) (2 * (size x + size y) + 3) 1
      or_runs = rw (← r.cells) (made (or_grown m b f g) (or_gives m b f g r.whole r.ops hx hy) (or_lasts m b f g r.whole r.ops hx hy))
