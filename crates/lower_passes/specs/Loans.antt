-- What a step of a pass leaves of a builder, beside its answer. Inner: what callers learn of the slices behind it; nobody need believe it.
use Rattle.std.specs.Prelude.{◌≡◌}
use Rattle.builder_table.specs.declared.lent.Builder.{Builder}
use Rattle.builder_table.specs.Work.{Mem}
use Rattle.builder_table.specs.Loans.{memory, standing, LentAs}
use Rattle.lower_passes.specs.declared.Picks.{Picks}
use Rattle.lower_passes.specs.declared.Decision.{Decision}
use Rattle.lower_passes.specs.declared.UpMark.{UpMark}
use Rattle.lower_passes.specs.declared.DownMark.{DownMark}
use Rattle.lower_passes.specs.Marks.{Picked, picked_at, Ordered, ordered_at, Up, up_at, Down, down_at}
use Rattle.lower_passes.specs.Stops.{Chosen}
use Rattle.lower_passes.specs.Ordered.{Ordains}
use Rattle.lower_passes.specs.Arbitrate.{Raised}
use Rattle.lower_passes.specs.Reach.{Lowered}

abbrev pub chosen : Mem → Picked → Chosen
chosen m p = record { mem = m; picked = p }

abbrev pub ordained : Mem → Ordered → Ordains
ordained m o = record { mem = m; ordered = o }

abbrev pub raised : Mem → Up → Raised
raised m u = record { mem = m; up = u }

abbrev pub lowered : Mem → Down → Lowered
lowered m v = record { mem = m; down = v }

pub record Chooses (a b : Builder) (p : Picks) (o : Chosen) : Type 0 where
  pub lent : LentAs a b
  pub made : chosen (memory b) (picked_at (standing b) p) ≡ o

pub record Decides (a b : Builder) (d : Decision) (o : Ordains) : Type 0 where
  pub lent : LentAs a b
  pub made : ordained (memory b) (ordered_at (standing b) d) ≡ o

pub record Raises (a b : Builder) (u : UpMark) (o : Raised) : Type 0 where
  pub lent : LentAs a b
  pub made : raised (memory b) (up_at (standing b) u) ≡ o

pub record Lowers (a b : Builder) (v : DownMark) (o : Lowered) : Type 0 where
  pub lent : LentAs a b
  pub made : lowered (memory b) (down_at (standing b) v) ≡ o
