-- What a lane is lent, and that a tick leaves it lent the same. Inner: what callers learn of the slices behind it; nobody need believe it.
use Rattle.std.specs.Prelude.{◌≡◌, ◌+◌, ◌≤◌, length}
use Rattle.wire.specs.declared.Circuit.{Circuit}
use Rattle.tick_check.specs.Check.{stored_in}
use Rattle.tick_check.specs.Checked.{Checked}
use Rattle.tick_lane.specs.declared.lent.Lane.{Lane}
use Rattle.tick_lane.specs.Lane.{Lent, lent}

abbrev pub lent_in : Lane → Lent
lent_in l = lent l.flags.now l.cursors.now l.values.now l.statuses.now l.halts.now l.edges.now

-- b is lent what a was
abbrev pub LentAs : Lane → Lane → Type 0
LentAs a b =
    (b.flags.ghost_name ≡ a.flags.ghost_name) × (b.cursors.ghost_name ≡ a.cursors.ghost_name) × (b.values.ghost_name ≡ a.values.ghost_name)
    × (b.statuses.ghost_name ≡ a.statuses.ghost_name) × (b.halts.ghost_name ≡ a.halts.ghost_name) × (b.edges.ghost_name ≡ a.edges.ghost_name)
    × (length b.flags.now ≡ length a.flags.now) × (length b.cursors.now ≡ length a.cursors.now) × (length b.values.now ≡ length a.values.now)
    × (length b.statuses.now ≡ length a.statuses.now) × (length b.halts.now ≡ length a.halts.now) × (length b.edges.now ≡ length a.edges.now)

-- the circuit has passed its check, and the lane is of its lengths: what a tick behind the check asks
pub record Ready (c : Circuit) (l : Lane) : Type 0 where
  pub checked : Checked (stored_in c)
  pub flags : length l.flags.now ≡ c.counts.nodes
  pub cursors : length l.cursors.now ≡ c.counts.cursors
  pub values : c.counts.cells + c.counts.ops ≤ length l.values.now
  pub statuses : c.counts.nodes ≤ length l.statuses.now
  pub halts : c.counts.nodes ≤ length l.halts.now
  pub edges : c.counts.leaves ≤ length l.edges.now
