-- Where a pass stands, with where building stands. Inner: the shape of the code; nobody need believe it.
use Rattle.std.specs.Prelude.{ℕ}
use Rattle.wire.specs.declared.Form.{Form}
use Rattle.builder_table.specs.Work.{Standing}
use Rattle.lower_passes.specs.declared.Picks.{Picks}
use Rattle.lower_passes.specs.declared.Decision.{Decision}
use Rattle.lower_passes.specs.declared.UpMark.{UpMark}
use Rattle.lower_passes.specs.declared.DownMark.{DownMark}

pub record Picked : Type 0 where
  pub other : Form
  pub run : Form
  pub cursor : Form
  pub builder : Standing

abbrev pub picked_at : Standing → Picks → Picked
picked_at b p = record { other = p.other; run = p.run; cursor = p.cursor; builder = b }

pub record Ordered : Type 0 where
  pub advance : Form
  pub other : Form
  pub run : Form
  pub cursor : Form
  pub builder : Standing

abbrev pub ordered_at : Standing → Decision → Ordered
ordered_at b d = record { advance = d.advance; other = d.other; run = d.run; cursor = d.cursor; builder = b }

pub record Up : Type 0 where
  pub builder : Standing
  pub depth : ℕ
  pub row : ℕ
  pub slot : ℕ
  pub cell : ℕ

abbrev pub up_at : Standing → UpMark → Up
up_at b u = record { builder = b; depth = u.depth; row = u.row; slot = u.slot; cell = u.cell }

pub record Down : Type 0 where
  pub builder : Standing
  pub depth : ℕ
  pub row : ℕ
  pub cell : ℕ

abbrev pub down_at : Standing → DownMark → Down
down_at b v = record { builder = b; depth = v.depth; row = v.row; cell = v.cell }
