-- The two sides of a box.
use Rattle.std.specs.Prelude.{◌≡◌, true, false, None, Some}
use Rattle.std.specs.Arc.{arc_value}
use Rattle.crossbeam_queue.specs.Passes.{view, IsPassOf}
use Rattle.scan_pool.specs.Boxes.{knows}
use Rattle.scan_pool.specs.declared.seat.Seat.{Seat}
use Rattle.scan_pool.specs.declared.seat.Server.{Server}

module _ {T : Type 0} where
  -- nothing of it is out
  abbrev pub IsIdle : Seat T → Type 0
  IsIdle s = IsPassOf (arc_value s.mailbox).line s.pass × (view s.pass ≡ knows true false None None)

  -- this work is out
  abbrev pub IsOut : T → Seat T → Type 0
  IsOut b s = IsPassOf (arc_value s.mailbox).line s.pass × (view s.pass ≡ knows true false (Some b) None)

  -- it has taken nothing out
  abbrev pub IsServing : Server T → Type 0
  IsServing s = IsPassOf (arc_value s.mailbox).line s.pass × (view s.pass ≡ knows false true None None)
