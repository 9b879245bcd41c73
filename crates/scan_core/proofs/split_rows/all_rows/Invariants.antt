use Rattle.std.proofs.Common.{◌≡◌, ◌++◌, drop, map}
use Rattle.scan_core.specs.RowRanges.{narrowed}
use Rattle.scan_core.specs.Streaming.{all_rows}
use Rattle.scan_core.proofs.split_rows.all_rows.Given as goal

abbrev pub invariant-loop-range : goal.invariant-loop-range
invariant-loop-range l = l.rows.items ++ all_rows (map (narrowed l.selection) (drop l.range-index l.ranges)) ≡ all_rows (map (narrowed l.fn.selection) l.fn.ranges)
