use Rattle.std.proofs.Common.{◌≡◌, ◌++◌, drop, map}
use Rattle.scan_core.specs.RowRanges.{narrowed, AreForward}
use Rattle.scan_core.specs.Streaming.{first_rows}
use Rattle.scan_core.proofs.split_rows.first_rows.Given as goal

abbrev pub invariant-loop-range : goal.invariant-loop-range
invariant-loop-range l = record {
  forward : AreForward (drop l.range-index l.ranges);
  made : l.rows.items ++ first_rows l.selection l.left (map (narrowed l.selection) (drop l.range-index l.ranges)) ≡ first_rows l.fn.selection l.fn.limit (map (narrowed l.fn.selection) l.fn.ranges);
}
