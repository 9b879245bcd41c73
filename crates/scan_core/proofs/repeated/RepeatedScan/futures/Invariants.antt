use Rattle.std.proofs.Common.{◌≡◌, ◌++◌, drop, map}
use Rattle.scan_core.specs.RowRanges.{AreRanges}
use Rattle.scan_core.specs.ScanData.{split_of}
use Rattle.scan_core.proofs.repeated.RepeatedScan.futures.Given as goal

abbrev pub invariant-loop-range : goal.invariant-loop-range
invariant-loop-range g l = record {
  within : AreRanges l.self.rows (drop l.range-index l.ranges);
  made : l.futures.items ++ map (split_of l.self) (drop l.range-index l.ranges) ≡ map (split_of l.fn.self) l.fn.ranges;
}
