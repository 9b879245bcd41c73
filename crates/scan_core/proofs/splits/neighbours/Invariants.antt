use Rattle.std.proofs.Common.{◌≡◌, ◌-◌, ◌<◌, ◌++◌, drop}
use Rattle.scan_core.specs.SplitRanges.{neighbours}
use Rattle.scan_core.proofs.splits.neighbours.Given as goal

abbrev pub invariant-loop-i : goal.invariant-loop-i
invariant-loop-i l = record { from : 0 < l.i; made : l.ranges.items ++ neighbours (drop (l.i - 1) l.boundaries) ≡ neighbours l.fn.boundaries }
