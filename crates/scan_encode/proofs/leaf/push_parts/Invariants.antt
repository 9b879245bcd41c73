use Rattle.std.proofs.Common.{◌-◌}
use Rattle.scan_encode.specs.Encoded.{Has, stored}
use Rattle.scan_encode.proofs.Leaves.{Leafing}
use Rattle.scan_encode.proofs.leaf.push_parts.Given as goal

abbrev pub invariant-loop-start : goal.invariant-loop-start
invariant-loop-start l = record {
  so_far : Leafing l.dtype l.options.spelling l.rows l.start l.segments l.made.items;
  has : Has (stored l.segments) l.fn.segments;
}

abbrev pub decreases-loop-start : goal.decreases-loop-start
decreases-loop-start l = l.count - l.start
