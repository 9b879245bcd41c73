use Rattle.std.proofs.Common.{◌+◌}
use Rattle.scan_streams.specs.Splits.{reach}
use Rattle.scan_collect.specs.Reads.{values_given}
use Rattle.scan_collect.proofs.Running.{HasRead}
use Rattle.scan_collect.proofs.iterator.read_iterator.Given as goal

abbrev pub invariant-calls : goal.invariant-calls
invariant-calls g l = HasRead (g.S.SegmentSource.state l.fn.arrays.source) l.fn.arrays.stream.feed (g.S.SegmentSource.state l.left.source) l.left.stream.feed (values_given l.made.items)

abbrev pub decreases-calls : goal.decreases-calls
decreases-calls g l = (g.S.SegmentSource.state l.left.source).turns + reach l.left.stream.feed.splits
