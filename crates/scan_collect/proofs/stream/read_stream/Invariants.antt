use Rattle.std.proofs.Common.{◌+◌}
use Rattle.scan_streams.specs.Splits.{reach}
use Rattle.scan_streams.specs.Streams.{LiveAs}
use Rattle.scan_collect.specs.Reads.{values_given}
use Rattle.scan_collect.proofs.Running.{HasRead}
use Rattle.scan_collect.proofs.stream.read_stream.Given as goal

abbrev pub invariant-polls : goal.invariant-polls
invariant-polls g l = record {
  live : LiveAs (g.S.SegmentSource.state l.source).live l.left.feed.live;
  read : HasRead (g.S.SegmentSource.state l.fn.source) l.fn.stream.feed (g.S.SegmentSource.state l.source) l.left.feed (values_given l.arrays.items);
}

abbrev pub decreases-polls : goal.decreases-polls
decreases-polls g l = (g.S.SegmentSource.state l.source).turns + reach l.left.feed.splits
