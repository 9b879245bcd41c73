use Rattle.std.proofs.Common.{◌≡◌}
use Rattle.scan_streams.specs.Streams.{LiveAs}
use Rattle.scan_streams.proofs.Waiting.{Waited}
use Rattle.scan_streams.proofs.array_iter.next_item.Given as goal

abbrev pub invariant-polls : goal.invariant-polls
invariant-polls g l = record {
  live : LiveAs (g.S.SegmentSource.state l.source).live l.stream.feed.live;
  step : l.stream.step ≡ l.fn.stream.step;
  waited : Waited (g.S.SegmentSource.state l.fn.source) (g.S.SegmentSource.state l.source) l.fn.stream.feed l.stream.feed;
}

abbrev pub decreases-polls : goal.decreases-polls
decreases-polls g l = (g.S.SegmentSource.state l.source).turns
