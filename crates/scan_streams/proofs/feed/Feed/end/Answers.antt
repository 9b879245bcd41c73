use Rattle.std.proofs.Common.{subst, sym, ap, List, ℕ}
use Rattle.scan_streams.specs.Feeds.{FeedData}
use Rattle.scan_streams.specs.Streams.{LiveAs}
use Rattle.scan_streams.proofs.Feeding.{agree_of}
use Rattle.scan_streams.proofs.feed.Feed.end.Goals as goal

pub close-requires : goal.close-requires
close-requires g c =
    let live = (g.S.SegmentSource.state c.args.source.now).live in
    agree_of live c.self.inside.reading.desk (subst (λ (ids : List ℕ). LiveAs live ids) (sym (ap (λ (f : FeedData). f.live) c.self.view_is)) c.requires)
