use Rattle.std.proofs.Common.{subst}
use Rattle.scan_streams.specs.Feeds.{FeedData, ReadsFew}
use Rattle.scan_streams.proofs.Few.{few_begun}
use Rattle.scan_streams.proofs.feed.Feed.reads_few.Goals as goal

pub returns : goal.returns
returns c = subst (λ (f : FeedData). ReadsFew f) c.self.view_is (few_begun c.self.inside.dtype c.self.inside.reading c.self.inside.claims c.self.inside.ended)
