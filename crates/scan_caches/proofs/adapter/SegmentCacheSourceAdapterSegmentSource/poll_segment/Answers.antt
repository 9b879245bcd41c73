use Rattle.scan_caches.proofs.Faithful.{poll_keeps}
use Rattle.scan_caches.proofs.adapter.SegmentCacheSourceAdapterSegmentSource.poll_segment.Goals as goal

pub returns-clause-content : goal.returns-clause-content
returns-clause-content g c =
    rw (← c.self.view_is)
    (λ store f. poll_keeps g.C.SegmentCache.cache g.C.SegmentCache.gets g.S.SegmentSource.state g.S.Polls.polls g.S.Fits.fits store c.args.id c.self.inside.cache c.poll_stage.new.cache
    c.self.inside.source c.poll_stage.new.source c.poll_stage.result c.self.inside.stages.entries
    c.poll_stage.new.stages.entries c.poll_stage.ensures.steps c.poll_stage.ensures.others f)
