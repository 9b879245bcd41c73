use Rattle.std.proofs.Common.{None, false, sym, ap, ◌∙◌}
use Rattle.scan_caches.proofs.Links.{relinked, live_ended, live_same}
use Rattle.scan_caches.proofs.adapter.SegmentCacheSourceAdapterSegmentSource.drop_request.Goals as goal

pub drop_request-requires : goal.drop_request-requires
drop_request-requires g c = c.self.invariant c.args.id ∙ sym c.has_asked-was_asked.ensures ∙ c.if-was_asked.true

pub invariant_of-self : goal.invariant_of-self
invariant_of-self g c =
    relinked c.args.id None (g.S.SegmentSource.state c.self.inside.source).live _ c.self.inside.stages.entries _ c.self.invariant (λ q. ap (λ l. l q) c.drop_request.ensures.live ∙ live_ended c.args.id (g.S.SegmentSource.state c.self.inside.source).live q) c.end.ensures.stages

pub invariant_of-self-else-was_asked : goal.invariant_of-self-else-was_asked
invariant_of-self-else-was_asked g c =
    relinked c.args.id None (g.S.SegmentSource.state c.self.inside.source).live _ c.self.inside.stages.entries _ c.self.invariant
    (live_same c.args.id (g.S.SegmentSource.state c.self.inside.source).live false
    (c.self.invariant c.args.id ∙ sym c.has_asked-was_asked.ensures ∙ c.if-was_asked.false)) c.end.ensures.stages
