use Rattle.std.proofs.Common.{false, None, ap, ◌∙◌}
use Rattle.scan_caches.specs.Adapter.{is_asked}
use Rattle.scan_caches.proofs.Links.{relinked, live_same}
use Rattle.scan_caches.proofs.adapter.poll_looking.Goals as goal

pub look-requires : goal.look-requires
look-requires g c = c.requires.linked c.args.id ∙ ap is_asked c.requires.looking

pub returns-in-Hit-clause-linked : goal.returns-in-Hit-clause-linked
returns-in-Hit-clause-linked g c =
    relinked c.args.id None (g.S.SegmentSource.state c.args.source.now).live _ c.args.stages.now.entries _ c.requires.linked
    (λ q. ap (λ t. (g.S.SegmentSource.state t).live q) c.in-Hit.ensures.1 ∙ live_same c.args.id (g.S.SegmentSource.state c.args.source.now).live false (c.requires.linked c.args.id ∙ ap is_asked c.requires.looking) q) c.end.ensures.stages
