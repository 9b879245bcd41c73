use Rattle.std.proofs.Common.{None, Some, false, sym, ap, ◌∙◌}
use Rattle.scan_caches.specs.Adapter.{is_asked}
use Rattle.scan_caches.proofs.Links.{relinked, live_same}
use Rattle.scan_caches.proofs.adapter.poll_stage.Goals as goal

pub returns-in-Ok-clause-linked : goal.returns-in-Ok-clause-linked
returns-in-Ok-clause-linked g c =
    relinked c.args.id None (g.S.SegmentSource.state c.args.source.now).live _ c.args.stages.now.entries _ c.requires.linked
    (live_same c.args.id (g.S.SegmentSource.state c.args.source.now).live false (c.requires.linked c.args.id ∙ ap is_asked (sym c.in-Some-Found.ensures.value ∙ ap Some c.in-Some-Found.field-0-is))) c.end.ensures.stages
