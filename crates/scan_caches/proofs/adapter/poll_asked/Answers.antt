use Rattle.std.proofs.Common.{None, ap, ◌∙◌}
use Rattle.scan_caches.specs.Adapter.{is_asked}
use Rattle.scan_caches.proofs.Links.{relinked, live_ended}
use Rattle.scan_caches.proofs.adapter.poll_asked.Goals as goal

pub poll_source-polled-requires : goal.poll_source-polled-requires
poll_source-polled-requires g c = c.requires.linked c.args.id ∙ ap is_asked c.requires.asked

pub returns-in-Bytes-clause-linked : goal.returns-in-Bytes-clause-linked
returns-in-Bytes-clause-linked g c =
    relinked c.args.id None (g.S.SegmentSource.state c.args.source.now).live _ c.args.stages.now.entries _ c.requires.linked (λ q. ap (λ l. l q) c.in-Bytes.ensures.polls.0.0.0.live ∙ live_ended c.args.id (g.S.SegmentSource.state c.args.source.now).live q) c.end.ensures.stages

pub returns-in-Missing-clause-linked : goal.returns-in-Missing-clause-linked
returns-in-Missing-clause-linked g c =
    relinked c.args.id None (g.S.SegmentSource.state c.args.source.now).live _ c.args.stages.now.entries _ c.requires.linked (λ q. ap (λ l. l q) c.in-Missing.ensures.polls.0.0.0.live ∙ live_ended c.args.id (g.S.SegmentSource.state c.args.source.now).live q) c.end-in-Missing.ensures.stages

pub returns-in-Failed-clause-linked : goal.returns-in-Failed-clause-linked
returns-in-Failed-clause-linked g c =
    relinked c.args.id None (g.S.SegmentSource.state c.args.source.now).live _ c.args.stages.now.entries _ c.requires.linked (λ q. ap (λ l. l q) c.in-Failed.ensures.polls.0.0.0.live ∙ live_ended c.args.id (g.S.SegmentSource.state c.args.source.now).live q) c.end-in-Failed.ensures.stages
