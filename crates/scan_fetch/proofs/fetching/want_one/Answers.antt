use Rattle.std.proofs.Common.{◌≡◌, ◌∙◌, inl, inr, sym}
use Rattle.scan_fetch.specs.Fetches.{point}
use Rattle.scan_fetch.proofs.Wanting.{met_wants, met_meets}
use Rattle.scan_fetch.proofs.fetching.want_one.Goals as goal

pub returns-then-is_live-clause-wants : goal.returns-then-is_live-clause-wants
returns-then-is_live-clause-wants g c =
    met_wants c.args.key.now.source_id c.args.key.now.segment (point (g.S.SegmentSource.state c.args.source.now) (g.C.KeyedSegmentCache.cache c.args.cache.now) c.args.desk.now c.args.inbox.now) c.requires.agree c.requires.apart

pub returns-then-is_live-clause-meets : goal.returns-then-is_live-clause-meets
returns-then-is_live-clause-meets g c =
    met_meets c.args.key.now.source_id c.args.key.now.segment (point (g.S.SegmentSource.state c.args.source.now) (g.C.KeyedSegmentCache.cache c.args.cache.now) c.args.desk.now c.args.inbox.now)
    (inl (c.requires.agree c.args.key.now.segment ∙ sym c.is_live.ensures ∙ c.if-is_live.true))

pub returns-then-has-clause-wants : goal.returns-then-has-clause-wants
returns-then-has-clause-wants g c =
    met_wants c.args.key.now.source_id c.args.key.now.segment (point (g.S.SegmentSource.state c.args.source.now) (g.C.KeyedSegmentCache.cache c.args.cache.now) c.args.desk.now c.args.inbox.now) c.requires.agree c.requires.apart

pub returns-then-has-clause-meets : goal.returns-then-has-clause-meets
returns-then-has-clause-meets g c =
    met_meets c.args.key.now.source_id c.args.key.now.segment (point (g.S.SegmentSource.state c.args.source.now) (g.C.KeyedSegmentCache.cache c.args.cache.now) c.args.desk.now c.args.inbox.now)
    (inr (sym c.has.ensures ∙ c.if-has.true))
