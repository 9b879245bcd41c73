use Rattle.std.proofs.Common.{[], ◌∷◌}
use Rattle.scan_fetch.proofs.Wanting.{unwanted_wants, settled_wants, settled_meets, counts_want}
use Rattle.scan_fetch.proofs.fetching.want_new.Goals as goal

pub returns-in_err-wanted-clause-wants : goal.returns-in_err-wanted-clause-wants
returns-in_err-wanted-clause-wants g c =
    let state = g.S.SegmentSource.state in
    let cache = g.C.KeyedSegmentCache.cache in
    let key = c.args.key.now in
    unwanted_wants key.source_id (key.segment ∷ []) (state c.args.source.now) (state c.want.new.source) (cache c.args.cache.now) (cache c.want.new.cache) c.args.desk.now c.want.new.self c.args.inbox.now
    c.in_err-wanted.ensures.err c.want.ensures.ledger c.want.ensures.agree c.requires.apart

pub returns-clause-wants : goal.returns-clause-wants
returns-clause-wants g c =
    let state = g.S.SegmentSource.state in
    let cache = g.C.KeyedSegmentCache.cache in
    settled_wants c.args.key.now 0 (state c.args.source.now) (state c.want.new.source) (cache c.args.cache.now) (cache c.want.new.cache) c.args.desk.now c.want.new.self c.args.inbox.now c.settle.new.inbox
    c.want.ensures.ledger c.requires.agree c.requires.dead c.requires.lacks c.want.ensures.agree c.requires.apart c.settle.result c.in_ok-wanted.wanted c.in_ok-wanted.ensures.ok c.settle.ensures

pub returns-clause-meets : goal.returns-clause-meets
returns-clause-meets g c =
    let state = g.S.SegmentSource.state in
    let cache = g.C.KeyedSegmentCache.cache in
    let key = c.args.key.now in
    settled_meets c.args.key.now 0 (state c.args.source.now) (state c.want.new.source) (cache c.args.cache.now) (cache c.want.new.cache) c.args.desk.now c.want.new.self c.args.inbox.now c.settle.new.inbox
    c.want.ensures.ledger c.requires.agree c.requires.dead c.requires.lacks c.want.ensures.agree c.requires.apart c.settle.result c.in_ok-wanted.wanted c.in_ok-wanted.ensures.ok c.settle.ensures
    (counts_want key.source_id (state c.args.source.now) (state c.want.new.source) (cache c.args.cache.now) (cache c.want.new.cache) c.in_ok-wanted.wanted c.in_ok-wanted.ensures.balance)
