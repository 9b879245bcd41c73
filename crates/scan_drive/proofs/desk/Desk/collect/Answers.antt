use Rattle.scan_drive.proofs.Balancing.{reply_ledger, reply_balance}
use Rattle.scan_drive.proofs.desk.Desk.collect.Goals as goal

pub returns-clause-ledger : goal.returns-clause-ledger
returns-clause-ledger g c =
    let state = g.S.SegmentSource.state in
    let cache = g.C.KeyedSegmentCache.cache in
    let polled = c.poll-reply.ensures in
    reply_ledger c.args.key.now (cache c.args.cache.now) (cache c.offer_reply.new.cache) (state c.args.source.now) (state c.poll-reply.new.source) c.args.self.now c.poll-reply.new.self c.requires.agree polled.agree polled.source c.poll-reply.result polled.replies
    c.offer_reply.ensures

pub returns-clause-balance : goal.returns-clause-balance
returns-clause-balance g c =
    let state = g.S.SegmentSource.state in
    let cache = g.C.KeyedSegmentCache.cache in
    let polled = c.poll-reply.ensures in
    reply_balance c.args.key.now (cache c.args.cache.now) (cache c.offer_reply.new.cache) (state c.args.source.now) (state c.poll-reply.new.source) c.args.self.now c.poll-reply.new.self c.requires.agree polled.agree polled.source c.poll-reply.result polled.replies
    c.offer_reply.ensures
