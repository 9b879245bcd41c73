use Rattle.scan_caches.proofs.Keeps.{is_put}
use Rattle.scan_caches.proofs.bounded.MokaSegmentCacheKeyedSegmentCache.poll_put.Goals as goal

pub returns-clause-put : goal.returns-clause-put
returns-clause-put g c = is_put c.args.key.now c.args.buffer.now c.args.self.now c.store.new.self c.store.result c.store.ensures
