use Rattle.scan_caches.proofs.Keeps.{is_got}
use Rattle.scan_caches.proofs.bounded.MokaSegmentCacheKeyedSegmentCache.poll_get.Goals as goal

pub returns-clause-got : goal.returns-clause-got
returns-clause-got g c = is_got c.args.key.now c.args.self.now c.look_up.new.self c.look_up.result c.look_up.ensures
