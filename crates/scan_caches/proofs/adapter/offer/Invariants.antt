use Rattle.scan_segments.specs.Cache.{Loses}
use Rattle.scan_segments.specs.Cached.{Moves}
use Rattle.scan_caches.proofs.adapter.offer.Given as goal

abbrev pub invariant-wait : goal.invariant-wait
invariant-wait g l = Moves Loses (g.C.SegmentCache.cache l.fn.cache).ended (g.C.SegmentCache.cache l.fn.cache) (g.C.SegmentCache.cache l.cache)

abbrev pub decreases-wait : goal.decreases-wait
decreases-wait g l = (g.C.SegmentCache.cache l.cache).turns
