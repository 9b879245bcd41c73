use Rattle.scan_segments.specs.Cache.{Loses}
use Rattle.scan_segments.specs.Cached.{Moves}
use Rattle.scan_drive.proofs.cached.look_up.Given as goal

abbrev pub invariant-wait : goal.invariant-wait
invariant-wait g l = Moves Loses (g.C.KeyedSegmentCache.cache l.fn.cache).ended (g.C.KeyedSegmentCache.cache l.fn.cache) (g.C.KeyedSegmentCache.cache l.cache)

abbrev pub decreases-wait : goal.decreases-wait
decreases-wait g l = (g.C.KeyedSegmentCache.cache l.cache).turns
