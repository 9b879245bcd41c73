use Rattle.std.proofs.Common.{◌≡◌, true}
use Rattle.std.specs.Prelude.{is_some}
use Rattle.scan_drive.specs.Desks.{waiters_at}
use Rattle.scan_fetch.specs.Fetches.{point}
use Rattle.scan_fetch.proofs.Looping.{Waits}
use Rattle.scan_fetch.proofs.fetching.take_one.Given as goal

abbrev pub invariant-wait : goal.invariant-wait
invariant-wait g l = record {
  live : is_some (waiters_at l.desk l.key.segment) ≡ true;
  waits : Waits l.key.source_id
      (point (g.S.SegmentSource.state l.initial.source) (g.C.KeyedSegmentCache.cache l.initial.cache) l.initial.desk l.initial.inbox)
      (point (g.S.SegmentSource.state l.source) (g.C.KeyedSegmentCache.cache l.cache) l.desk l.inbox);
}

abbrev pub decreases-wait : goal.decreases-wait
decreases-wait g l = (g.S.SegmentSource.state l.source).turns
