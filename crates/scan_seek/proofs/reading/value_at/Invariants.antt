use Rattle.std.proofs.Common.{◌≡◌, [], ◌∷◌}
use Rattle.scan_plans.specs.Futures.{future_may}
use Rattle.scan_drive.specs.Measures.{distinct}
use Rattle.scan_drive.specs.Splits.{lacks}
use Rattle.scan_fetch.specs.Fetches.{point}
use Rattle.scan_seek.specs.Rows.{one_row, MayRead}
use Rattle.scan_seek.proofs.Rowing.{Reading}
use Rattle.scan_seek.proofs.reading.value_at.Given as goal

abbrev pub invariant-reads : goal.invariant-reads
invariant-reads g l = record {
  name : l.key.source_id ≡ l.initial.key.source_id;
  reading : Reading (MayRead l.plan.value (l.row ∷ []) l.initial.key.source_id) l.initial.key.source_id
      (point (g.S.SegmentSource.state l.initial.source) (g.C.KeyedSegmentCache.cache l.initial.cache) l.initial.desk l.initial.inbox)
      (point (g.S.SegmentSource.state l.source) (g.C.KeyedSegmentCache.cache l.cache) l.desk l.inbox);
}

abbrev pub decreases-reads : goal.decreases-reads
decreases-reads g l = distinct (lacks l.inbox) (future_may (one_row l.plan.value l.row))
