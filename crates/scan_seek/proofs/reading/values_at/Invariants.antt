use Rattle.std.proofs.Common.{◌≡◌, map, take}
use Rattle.scan_values.specs.Values.{val_of}
use Rattle.scan_fetch.specs.Fetches.{point}
use Rattle.scan_seek.proofs.Rowing.{ReadingRows}
use Rattle.scan_seek.proofs.reading.values_at.Given as goal

abbrev pub invariant-loop-row : goal.invariant-loop-row
invariant-loop-row g l = record {
  name : l.key.source_id ≡ l.fn.key.source_id;
  reading : ReadingRows l.plan.value l.rows (take l.row-index l.rows) l.fn.key.source_id
      (point (g.S.SegmentSource.state l.fn.source) (g.C.KeyedSegmentCache.cache l.fn.cache) l.fn.desk l.fn.inbox)
      (point (g.S.SegmentSource.state l.source) (g.C.KeyedSegmentCache.cache l.cache) l.desk l.inbox) (map val_of l.values.items);
}
