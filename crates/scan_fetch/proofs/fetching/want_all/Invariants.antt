use Rattle.std.proofs.Common.{◌≡◌, drop}
use Rattle.scan_fetch.specs.Fetches.{point}
use Rattle.scan_fetch.proofs.Looping.{Wanting}
use Rattle.scan_fetch.proofs.fetching.want_all.Given as goal

abbrev pub invariant-loop-id : goal.invariant-loop-id
invariant-loop-id g l = record {
  name : l.key.source_id ≡ l.fn.key.source_id;
  wanting : Wanting l.fn.key.source_id l.ids (drop l.id-index l.ids)
      (point (g.S.SegmentSource.state l.fn.source) (g.C.KeyedSegmentCache.cache l.fn.cache) l.fn.desk l.fn.inbox)
      (point (g.S.SegmentSource.state l.source) (g.C.KeyedSegmentCache.cache l.cache) l.desk l.inbox);
}
