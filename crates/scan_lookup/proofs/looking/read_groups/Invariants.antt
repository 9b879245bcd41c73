use Rattle.std.proofs.Common.{◌≤◌, length}
use Rattle.scan_lookup.specs.Reading.{KeepsFileCounts}
use Rattle.scan_lookup.proofs.Gathering.{SoFar, ReadSoFar}
use Rattle.scan_lookup.proofs.looking.read_groups.Given as goal

abbrev pub invariant-loop-i : goal.invariant-loop-i
invariant-loop-i g l = record {
  so_far : SoFar g.S.SegmentSource.state l.kept l.fn.files.items l.files.items (g.C.KeyedSegmentCache.cache l.fn.cache) (g.C.KeyedSegmentCache.cache l.cache) l.groups l.i;
  read : ReadSoFar g.S.SegmentSource.state l.kept l.fn.files.items (g.C.KeyedSegmentCache.cache l.fn.cache) l.groups l.i l.values.items;
  counts : KeepsFileCounts g.S.SegmentSource.state l.fn.files.items l.files.items (g.C.KeyedSegmentCache.cache l.fn.cache) (g.C.KeyedSegmentCache.cache l.cache);
  most : l.i ≤ length l.groups;
}
