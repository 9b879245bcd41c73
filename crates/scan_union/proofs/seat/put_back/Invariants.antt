use Rattle.std.proofs.Common.{◌≡◌, ◌≤◌, ◌+◌, ◌++◌, All, length, vec_len, vec_capacity}
use Rattle.std.specs.Vec.Iter.{into_iter_items, into_iter_len}
use Rattle.scan_drive.specs.declared.files.ScanFile.{ScanFile}
use Rattle.scan_opener.specs.declared.opener.MemoryOpener.{MemoryOpener}
use Rattle.scan_widened.specs.Sources.{UnionState, Follow}
use Rattle.scan_union.specs.Seats.{back_all}
use Rattle.scan_union.proofs.seat.put_back.Given as goal

abbrev pub invariant-loop-rest : goal.invariant-loop-rest
invariant-loop-rest g l = record {
  back : l.files.items ++ back_all (into_iter_items l.rest-iterator.a) (into_iter_items l.rest-iterator.b) ≡ l.fn.files.items ++ back_all l.fn.rests.items l.fn.made.items;
  even : length (into_iter_items l.rest-iterator.a) ≡ length (into_iter_items l.rest-iterator.b);
  first : into_iter_len l.rest-iterator.a ≡ length (into_iter_items l.rest-iterator.a);
  second : into_iter_len l.rest-iterator.b ≡ length (into_iter_items l.rest-iterator.b);
  room : vec_len l.files + length (into_iter_items l.rest-iterator.a) ≤ vec_capacity l.files;
  follow : All (λ (m : ScanFile MemoryOpener (UnionState g.row.S.Denot)). Follow g.S.SegmentSource.state m.source) (into_iter_items l.rest-iterator.b)
      → All (λ (m : ScanFile MemoryOpener (UnionState g.row.S.Denot)). Follow g.S.SegmentSource.state m.source) l.fn.made.items;
}
