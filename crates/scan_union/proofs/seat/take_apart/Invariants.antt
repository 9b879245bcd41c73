use Rattle.std.proofs.Common.{◌≡◌, ◌≤◌, ◌+◌, ◌++◌, All, length, map, vec_len, vec_capacity}
use Rattle.std.specs.Vec.Iter.{into_iter_items}
use Rattle.scan_drive.specs.declared.files.ScanFile.{ScanFile}
use Rattle.scan_segments.specs.Source.{none_live}
use Rattle.scan_widen.specs.Parts.{IsReadable}
use Rattle.scan_union.specs.Seats.{make_all, rest_of}
use Rattle.scan_union.specs.declared.seat.Seat.{Seat}
use Rattle.scan_union.proofs.seat.take_apart.Given as goal

abbrev pub invariant-loop-file : goal.invariant-loop-file
invariant-loop-file g l = record {
  rests : l.rests.items ++ map rest_of (into_iter_items l.file-iterator.a) ≡ l.fn.rests.items ++ map rest_of l.fn.files.items;
  made : l.made.items ++ make_all g.S.SegmentSource.state (into_iter_items l.file-iterator.a) (into_iter_items l.file-iterator.b) ≡ l.fn.made.items ++ make_all g.S.SegmentSource.state l.fn.files.items l.fn.seats.items;
  even : length (into_iter_items l.file-iterator.a) ≡ length (into_iter_items l.file-iterator.b);
  room_rests : vec_len l.rests + length (into_iter_items l.file-iterator.a) ≤ vec_capacity l.rests;
  room_made : vec_len l.made + length (into_iter_items l.file-iterator.a) ≤ vec_capacity l.made;
  idle : All (λ (f : ScanFile g.row.O.Denot g.row.S.Denot). (g.S.SegmentSource.state f.source).live ≡ none_live) (into_iter_items l.file-iterator.a);
  readable : All (λ (s : Seat). All IsReadable (s.segments).items) (into_iter_items l.file-iterator.b);
}
