use Rattle.std.proofs.Common.{◌≡◌, length}
use Rattle.scan_union.proofs.Walking.{Walk}
use Rattle.scan_union.proofs.opening.open_files.Given as goal

abbrev pub invariant-loop-place : goal.invariant-loop-place
invariant-loop-place g l = record {
  walk : Walk g.O.LayoutReaderFactory.opener g.S.SegmentSource.state l.fn.dtype l.fn.range l.fn.files.items l.files.items l.seats.items l.place l.rows;
  len : length l.files.items ≡ length l.fn.files.items;
}
