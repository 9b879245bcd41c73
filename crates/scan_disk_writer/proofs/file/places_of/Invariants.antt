use Rattle.std.proofs.Common.{◌≡◌, ◌+◌, ◌++◌, drop, length}
use Rattle.scan_encode.specs.SegmentsView.{bytes_of}
use Rattle.scan_disk_writer.specs.FileBytes.{joined, places_from}
use Rattle.scan_disk_writer.proofs.file.places_of.Given as goal

abbrev pub invariant-loop-segment : goal.invariant-loop-segment
invariant-loop-segment l = record {
  same : l.made.items ++ places_from l.offset (bytes_of (drop l.segment-index l.segments)) ≡ places_from 8 (bytes_of l.segments);
  sum : l.offset + length (joined (bytes_of (drop l.segment-index l.segments))) ≡ 8 + length (joined (bytes_of l.segments));
}
