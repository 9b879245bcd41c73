use Rattle.std.proofs.Common.{◌≡◌, ◌++◌, map, drop}
use Rattle.serde_json.specs.View.{view}
use Rattle.scan_disk_writer.specs.FileBytes.{SegmentIdsFit}
use Rattle.scan_disk_writer.specs.Json.{json_of_segment}
use Rattle.scan_disk_writer.proofs.footer.segments_json.Given as goal

abbrev pub invariant-loop-segment : goal.invariant-loop-segment
invariant-loop-segment l = record {
  same : map view l.made.items ++ map json_of_segment (drop l.segment-index l.segments) ≡ map json_of_segment l.segments;
  ids : SegmentIdsFit (drop l.segment-index l.segments) → SegmentIdsFit l.segments;
}
