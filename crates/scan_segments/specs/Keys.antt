-- Keys of segments, compared by the text of their source and by their number.
use Rattle.std.specs.Prelude.{Bool, ◌&&◌, nat_eq}
use Rattle.std.specs.Cmp.Lexicographic.{pointwise}
use Rattle.scan_segments.specs.declared.segment.SegmentKey.{SegmentKey}

abbrev pub same_key : SegmentKey → SegmentKey → Bool
same_key k l = pointwise nat_eq k.source_id l.source_id && nat_eq k.segment l.segment
