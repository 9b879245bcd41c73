use Rattle.std.proofs.Common.{◌≡◌, drop, filter}
use Rattle.scan_layout.specs.Edges.{is_inside, segment_ends}
use Rattle.scan_splits.proofs.Pushing.{Completes}
use Rattle.scan_splits.proofs.push.push_segment_ends.Given as goal

abbrev pub invariant-loop-rows : goal.invariant-loop-rows
invariant-loop-rows l = (l.limit ≡ l.range.end) × Completes l.range.offset (filter (is_inside l.range.start l.range.end) (segment_ends l.begin (drop l.rows-index l.segments))) (filter (is_inside l.range.start l.range.end) (segment_ends 0 l.segments)) l.initial.splits l.splits
