use Rattle.std.proofs.Common.{◌≡◌, ◌+◌, ◌++◌, drop}
use Rattle.scan_layout.specs.Edges.{segment_ends}
use Rattle.scan_layout.specs.Check.{total_rows}
use Rattle.scan_splits.proofs.segment_runs.ends_of.Given as goal

abbrev pub invariant-loop-rows : goal.invariant-loop-rows
invariant-loop-rows l = (l.ends.items ++ segment_ends l.end (drop l.rows-index l.segments) ≡ segment_ends 0 l.segments) × (l.end + total_rows (drop l.rows-index l.segments) ≡ total_rows l.segments)
