use Rattle.std.proofs.Common.{◌≡◌, ◌∷◌, [], filter}
use Rattle.std.proofs.lemmas.Result.{err_from_is_err_and}
use Rattle.scan_layout.specs.Edges.{segment_ends, is_inside}
use Rattle.scan_splits.proofs.Pushing.{pushes_then, shifted_part}
use Rattle.scan_splits.proofs.segment_runs.SegmentRuns.push_splits.Goals as goal

pub returns-in_err-push_ends : goal.returns-in_err-push_ends
returns-in_err-push_ends c =
    let p = err_from_is_err_and c.from_residual.result c.from_residual.ensures.1 in
    let span = c.args.range.now in
    let same : filter (is_inside span.start span.end) c.ends_past.result.now ≡ filter (is_inside span.start span.end) (segment_ends 0 c.args.self.now) = rw c.row_range.ensures.start at (c.ends_past.ensures.ends span.end) in
    rw p.1 (shifted_part span.offset (filter (is_inside span.start span.end) (segment_ends 0 c.args.self.now)) (span.end ∷ []) c.args.splits.now c.push_ends.new.splits (rw same at c.in_err-push_ends.ensures))

pub returns : goal.returns
returns c =
    let span = c.args.range.now in
    let same : filter (is_inside span.start span.end) c.ends_past.result.now ≡ filter (is_inside span.start span.end) (segment_ends 0 c.args.self.now) = rw c.row_range.ensures.start at (c.ends_past.ensures.ends span.end) in
    pushes_then c.push_end.result span.offset (filter (is_inside span.start span.end) (segment_ends 0 c.args.self.now)) (span.end ∷ []) c.args.splits.now c.push_ends.new.splits c.push_end.new.splits (rw same at c.in_ok-push_ends.ensures) c.push_end.ensures
