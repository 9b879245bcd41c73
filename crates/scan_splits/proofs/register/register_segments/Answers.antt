use Rattle.std.proofs.Common.{◌∷◌, [], filter}
use Rattle.std.proofs.lemmas.Result.{err_from_is_err_and}
use Rattle.scan_layout.specs.Edges.{segment_ends, is_inside}
use Rattle.scan_splits.proofs.Pushing.{then_all, then_some, shifted_part}
use Rattle.scan_splits.proofs.register.register_segments.Goals as goal

pub returns-in_err-push_segment_ends-clause-pushed : goal.returns-in_err-push_segment_ends-clause-pushed
returns-in_err-push_segment_ends-clause-pushed c =
    let p = err_from_is_err_and c.from_residual.result c.from_residual.ensures.1 in
    let span = c.args.range.now in
    rw p.1 (shifted_part span.offset (filter (is_inside span.start span.end) (segment_ends 0 c.args.segments.now)) (span.end ∷ []) c.args.splits.now c.push_segment_ends.new.splits c.in_err-push_segment_ends.ensures)

pub returns-in_err-push_end-clause-pushed : goal.returns-in_err-push_end-clause-pushed
returns-in_err-push_end-clause-pushed c =
    let p = err_from_is_err_and c.from_residual-in_err-push_end.result c.from_residual-in_err-push_end.ensures.1 in
    let span = c.args.range.now in
    rw p.1 (then_some span.offset (filter (is_inside span.start span.end) (segment_ends 0 c.args.segments.now)) (span.end ∷ []) c.args.splits.now c.push_segment_ends.new.splits c.push_end.new.splits c.in_ok-push_segment_ends.ensures c.in_err-push_end.ensures)

pub returns-clause-pushed : goal.returns-clause-pushed
returns-clause-pushed c =
    let span = c.args.range.now in
    then_all span.offset (filter (is_inside span.start span.end) (segment_ends 0 c.args.segments.now)) (span.end ∷ []) c.args.splits.now c.push_segment_ends.new.splits c.push_end.new.splits c.in_ok-push_segment_ends.ensures c.in_ok-push_end.ensures
