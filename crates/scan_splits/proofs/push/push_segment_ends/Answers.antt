use Rattle.std.proofs.Common.{◌+◌, ◌∷◌, [], drop, filter, arith}
use Rattle.std.proofs.lemmas.Result.{err_from_is_err_and}
use Rattle.scan_layout.specs.Edges.{is_inside, segment_ends}
use Rattle.scan_splits.proofs.Pushing.{goes_on, stops, ends}
use Rattle.scan_splits.proofs.Inside.{inside_at, inside_past}
use Rattle.scan_splits.proofs.push.push_segment_ends.Goals as goal

pub returns-in_default : goal.returns-in_default
returns-in_default c =
    let span = c.args.range.now in
    let gs = c.args.segments.now in
    ends span.offset (filter (is_inside span.start span.end) (segment_ends 0 gs)) c.args.splits.now
    (filter (is_inside span.start span.end) (segment_ends c.loop-rows.begin (drop c.loop-rows.rows-index gs))) c.loop-rows.splits
    (inside_past span.start span.end gs c.loop-rows.rows-index c.loop-rows.begin c.loop-rows-item.result c.loop-rows-test.true c.loop-rows-item.is (omega (arith, c.in_default.ensures, c.row_range.ensures.end)))
    c.loop-rows.invariant.1

pub returns-in_err-push_inside : goal.returns-in_err-push_inside
returns-in_err-push_inside c =
    let span = c.args.range.now in
    let gs = c.args.segments.now in
    let p = err_from_is_err_and c.from_residual.result c.from_residual.ensures.1 in
    rw p.1 (stops span.offset (filter (is_inside span.start span.end) (segment_ends 0 gs)) c.args.splits.now
    (filter (is_inside span.start span.end) (segment_ends c.loop-rows.begin (drop c.loop-rows.rows-index gs)))
    (filter (is_inside span.start span.end) (c.in-Some.end ∷ [])) (filter (is_inside span.start span.end) (segment_ends c.in-Some.end (drop (c.loop-rows.rows-index + 1) gs)))
    c.loop-rows.splits c.push_inside.new.splits
    (inside_at span.start span.end gs c.loop-rows.rows-index c.loop-rows.begin c.in-Some.end c.loop-rows-item.result c.loop-rows-test.true c.loop-rows-item.is c.in-Some.ensures.0)
    c.loop-rows.invariant.1 c.in_err-push_inside.ensures)

pub loop-rows-preserved : goal.loop-rows-preserved
loop-rows-preserved c =
    let span = c.args.range.now in
    let gs = c.args.segments.now in (
      c.row_range.ensures.end,
      goes_on span.offset (filter (is_inside span.start span.end) (segment_ends 0 gs)) c.args.splits.now
          (filter (is_inside span.start span.end) (segment_ends c.loop-rows.begin (drop c.loop-rows.rows-index gs)))
          (filter (is_inside span.start span.end) (c.in-Some.end ∷ [])) (filter (is_inside span.start span.end) (segment_ends c.in-Some.end (drop (c.loop-rows.rows-index + 1) gs)))
          c.loop-rows.splits c.push_inside.new.splits
          (inside_at span.start span.end gs c.loop-rows.rows-index c.loop-rows.begin c.in-Some.end c.loop-rows-item.result c.loop-rows-test.true c.loop-rows-item.is c.in-Some.ensures.0)
          c.loop-rows.invariant.1 c.in_ok-push_inside.ensures,
    )
