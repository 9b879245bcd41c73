use Rattle.std.proofs.Common.{◌+◌, ◌∷◌, [], drop, filter, get_or, arith}
use Rattle.std.proofs.lemmas.Result.{err_from_is_err_and}
use Rattle.scan_layout.specs.Edges.{is_inside}
use Rattle.scan_splits.proofs.Pushing.{goes_on, stops, ends}
use Rattle.scan_splits.proofs.Inside.{rows_at, rows_past}
use Rattle.scan_splits.proofs.push.push_ends.Goals as goal

pub returns-then-end-limit : goal.returns-then-end-limit
returns-then-end-limit c =
    let span = c.args.range.now in
    let xs = c.args.ends.now in
    ends span.offset (filter (is_inside span.start span.end) xs) c.args.splits.now (filter (is_inside span.start span.end) (drop c.loop-end.end-index xs)) c.loop-end.splits
    (rows_past span.start span.end xs c.loop-end.end-index c.requires c.loop-end-test.true (omega (arith, c.if-end-limit.true, c.row_range.ensures.end)))
    c.loop-end.invariant.1

pub returns-in_err-push_inside : goal.returns-in_err-push_inside
returns-in_err-push_inside c =
    let span = c.args.range.now in
    let xs = c.args.ends.now in
    let p = err_from_is_err_and c.from_residual.result c.from_residual.ensures.1 in
    rw p.1 (stops span.offset (filter (is_inside span.start span.end) xs) c.args.splits.now (filter (is_inside span.start span.end) (drop c.loop-end.end-index xs))
    (filter (is_inside span.start span.end) (get_or xs c.loop-end.end-index 0 ∷ [])) (filter (is_inside span.start span.end) (drop (c.loop-end.end-index + 1) xs)) c.loop-end.splits c.push_inside.new.splits
    (rows_at span.start span.end xs c.loop-end.end-index c.loop-end-test.true) c.loop-end.invariant.1 c.in_err-push_inside.ensures)

pub loop-end-preserved : goal.loop-end-preserved
loop-end-preserved c =
    let span = c.args.range.now in
    let xs = c.args.ends.now in (
      c.row_range.ensures.end,
      goes_on span.offset (filter (is_inside span.start span.end) xs) c.args.splits.now (filter (is_inside span.start span.end) (drop c.loop-end.end-index xs))
          (filter (is_inside span.start span.end) (get_or xs c.loop-end.end-index 0 ∷ [])) (filter (is_inside span.start span.end) (drop (c.loop-end.end-index + 1) xs)) c.loop-end.splits c.push_inside.new.splits
          (rows_at span.start span.end xs c.loop-end.end-index c.loop-end-test.true) c.loop-end.invariant.1 c.in_ok-push_inside.ensures,
    )
