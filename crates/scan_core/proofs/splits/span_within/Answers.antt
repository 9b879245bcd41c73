use Rattle.std.proofs.Common.{sym, ◌∙◌, arith}
use Rattle.scan_core.proofs.Ranging.{span_last, span_empty, last_fits, some_are}
use Rattle.scan_core.proofs.splits.span_within.Goals as goal

pub returns-then-below-eq0 : goal.returns-then-below-eq0
returns-then-below-eq0 c =
    let some = some_are c.is_empty.result c.as_slice-numbers.result.now c.args.indices.now c.is_empty.ensures c.if-is_empty.false c.as_slice-numbers.ensures.items in
    span_empty c.args.rows c.args.indices.now c.as_slice-numbers.ensures.rising some (sym c.rank-below.ensures ∙ c.if-below-eq0.true)

pub overflow_add-result : goal.overflow_add-result
overflow_add-result c =
    let below = last_fits c.args.rows c.args.indices.now c.as_slice-numbers.result.now c.rank-below.result c.as_slice-numbers.ensures.rising c.as_slice-numbers.ensures.items c.rank-below.ensures c.if-below-eq0.false in
    let fits = c.ranges.rows.fits in
    grind (arith, below, fits)

pub returns : goal.returns
returns c = span_last c.args.rows c.args.indices.now c.as_slice-numbers.result.now c.rank-below.result c.as_slice-numbers.ensures.rising c.as_slice-numbers.ensures.items c.rank-below.ensures c.if-below-eq0.false
