use Rattle.std.proofs.Common.{arith}
use Rattle.scan_core.proofs.Picking.{no_picks, some_picks, last_pick, picks_within}
use Rattle.scan_core.proofs.splits.picked_span.Goals as goal

pub returns-then-end-first-clause-span : goal.returns-then-end-first-clause-span
returns-then-end-first-clause-span c = no_picks c.args.range.now c.args.rows.now c.as_slice-numbers.result.now c.rank-first.result c.rank-end.result c.as_slice-numbers.ensures.rising c.rank-first.ensures c.rank-end.ensures (omega (arith, c.if-end-first.true))

pub returns-then-end-first-clause-within : goal.returns-then-end-first-clause-within
returns-then-end-first-clause-within c n i = picks_within n c.args.range.now _ c.args.rows.now c.as_slice-numbers.ensures.rising (returns-then-end-first-clause-span c) i

pub overflow_add-result : goal.overflow_add-result
overflow_add-result c =
    let low = last_pick c.args.range.now.end c.args.rows.now c.as_slice-numbers.result.now c.rank-first.result c.rank-end.result c.as_slice-numbers.ensures.rising c.as_slice-numbers.ensures.items c.rank-end.ensures (omega (arith, c.if-end-first.false)) in
    let fits = (c.fits-range).1.0.1 in
    grind (arith, low, fits)

pub returns-clause-span : goal.returns-clause-span
returns-clause-span c = some_picks c.args.range.now c.args.rows.now c.as_slice-numbers.result.now c.rank-first.result c.rank-end.result c.as_slice-numbers.ensures.rising c.as_slice-numbers.ensures.items c.rank-first.ensures c.rank-end.ensures (omega (arith, c.if-end-first.false))

pub returns-clause-within : goal.returns-clause-within
returns-clause-within c n i = picks_within n c.args.range.now _ c.args.rows.now c.as_slice-numbers.ensures.rising (returns-clause-span c) i
