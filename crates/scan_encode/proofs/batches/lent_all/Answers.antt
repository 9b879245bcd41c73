use Rattle.std.proofs.Common.{ap, arith}
use Rattle.scan_encode.specs.RowsIn.{rows_in}
use Rattle.scan_encode.proofs.Lending.{array_here, none_lent, too_long, next_lent, all_lent, all_short}
use Rattle.scan_encode.proofs.batches.lent_all.Goals as goal

pub loop-batch-init : goal.loop-batch-init
loop-batch-init c = none_lent c.args.dtype.now c.args.batches.now (rows_in c.new-rows.result.items) (ap rows_in c.new-rows.ensures.items)

pub returns-then-not-all_texts_fit-clause-refused : goal.returns-then-not-all_texts_fit-clause-refused
returns-then-not-all_texts_fit-clause-refused c =
    let here = array_here c.args.batches.now c.loop-batch.batch-index c.batch-item.result (omega arith) c.batch-item.is in
    too_long c.args.dtype.now c.args.batches.now c.loop-batch.batch-index c.batch-item.result c.as_slice-values.result.now c.all_texts_fit.result here c.as_slice-values.ensures.items c.all_texts_fit.ensures
    (rows_in c.loop-batch.rows.items) c.loop-batch.invariant c.if-not-all_texts_fit.true

pub loop-batch-preserved : goal.loop-batch-preserved
loop-batch-preserved c =
    let here = array_here c.args.batches.now c.loop-batch.batch-index c.batch-item.result (omega arith) c.batch-item.is in
    next_lent c.args.dtype.now c.args.batches.now c.loop-batch.batch-index c.batch-item.result c.as_slice-values.result.now c.all_texts_fit.result here c.as_slice-values.ensures.items c.all_texts_fit.ensures
    (rows_in c.loop-batch.rows.items) (rows_in c.push_lent.new.rows.items) c.requires c.as_slice-values.ensures.fit c.if-not-all_texts_fit.false c.in_ok-push_lent.ensures c.loop-batch.invariant

pub returns-clause-rows : goal.returns-clause-rows
returns-clause-rows c = all_lent c.args.dtype.now c.args.batches.now c.loop-batch.batch-index (rows_in c.loop-batch.rows.items) (omega arith) c.loop-batch.invariant

pub returns-clause-fit : goal.returns-clause-fit
returns-clause-fit c = c.loop-batch.invariant.fit

pub returns-clause-short : goal.returns-clause-short
returns-clause-short c = all_short c.args.dtype.now c.args.batches.now c.loop-batch.batch-index (rows_in c.loop-batch.rows.items) (omega arith) c.loop-batch.invariant
