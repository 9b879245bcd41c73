use Rattle.scan_encode.specs.RowsIn.{rows_in}
use Rattle.scan_encode.proofs.Lending.{Lent}
use Rattle.scan_encode.proofs.batches.lent_all.Given as goal

abbrev pub invariant-loop-batch : goal.invariant-loop-batch
invariant-loop-batch l = Lent l.dtype l.batches l.batch-index (rows_in l.rows.items)
