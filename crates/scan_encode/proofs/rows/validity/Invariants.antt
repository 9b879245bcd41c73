use Rattle.std.proofs.Common.{◌≡◌, ◌++◌, map, drop}
use Rattle.scan_values.specs.Values.{val_of}
use Rattle.scan_encode.specs.Rows.{validity}
use Rattle.scan_encode.specs.RowsIn.{rows_in}
use Rattle.scan_encode.proofs.rows.validity.Given as goal

abbrev pub invariant-loop-row : goal.invariant-loop-row
invariant-loop-row l = map val_of l.made.items ++ validity (rows_in (drop l.row-index l.rows)) ≡ validity (rows_in l.rows)
