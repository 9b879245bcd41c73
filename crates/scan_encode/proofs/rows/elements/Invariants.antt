use Rattle.std.proofs.Common.{◌≡◌, ◌++◌, drop}
use Rattle.scan_encode.specs.Rows.{all_elements}
use Rattle.scan_encode.specs.RowsIn.{rows_in}
use Rattle.scan_encode.proofs.rows.elements.Given as goal

abbrev pub invariant-loop-row : goal.invariant-loop-row
invariant-loop-row l = rows_in l.elements.items ++ all_elements (rows_in (drop l.row-index l.rows)) ≡ all_elements (rows_in l.rows)
