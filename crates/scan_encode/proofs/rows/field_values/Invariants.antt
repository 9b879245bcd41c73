use Rattle.std.proofs.Common.{◌≡◌, ◌++◌, map, drop}
use Rattle.scan_encode.specs.Rows.{field_at}
use Rattle.scan_encode.specs.RowsIn.{rows_in}
use Rattle.scan_encode.proofs.rows.field_values.Given as goal

abbrev pub invariant-loop-row : goal.invariant-loop-row
invariant-loop-row l = rows_in l.made.items ++ map (field_at l.fn.i) (rows_in (drop l.row-index l.rows)) ≡ map (field_at l.fn.i) (rows_in l.rows)
