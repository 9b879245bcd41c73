use Rattle.std.proofs.Common.{◌≡◌, ◌++◌, map, drop}
use Rattle.scan_values.specs.Values.{val_of}
use Rattle.scan_encode.specs.Rows.{leaf_value}
use Rattle.scan_encode.specs.RowsIn.{rows_in}
use Rattle.scan_encode.proofs.rows.leaf_values.Given as goal

abbrev pub invariant-loop-row : goal.invariant-loop-row
invariant-loop-row l = map val_of l.made.items ++ map (leaf_value l.dtype) (rows_in (drop l.row-index l.rows)) ≡ map (leaf_value l.dtype) (rows_in l.rows)
