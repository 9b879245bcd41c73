use Rattle.std.proofs.Common.{◌≡◌, ◌++◌, drop, length, map}
use Rattle.csv.specs.Records.{fields_of}
use Rattle.scan_values.specs.FieldLists.{dtypes_of}
use Rattle.scan_import.specs.Cells.{cells_in}
use Rattle.scan_import.specs.Lists.{known}
use Rattle.scan_import.proofs.csv_rows.cells_value.Given as goal

abbrev pub invariant-loop-i : goal.invariant-loop-i
invariant-loop-i l = record {
  same : map known l.values.items ++ cells_in (drop l.i (dtypes_of l.fields)) (drop l.i l.columns) (fields_of l.row) ≡ cells_in (dtypes_of l.fields) l.columns (fields_of l.row);
  count : length l.values.items ≡ l.i;
}
