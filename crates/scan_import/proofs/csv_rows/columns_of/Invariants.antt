use Rattle.std.proofs.Common.{◌≡◌, ◌++◌, drop, length, map, Some}
use Rattle.scan_import.specs.Csv.{places_in}
use Rattle.scan_import.proofs.csv_rows.columns_of.Given as goal

abbrev pub invariant-loop-column : goal.invariant-loop-column
invariant-loop-column l = record {
  same : map Some l.columns.items ++ places_in (drop l.column l.wanted) l.names ≡ places_in l.wanted l.names;
  count : length l.columns.items ≡ l.column;
}
