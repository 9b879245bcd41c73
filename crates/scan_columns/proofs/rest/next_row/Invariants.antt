use Rattle.std.proofs.Common.{◌≡◌, ◌++◌, map, take, drop}
use Rattle.scan_values.specs.Values.{val_of}
use Rattle.scan_columns.specs.Nested.{heads}
use Rattle.scan_columns.proofs.rest.next_row.Given as goal

abbrev pub invariant-loop-column : goal.invariant-loop-column
invariant-loop-column l = record {
  row : map val_of l.row.items ++ heads (drop l.column-index l.columns) ≡ heads l.fn.columns;
  rest : take l.column-index l.columns ++ map (drop 1) (drop l.column-index l.columns) ≡ map (drop 1) l.fn.columns;
}
