use Rattle.std.proofs.Common.{◌≡◌, ◌++◌, drop, map}
use Rattle.scan_values.specs.Values.{val_of}
use Rattle.scan_expr.specs.Overflow.{overflows_on}
use Rattle.scan_columns.specs.Cells.{vals_in}
use Rattle.scan_columns.specs.Evaluated.{value_on}
use Rattle.scan_columns.proofs.unary.row_by_row.Given as goal

abbrev pub invariant-loop-i : goal.invariant-loop-i
invariant-loop-i l = record {
  values : map val_of l.items.items ++ map (value_on l.expr.scope l.expr.expr) (drop l.i (vals_in l.cells)) ≡ map (value_on l.expr.scope l.expr.expr) (vals_in l.cells);
  within : overflows_on l.expr.scope l.expr.expr (vals_in l.cells) ≡ overflows_on l.expr.scope l.expr.expr (drop l.i (vals_in l.cells));
}
