use Rattle.std.proofs.Common.{◌≡◌, ◌++◌, drop, map, length}
use Rattle.scan_values.specs.Val.{int_val}
use Rattle.scan_columns.specs.Typed.{typed}
use Rattle.scan_columns.specs.Cells.{vals_in}
use Rattle.scan_columns.specs.Operands.{length_val}
use Rattle.scan_columns.proofs.unary.value_lengths.Given as goal

abbrev pub invariant-loop-i : goal.invariant-loop-i
invariant-loop-i l = record {
  even : length l.valid.items ≡ length l.values.items;
  same : typed int_val l.values.items l.valid.items ++ map length_val (drop l.i (vals_in l.cells)) ≡ map length_val (vals_in l.cells);
}
