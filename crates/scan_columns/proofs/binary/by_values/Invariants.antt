use Rattle.std.proofs.Common.{◌≡◌, ◌++◌, drop, map}
use Rattle.scan_values.specs.Values.{val_of}
use Rattle.scan_columns.specs.Cells.{vals_in}
use Rattle.scan_columns.specs.Evaluated.{binary_val, paired, spills_in}
use Rattle.scan_columns.proofs.binary.by_values.Given as goal

abbrev pub invariant-loop-i : goal.invariant-loop-i
invariant-loop-i l = record {
  values : map val_of l.items.items ++ paired (binary_val l.op l.dtype) (drop l.i (vals_in l.x)) (drop l.i (vals_in l.y)) ≡ paired (binary_val l.op l.dtype) (vals_in l.x) (vals_in l.y);
  within : spills_in l.op l.dtype (vals_in l.x) (vals_in l.y) ≡ spills_in l.op l.dtype (drop l.i (vals_in l.x)) (drop l.i (vals_in l.y));
}
