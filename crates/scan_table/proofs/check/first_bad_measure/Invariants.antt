use Rattle.std.proofs.Common.{◌≡◌, ◌≤◌, ◌+◌, ◌++◌, List, map, length}
use Rattle.scan_values.specs.DataType.{DataType}
use Rattle.scan_values.specs.FieldLists.{dtypes_of}
use Rattle.scan_expr.specs.Expr.{Expr}
use Rattle.scan_expr.specs.Infer.{infer}
use Rattle.scan_table.specs.Spec.{measure_parts}
use Rattle.scan_table.proofs.Types.{AreRead}
use Rattle.scan_table.proofs.check.first_bad_measure.Given as goal

abbrev pub invariant-loop-i : goal.invariant-loop-i
invariant-loop-i l = record {
  most : l.place ≤ l.keys + l.i;
  read : (d : DataType) (ks : List Expr) → length ks ≡ l.keys → dtypes_of l.types ≡ map (infer d) (ks ++ measure_parts l.measures) → AreRead d (dtypes_of l.types) l.measures l.i l.place;
}
