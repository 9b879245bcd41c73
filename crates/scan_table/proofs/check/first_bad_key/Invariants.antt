use Rattle.std.proofs.Common.{◌≡◌, ◌++◌, List, map, drop}
use Rattle.scan_values.specs.DataType.{DataType}
use Rattle.scan_values.specs.FieldLists.{dtypes_of}
use Rattle.scan_expr.specs.Expr.{Expr}
use Rattle.scan_expr.specs.Infer.{infer}
use Rattle.scan_table.specs.Request.{key_fault}
use Rattle.scan_table.specs.Spec.{key_parts}
use Rattle.scan_table.proofs.check.first_bad_key.Given as goal

abbrev pub invariant-loop-key : goal.invariant-loop-key
invariant-loop-key l = (d : DataType) (es : List Expr) → dtypes_of l.types ≡ map (infer d) (key_parts l.keys ++ es) → key_fault d 0 l.keys ≡ key_fault d l.key (drop l.key l.keys)
