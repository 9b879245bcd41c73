use Rattle.std.proofs.Common.{◌≡◌, map, take}
use Rattle.scan_values.specs.Arrays.{ArrayData}
use Rattle.scan_expr_tests.proofs.table.dtypes_of.Given as goal

abbrev pub invariant-loop-column : goal.invariant-loop-column
invariant-loop-column g l = l.made.items ≡ map (λ (a : ArrayData). a.dtype) (take l.column-index l.columns)
