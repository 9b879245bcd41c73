use Rattle.std.proofs.Common.{◌≡◌, take, map}
use Rattle.scan_values.specs.Values.{val_of}
use Rattle.scan_values.specs.Val.{marked}
use Rattle.scan_expr.specs.Eval.{is_nothing}
use Rattle.scan_columns.proofs.cells.Cells.nulls.Given as goal

abbrev pub invariant-loop-value : goal.invariant-loop-value
invariant-loop-value l = l.bits.items ≡ map (λ v. is_nothing (marked v)) (map val_of (take l.value-index l.items))
