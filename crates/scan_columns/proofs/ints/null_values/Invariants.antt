use Rattle.std.proofs.Common.{◌≡◌, ◌++◌, drop, map}
use Rattle.scan_values.specs.Values.{val_of}
use Rattle.scan_values.specs.Val.{int_val}
use Rattle.scan_columns.specs.Typed.{typed}
use Rattle.scan_columns.proofs.ints.null_values.Given as goal

abbrev pub invariant-loop-i : goal.invariant-loop-i
invariant-loop-i l = map val_of l.made.items ++ typed int_val (drop l.i l.values) (drop l.i l.valid) ≡ typed int_val l.values l.valid
