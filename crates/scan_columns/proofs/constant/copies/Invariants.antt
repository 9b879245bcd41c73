use Rattle.std.proofs.Common.{◌≡◌, map, replicate}
use Rattle.scan_values.specs.Values.{val_of}
use Rattle.scan_columns.proofs.constant.copies.Given as goal

abbrev pub invariant-loop-i : goal.invariant-loop-i
invariant-loop-i l = map val_of l.made.items ≡ replicate l.i (val_of l.value)
