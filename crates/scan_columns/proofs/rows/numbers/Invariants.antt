use Rattle.std.proofs.Common.{◌≡◌, pos, map}
use Rattle.std.specs.List.{range_with_len}
use Rattle.scan_values.specs.Values.{val_of}
use Rattle.scan_values.specs.Val.{int_val}
use Rattle.scan_columns.proofs.rows.numbers.Given as goal

abbrev pub invariant-loop-i : goal.invariant-loop-i
invariant-loop-i l = map val_of l.items.items ≡ map (λ r. int_val (pos r)) (range_with_len 0 l.i)
