use Rattle.std.proofs.Common.{◌≡◌, ◌++◌, drop, map, length}
use Rattle.scan_values.specs.Values.{val_of}
use Rattle.scan_values.specs.Val.{int_val}
use Rattle.scan_columns.specs.Typed.{typed}
use Rattle.scan_columns.proofs.ints.ints_of.Given as goal

abbrev pub invariant-loop-value : goal.invariant-loop-value
invariant-loop-value l = record {
  even : length l.valid.items ≡ length l.numbers.items;
  same : typed int_val l.numbers.items l.valid.items ++ map val_of (drop l.value-index l.values) ≡ map val_of l.values;
}
