use Rattle.std.proofs.Common.{◌≡◌, ◌++◌, drop, map, length}
use Rattle.scan_values.specs.Values.{val_of}
use Rattle.scan_values.specs.Val.{bool_val}
use Rattle.scan_columns.specs.Typed.{typed}
use Rattle.scan_columns.proofs.bools.bools_of.Given as goal

abbrev pub invariant-loop-value : goal.invariant-loop-value
invariant-loop-value l = record {
  even : length l.valid.items ≡ length l.bits.items;
  same : typed bool_val l.bits.items l.valid.items ++ map val_of (drop l.value-index l.values) ≡ map val_of l.values;
}
