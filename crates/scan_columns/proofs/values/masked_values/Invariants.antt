use Rattle.std.proofs.Common.{◌≡◌, ◌++◌, drop, map}
use Rattle.scan_values.specs.Values.{val_of}
use Rattle.scan_values.specs.Masks.{null_where_false}
use Rattle.scan_columns.proofs.values.masked_values.Given as goal

abbrev pub invariant-loop-i : goal.invariant-loop-i
invariant-loop-i l =
    map val_of l.items.items ++ null_where_false (drop l.i l.bits) (map val_of (drop l.i l.values)) ≡ null_where_false l.bits (map val_of l.values)
