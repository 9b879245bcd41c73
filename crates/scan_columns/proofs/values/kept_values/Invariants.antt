use Rattle.std.proofs.Common.{◌≡◌, ◌++◌, drop, map}
use Rattle.std.specs.List.{items_where_true}
use Rattle.scan_values.specs.Values.{val_of}
use Rattle.scan_columns.proofs.values.kept_values.Given as goal

abbrev pub invariant-loop-i : goal.invariant-loop-i
invariant-loop-i l =
    map val_of l.items.items ++ items_where_true (drop l.i l.bits) (map val_of (drop l.i l.values)) ≡ items_where_true l.bits (map val_of l.values)
