use Rattle.std.proofs.Common.{◌≡◌, ◌++◌, drop, map}
use Rattle.scan_values.specs.Values.{val_of}
use Rattle.scan_columns.specs.Compared.{compare_val}
use Rattle.scan_columns.proofs.values.compared_values.Given as goal

abbrev pub invariant-loop-value : goal.invariant-loop-value
invariant-loop-value l =
    map val_of l.made.items ++ map (compare_val l.op l.literal) (map val_of (drop l.value-index l.values)) ≡ map (compare_val l.op l.literal) (map val_of l.values)
