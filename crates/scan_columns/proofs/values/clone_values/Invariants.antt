use Rattle.std.proofs.Common.{◌≡◌, take, map}
use Rattle.scan_values.specs.Values.{val_of}
use Rattle.scan_columns.proofs.values.clone_values.Given as goal

abbrev pub invariant-loop-value : goal.invariant-loop-value
invariant-loop-value l = map val_of l.items.items ≡ map val_of (take l.value-index l.values)
