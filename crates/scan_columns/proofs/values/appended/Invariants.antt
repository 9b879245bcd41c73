use Rattle.std.proofs.Common.{◌≡◌, ◌++◌, map}
use Rattle.std.specs.Vec.Iter.{into_iter_items}
use Rattle.scan_values.specs.Values.{val_of}
use Rattle.scan_columns.proofs.values.appended.Given as goal

abbrev pub invariant-loop-value : goal.invariant-loop-value
invariant-loop-value l = map val_of l.made.items ++ map val_of (into_iter_items l.value-iterator) ≡ map val_of l.fn.values.items ++ map val_of l.fn.others.items
