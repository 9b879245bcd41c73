use Rattle.std.proofs.Common.{◌≡◌, ◌++◌, drop, map}
use Rattle.scan_values.specs.Values.{val_of}
use Rattle.scan_plans.specs.ListItems.{number_of}
use Rattle.scan_plans.proofs.lists.numbers.Given as goal

abbrev pub invariant-loop-value : goal.invariant-loop-value
invariant-loop-value l = l.made.items ++ map number_of (map val_of (drop l.value-index l.values)) ≡ map number_of (map val_of l.values)
