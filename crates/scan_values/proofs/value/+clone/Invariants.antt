use Rattle.std.proofs.Common.{◌≡◌, take, map}
use Rattle.scan_values.specs.Values.{val_of}
use Rattle.scan_values.proofs.value.+clone.Given as goal

abbrev pub invariant-Values::try_clone-loop-value : goal.invariant-Values::try_clone-loop-value
invariant-Values::try_clone-loop-value l = map val_of l.items.items ≡ map val_of (take l.value-index l.value-items)
