use Rattle.std.proofs.Common.{◌≡◌, ◌++◌, drop, map}
use Rattle.scan_values.specs.Values.{val_of}
use Rattle.scan_spelling.specs.Written.{flags}
use Rattle.scan_spelling.proofs.write.push_flags.Given as goal

abbrev pub invariant-loop-item : goal.invariant-loop-item
invariant-loop-item l = l.out.items ++ flags (map val_of (drop l.item-index l.items)) ≡ l.initial.out.items ++ flags (map val_of l.items)
