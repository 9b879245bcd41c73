use Rattle.std.proofs.Common.{◌≡◌, take}
use Rattle.scan_values.specs.DataType.{Name}
use Rattle.scan_values.specs.NameFaults.{has_name}
use Rattle.scan_core.specs.NameSets.{is_seen}
use Rattle.scan_core.proofs.name_set.NameSet.of.Given as goal

abbrev pub invariant-loop-name : goal.invariant-loop-name
invariant-loop-name l = (n : Name) → is_seen l.seen n ≡ has_name n (take l.name-index l.name-items)
