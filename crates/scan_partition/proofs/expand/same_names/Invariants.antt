use Rattle.std.proofs.Common.{◌≡◌, take}
use Rattle.scan_partition.proofs.expand.same_names.Given as goal

abbrev pub invariant-loop-name : goal.invariant-loop-name
invariant-loop-name l = l.same.items ≡ take l.name-index l.names
