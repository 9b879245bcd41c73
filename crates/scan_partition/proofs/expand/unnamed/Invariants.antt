use Rattle.std.proofs.Common.{◌≡◌, take}
use Rattle.scan_partition.specs.Expand.{unnamed}
use Rattle.scan_partition.proofs.expand.unnamed.Given as goal

abbrev pub invariant-loop-name : goal.invariant-loop-name
invariant-loop-name l = l.left.items ≡ unnamed l.others (take l.name-index l.names)
