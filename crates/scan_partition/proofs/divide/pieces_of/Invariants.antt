use Rattle.std.proofs.Common.{◌≡◌, map, take}
use Rattle.scan_partition.specs.Items.{item_name}
use Rattle.scan_partition.specs.Partition.{part_of}
use Rattle.scan_partition.specs.Divided.{type_of_part, group_part}
use Rattle.scan_partition.specs.Dividing.{parting}
use Rattle.scan_partition.specs.Plans.{group_seen}
use Rattle.scan_partition.proofs.divide.pieces_of.Given as goal

abbrev pub invariant-loop-group : goal.invariant-loop-group
invariant-loop-group l = record {
  items : l.items.items ≡ map (λ g. (group_seen g).0) (take l.group-index l.groups);
  names : l.names.items ≡ map (λ g. item_name (group_seen g).0) (take l.group-index l.groups);
  dtypes : l.dtypes.items ≡ map (λ g. type_of_part (parting l.how l.scope.value) (group_seen g).0 (part_of (group_seen g).1)) (take l.group-index l.groups);
  parts : l.parts.items ≡ map (λ g. group_part (parting l.how l.scope.value) (group_seen g)) (take l.group-index l.groups);
}
