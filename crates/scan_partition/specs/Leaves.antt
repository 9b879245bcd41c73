-- What a contract sees of a plan over the struct that its root reads.
use Rattle.std.specs.Prelude.{ℕ, List, map, drop}
use Rattle.scan_values.specs.DataType.{DataType}
use Rattle.scan_partition.specs.Partition.{Group, Leaf}
use Rattle.scan_partition.specs.Plans.{group_seen, leaf_seen}
use Rattle.scan_partition.specs.declared.leaves.Leaves.{Leaves}

abbrev pub groups_in : Leaves → List Group
groups_in p = map group_seen p.plan.now.groups.items

abbrev pub leaves_from : ℕ → Leaves → List Leaf
leaves_from at p = map leaf_seen (drop at p.plan.now.leaves.items)

abbrev pub scope_in : Leaves → DataType
scope_in p = p.scope.now.value
