use Rattle.std.proofs.Common.{◌≡◌, [], map, take}
use Rattle.scan_partition.specs.Partition.{groups_of}
use Rattle.scan_partition.specs.Planted.{numbered_cuts}
use Rattle.scan_partition.specs.Soles.{cut_seen}
use Rattle.scan_partition.specs.Plans.{group_seen, leaf_seen}
use Rattle.scan_partition.specs.Places.{ArePlaced}
use Rattle.scan_partition.proofs.groups.planned.Given as goal

abbrev pub invariant-loop-cut : goal.invariant-loop-cut
invariant-loop-cut l = record {
  groups : map group_seen l.groups.items ≡ groups_of (map cut_seen (take l.cut-index l.cuts));
  leaves : map leaf_seen l.leaves.items ≡ numbered_cuts [] (map cut_seen (take l.cut-index l.cuts));
  placed : ArePlaced l.places (map group_seen l.groups.items);
}
