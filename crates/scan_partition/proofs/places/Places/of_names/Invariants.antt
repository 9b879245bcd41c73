use Rattle.std.proofs.Common.{◌≡◌, ◌-◌, length}
use Rattle.scan_values.specs.DataType.{Name}
use Rattle.scan_partition.specs.declared.item.Item.TheVariants.{Field}
use Rattle.scan_partition.specs.Places.{place_of}
use Rattle.scan_partition.proofs.FirstPlaces.{from}
use Rattle.scan_partition.proofs.places.Places.of_names.Given as goal

abbrev pub invariant-loop-k : goal.invariant-loop-k
invariant-loop-k l = (n : Name) → place_of l.places (Field n) ≡ from (length l.names - l.k) l.names n
