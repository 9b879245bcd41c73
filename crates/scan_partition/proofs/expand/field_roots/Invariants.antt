use Rattle.std.proofs.Common.{◌≡◌, take}
use Rattle.scan_partition.proofs.FieldParts.{field_bounds}
use Rattle.scan_partition.proofs.expand.field_roots.Given as goal

abbrev pub invariant-loop-name : goal.invariant-loop-name
invariant-loop-name l = l.fields.items ≡ field_bounds l.scope.value (take l.name-index l.names)
