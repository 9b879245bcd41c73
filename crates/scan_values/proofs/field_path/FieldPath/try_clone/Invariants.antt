use Rattle.std.proofs.Common.{◌≡◌, take}
use Rattle.scan_values.proofs.field_path.FieldPath.try_clone.Given as goal

abbrev pub invariant-loop-name : goal.invariant-loop-name
invariant-loop-name l = l.names.items ≡ take l.name-index l.from
