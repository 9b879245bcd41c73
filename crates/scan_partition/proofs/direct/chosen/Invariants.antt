use Rattle.std.proofs.Common.{◌≡◌, map, take}
use Rattle.scan_expr.specs.Infer.{struct_fields}
use Rattle.scan_partition.specs.Direct.{place}
use Rattle.scan_partition.proofs.direct.chosen.Given as goal

abbrev pub invariant-loop-name : goal.invariant-loop-name
invariant-loop-name l = l.fields.items ≡ map (place (struct_fields l.scope)) (take l.name-index l.name-items)
