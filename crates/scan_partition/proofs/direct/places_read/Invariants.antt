use Rattle.std.proofs.Common.{◌≡◌, ◌++◌, drop}
use Rattle.std.specs.Prelude.{option_map}
use Rattle.scan_expr.specs.Bound.{exprs_of}
use Rattle.scan_expr.specs.Infer.{struct_fields}
use Rattle.scan_partition.specs.Direct.{read_places}
use Rattle.scan_partition.proofs.direct.places_read.Given as goal

abbrev pub invariant-loop-part : goal.invariant-loop-part
invariant-loop-part l =
    option_map (λ js. l.read.items ++ js) (read_places (struct_fields l.scope) (exprs_of (drop l.part-index l.parts))) ≡ read_places (struct_fields l.scope) (exprs_of l.parts)
