use Rattle.std.proofs.Common.{map, ap}
use Rattle.scan_expr.specs.Bound.{bound_of}
use Rattle.scan_expr.specs.Typing.{bind_fault}
use Rattle.scan_conditions.specs.Parts.{part_of}
use Rattle.scan_conditions.proofs.Faultless.{faultless}
use Rattle.scan_conditions.proofs.Steps.{even, selection_said}
use Rattle.scan_conditions.proofs.selection.read_selection.Goals as goal

pub pack-expression-requires : goal.pack-expression-requires
pack-expression-requires c = even (map part_of c.as_slice.result.now) c.in_ok-selected.selected.names.items c.in_ok-selected.selected.fields.items c.in_ok-selected.ensures

pub returns-in-Ok-clause-says : goal.returns-in-Ok-clause-says
returns-in-Ok-clause-says c =
    selection_said c.args.text.now (map part_of c.in_ok-parts.parts.items) (map part_of c.as_slice.result.now) c.in_ok-selected.selected.names.items c.in_ok-selected.selected.fields.items c.pack-expression.result (ap (map part_of) c.as_slice.ensures.value)
    c.in_ok-parts.ensures c.in_ok-selected.ensures c.pack-expression.ensures

pub returns-in-Ok-clause-binds : goal.returns-in-Ok-clause-binds
returns-in-Ok-clause-binds c =
    faultless (bind_fault c.args.rows.now c.pack-expression.result) (bound_of c.args.rows.now c.pack-expression.result) c.in-Ok.field-0 (c.in-Ok.ensures (λ h. cc))
