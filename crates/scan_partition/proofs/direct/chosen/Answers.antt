use Rattle.std.proofs.Common.{◌∙◌, ap, map}
use Rattle.scan_expr.specs.Infer.{struct_fields}
use Rattle.scan_partition.specs.Direct.{place}
use Rattle.scan_partition.proofs.Loops.{map_done}
use Rattle.scan_partition.proofs.Placing.{chosen_is}
use Rattle.scan_partition.proofs.direct.chosen.Goals as goal

pub returns : goal.returns
returns c =
    let fs = struct_fields c.args.scope.now in
    chosen_is fs c.args.names c.loop-name.fields.items
    (map_done (place fs) c.as_slice-name-items.result.now c.loop-name.fields.items c.loop-name.name-index c.loop-name-test.false c.loop-name.invariant ∙ ap (map (place fs)) c.as_slice-name-items.ensures)
