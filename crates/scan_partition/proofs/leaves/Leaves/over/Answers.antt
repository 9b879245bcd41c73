use Rattle.std.proofs.Common.{ap, ◌∙◌}
use Rattle.scan_expr.specs.Bound.{bound_of}
use Rattle.scan_partition.specs.Items.{item_name}
use Rattle.scan_partition.specs.Partition.{Group}
use Rattle.scan_partition.proofs.FieldParts.{field_expr, field_bounds}
use Rattle.scan_partition.proofs.Pieces.{map_map}
use Rattle.scan_partition.proofs.leaves.Leaves.over.Goals as goal

pub invariant_of-result : goal.invariant_of-result
invariant_of-result c = record {
  made = c.in_ok-items.ensures ∙ ap (field_bounds c.args.scope.now.value) c.requires ∙ map_map (λ n. bound_of c.args.scope.now.value (field_expr n)) (λ (g : Group). item_name g.0) _;
}
