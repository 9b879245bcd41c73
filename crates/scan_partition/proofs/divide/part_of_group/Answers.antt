use Rattle.std.proofs.Common.{◌≡◌, ap, ◌∙◌}
use Rattle.scan_values.specs.DataType.{DataType}
use Rattle.scan_expr.specs.Infer.{struct_fields}
use Rattle.scan_partition.specs.Rows.{item_type}
use Rattle.scan_partition.specs.Soles.{item_seen}
use Rattle.scan_partition.proofs.Loops.{if_ok}
use Rattle.scan_partition.proofs.Kept.{kept_fits, kept_part, stepped_fits, stepped_part}
use Rattle.scan_partition.proofs.divide.part_of_group.Goals as goal

pub part_over-requires : goal.part_over-requires
part_over-requires c = kept_fits c.args.how c.args.scope.now.value c.args.group.now c.deref.result.now c.in-Kept.is c.deref.ensures.value c.requires

pub returns-in-Kept : goal.returns-in-Kept
returns-in-Kept c = if_ok _ _ c.part_over.result (λ b h. h ∙ kept_part c.args.how c.args.scope.now.value c.args.group.now c.deref.result.now c.in-Kept.is c.deref.ensures.value) c.part_over.ensures

pub part_over-requires-in-Stepped : goal.part_over-requires-in-Stepped
part_over-requires-in-Stepped c =
    let t : c.in_ok-over-in-Stepped.over.value ≡ item_type (struct_fields c.args.scope.now.value) (item_seen c.args.group.now.item) =
    c.in_ok-over-in-Stepped.ensures.ok ∙ c.in_ok-dtype-in-Stepped.ensures ∙ ap (λ (d : DataType). item_type (struct_fields d) (item_seen c.args.group.now.item)) c.deref-in-Stepped.ensures in
    stepped_fits c.args.how c.args.scope.now.value c.in_ok-over-in-Stepped.over.value c.args.group.now c.deref-in-Stepped-2.result.now c.in-Stepped.is t c.deref-in-Stepped-2.ensures.value c.requires

pub returns-in_ok-over-in-Stepped : goal.returns-in_ok-over-in-Stepped
returns-in_ok-over-in-Stepped c =
    let t : c.in_ok-over-in-Stepped.over.value ≡ item_type (struct_fields c.args.scope.now.value) (item_seen c.args.group.now.item) =
    c.in_ok-over-in-Stepped.ensures.ok ∙ c.in_ok-dtype-in-Stepped.ensures ∙ ap (λ (d : DataType). item_type (struct_fields d) (item_seen c.args.group.now.item)) c.deref-in-Stepped.ensures in
    if_ok _ _ c.part_over-in-Stepped.result (λ b h. h ∙ stepped_part c.args.how c.args.scope.now.value c.in_ok-over-in-Stepped.over.value c.args.group.now c.deref-in-Stepped-2.result.now c.in-Stepped.is t c.deref-in-Stepped-2.ensures.value) c.part_over-in-Stepped.ensures
