use Rattle.std.proofs.Common.{ap, ◌∙◌}
use Rattle.scan_expr.specs.declared.op.Unary.TheVariants.{GetItem}
use Rattle.scan_expr.specs.Typing.{unary_fault}
use Rattle.scan_partition.proofs.leaves.item_access.Goals as goal

pub field_root-requires : goal.field_root-requires
field_root-requires c = ap (λ n. unary_fault (GetItem n) c.args.scope.now.value) c.in_ok-name_of.ensures ∙ c.requires
