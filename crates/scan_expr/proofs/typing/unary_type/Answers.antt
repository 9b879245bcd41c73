use Rattle.scan_expr.proofs.Choices.{chosen_within, without_within}
use Rattle.scan_expr.proofs.Placing.{item_type}
use Rattle.scan_expr.proofs.typing.unary_type.Goals as goal

pub struct_within-requires : goal.struct_within-requires
struct_within-requires c =
    rw (c.in_ok-picked-in-Select.ensures, c.struct_fields-in-Select.ensures.fields) (chosen_within c.in-Select.names c.args.dtype.now c.struct_fields-in-Select.ensures.depth)

pub struct_within-requires-in-Exclude : goal.struct_within-requires-in-Exclude
struct_within-requires-in-Exclude c =
    rw (c.in_ok-left-in-Exclude.ensures, c.struct_fields-in-Exclude.ensures.fields) (without_within c.in-Exclude.names c.args.dtype.now c.struct_fields-in-Exclude.ensures.depth)

pub returns-in_ok-dtype_at-in-GetItem : goal.returns-in_ok-dtype_at-in-GetItem
returns-in_ok-dtype_at-in-GetItem c =
    rw (c.raised.ensures, c.nullability-n.ensures, c.in_ok-dtype_at-in-GetItem.ensures)
    (item_type c.args.op.now c.in-GetItem.field-0 c.args.dtype.now c.struct_fields.result.now c.args.places.now c.in-GetItem.is c.struct_fields.ensures.fields c.requires.placed)
