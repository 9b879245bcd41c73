use Rattle.std.proofs.Common.{◌∙◌}
use Rattle.scan_values.specs.Val.{marked}
use Rattle.scan_expr.specs.Lending.{lent_val}
use Rattle.scan_expr.proofs.Placing.{get_item-placed, select-placed, exclude-placed}
use Rattle.scan_expr.proofs.evaluate.unary_of.Goals as goal

pub returns-in-GetItem : goal.returns-in-GetItem
returns-in-GetItem c =
    c.get_item_of.ensures ∙ get_item-placed c.args.op.now c.in-GetItem.field-0 c.args.dtype.now c.args.places.now (marked (lent_val c.args.value)) c.in-GetItem.is c.requires.faultless c.requires.placed

pub returns-in-Select : goal.returns-in-Select
returns-in-Select c =
    c.in_ok-select_of-in-Select.ensures ∙ rw (c.as_value.ensures) (select-placed c.args.op.now c.in-Select.field-0 c.args.dtype.now c.args.places.now (marked (lent_val c.args.value)) c.in-Select.is c.requires.faultless c.requires.placed)

pub returns-in-Exclude : goal.returns-in-Exclude
returns-in-Exclude c =
    c.in_ok-exclude_of-in-Exclude.ensures ∙ rw (c.as_value-in-Exclude.ensures) (exclude-placed c.args.op.now c.in-Exclude.field-0 c.args.dtype.now c.args.places.now (marked (lent_val c.args.value)) c.in-Exclude.is c.requires.placed)
