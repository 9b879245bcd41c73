use Rattle.std.proofs.Common.{◌≡◌, ap, ◌∙◌, rules}
use mir.Val.{of_z, to_z}
use mir.Syntax.{w128}
use Rattle.scan_values.specs.DataType.{int_type}
use Rattle.scan_values.specs.Val.{int_val}
use Rattle.scan_values.specs.declared.ptype.Nullability.TheVariants.{NonNullable}
use Rattle.scan_expr.specs.Expr.{literal}
use Rattle.scan_conditions.proofs.Operands.{literal_made}
use Rattle.scan_conditions.proofs.operand.literal_beside.Goals as goal

pub returns-then-holds : goal.returns-then-holds
returns-then-holds c =
    let back : to_z w128 (of_z w128 c.args.number) ≡ c.args.number = search rules in
    literal_made c.args.rows.now c.args.number c.args.e.now c.lit_int.result c.in_ok-ptype.ptype c.in_ok-ptype.ensures (c.lit_int.ensures ∙ ap (λ z. literal (int_type c.in_ok-ptype.ptype NonNullable) (int_val z)) back)
