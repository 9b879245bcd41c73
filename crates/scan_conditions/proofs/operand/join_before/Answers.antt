use Rattle.std.proofs.Common.{◌≡◌, ℤ, Some, ap, ◌∙◌, rules, subst}
use mir.Val.{of_z, to_z}
use mir.Syntax.{w128}
use Rattle.scan_expr.specs.Expr.{binary}
use Rattle.scan_conditions.specs.Reads.{said_of}
use Rattle.scan_conditions.specs.Written.{binary_of, joined_said, literal_beside, typed, untyped}
use Rattle.scan_conditions.proofs.Operands.{number_before, said_as}
use Rattle.scan_conditions.proofs.operand.join_before.Goals as goal

pub returns-in_ok-first-in-Typed : goal.returns-in_ok-first-in-Typed
returns-in_ok-first-in-Typed c =
    let s = c.args.rows.now in
    let n = c.args.number in
    let back : to_z w128 (of_z w128 n) ≡ n = search rules in
    let beside = subst (λ (z : ℤ). literal_beside s z c.in-Typed.second ≡ Some c.in_ok-first-in-Typed.first) back c.in_ok-first-in-Typed.ensures in
    said_as c.join_typed.result (joined_said s c.args.op (untyped n) (said_of c.args.second)) (typed (binary (binary_of c.args.op) c.in_ok-first-in-Typed.first c.in-Typed.second))
    (ap (λ o. joined_said s c.args.op (untyped n) (said_of o)) c.in-Typed.is ∙ number_before s c.args.op c.in_ok-first-in-Typed.first c.in-Typed.second n beside) c.join_typed.ensures
