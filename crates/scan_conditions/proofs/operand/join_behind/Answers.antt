use Rattle.std.proofs.Common.{◌≡◌, ℤ, Some, ap, ◌∙◌, rules, subst}
use mir.Val.{of_z, to_z}
use mir.Syntax.{w128}
use Rattle.scan_expr.specs.Expr.{binary}
use Rattle.scan_conditions.specs.Reads.{said_of}
use Rattle.scan_conditions.specs.Written.{binary_of, joined_said, literal_beside, typed}
use Rattle.scan_conditions.proofs.Operands.{number_behind, said_as}
use Rattle.scan_conditions.proofs.operand.join_behind.Goals as goal

pub returns-in-Typed : goal.returns-in-Typed
returns-in-Typed c =
    let s = c.args.rows.now in
    said_as c.join_typed.result (joined_said s c.args.op (typed c.args.first) (said_of c.args.second)) (typed (binary (binary_of c.args.op) c.args.first c.in-Typed.second))
    (ap (λ o. joined_said s c.args.op (typed c.args.first) (said_of o)) c.in-Typed.is) c.join_typed.ensures

pub returns-in_ok-second-in-Number : goal.returns-in_ok-second-in-Number
returns-in_ok-second-in-Number c =
    let s = c.args.rows.now in
    let n = c.in-Number.number in
    let back : to_z w128 (of_z w128 n) ≡ n = search rules in
    let beside = subst (λ (z : ℤ). literal_beside s z c.args.first ≡ Some c.in_ok-second-in-Number.second) back c.in_ok-second-in-Number.ensures in
    said_as c.join_typed-in-Number.result (joined_said s c.args.op (typed c.args.first) (said_of c.args.second)) (typed (binary (binary_of c.args.op) c.args.first c.in_ok-second-in-Number.second))
    (ap (λ o. joined_said s c.args.op (typed c.args.first) (said_of o)) c.in-Number.is ∙ number_behind s c.args.op c.args.first c.in_ok-second-in-Number.second n beside) c.join_typed-in-Number.ensures
