use Rattle.scan_expr.specs.Expr.{binary}
use Rattle.scan_conditions.specs.Written.{binary_of}
use Rattle.scan_conditions.proofs.Operands.{said_now}
use Rattle.scan_conditions.proofs.operand.join_typed.Goals as goal

pub returns : goal.returns
returns c = said_now c.checked.result c.in_ok-e.e (binary (binary_of c.args.op) c.args.first c.args.second) c.in_ok-e.ensures c.checked.ensures
