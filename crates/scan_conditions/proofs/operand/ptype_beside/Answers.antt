use Rattle.scan_expr.specs.Typing.{bind_fault}
use Rattle.scan_conditions.proofs.Operands.{ptype_bound}
use Rattle.scan_conditions.proofs.operand.ptype_beside.Goals as goal

pub returns-in-Some : goal.returns-in-Some
returns-in-Some c =
    ptype_bound c.args.rows.now c.args.e.now (bind_fault c.args.rows.now c.args.e.now) c.in-Ok.bound c.dtype.result.now c.in-Some.ptype (c.in-Ok.ensures (λ h. cc)) c.dtype.ensures.dtype c.in-Some.ensures
