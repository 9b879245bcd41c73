use Rattle.std.proofs.lemmas.Result.{err_from_is_err_and}
use Rattle.scan_plans.proofs.Nodes.{evaluate_ok, evaluate_fault}
use Rattle.scan_plans.proofs.reading.evaluated.Goals as goal

pub returns-in_err-evaluate_owned : goal.returns-in_err-evaluate_owned
returns-in_err-evaluate_owned c = λ p here is h.
    let q = err_from_is_err_and c.from_residual.result c.from_residual.ensures.1 in
    let d = c.args.expr.now.scope in
    rw (q.1, q.2) (evaluate_fault d c.args.expr.now.expr p here is c.args.column c.evaluate_owned.result c.in_err-evaluate_owned.field-0.0 c.in_err-evaluate_owned.was c.evaluate_owned.ensures.overflow h)

pub returns : goal.returns
returns c = λ p here is h. evaluate_ok c.args.expr.now.scope c.args.expr.now.expr p here is c.args.column c.in_ok-evaluate_owned.field-0 c.in_ok-evaluate_owned.ensures.dtype c.in_ok-evaluate_owned.ensures.items c.in_ok-evaluate_owned.ensures.within h
