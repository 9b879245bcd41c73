use Rattle.std.proofs.lemmas.Result.{err_from_is_err_and}
use Rattle.scan_plans.proofs.Nodes.{over_ok, over_fault}
use Rattle.scan_plans.proofs.reading.joined.Goals as goal

pub returns-in_err-evaluate_over : goal.returns-in_err-evaluate_over
returns-in_err-evaluate_over c = λ ps here is h l.
    let q = err_from_is_err_and c.from_residual.result c.from_residual.ensures.1 in
    rw (q.1, q.2) (over_fault c.args.root.now.scope c.args.root.now.expr ps here is c.args.parts.items c.args.len c.evaluate_over.result c.in_err-evaluate_over.field-0.0 c.requires.rows c.in_err-evaluate_over.was c.evaluate_over.ensures.overflow h l)

pub returns : goal.returns
returns c = λ ps here is h l. over_ok c.args.root.now.scope c.args.root.now.expr ps here is c.args.parts.items c.args.len c.in_ok-evaluate_over.field-0 c.requires.rows c.in_ok-evaluate_over.ensures.dtype c.in_ok-evaluate_over.ensures.items c.in_ok-evaluate_over.ensures.within h l
