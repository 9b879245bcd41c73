use Rattle.std.proofs.Common.{ℕ, List, Option, Ok, subst}
use Rattle.std.proofs.lemmas.Result.{err_from_is_err_and}
use Rattle.scan_plans.specs.Came.{came}
use Rattle.scan_plans.specs.Given.{Lacks}
use Rattle.scan_plans.specs.Meaning.{true_rows}
use Rattle.scan_plans.specs.Wants.{wanted, Complete}
use Rattle.scan_plans.proofs.Giving.{gives_fault}
use Rattle.scan_plans.proofs.given.give.Goals as goal

pub returns-in_err-read-in-None : goal.returns-in_err-read-in-None
returns-in_err-read-in-None c =
    let here = came c.args.inbox.now in
    let is = true_rows c.args.first c.args.mask.now in
    let places = wanted c.args.node.now here is in
    let complete : Complete places here = subst (λ (o : Option (List ℕ)). Lacks c.args.node.now here is (Ok o)) c.in-None.is c.in_ok-ids.ensures in
    let q = err_from_is_err_and c.from_residual-in_err-read-in-None.result c.from_residual-in_err-read-in-None.ensures.1 in
    rw (q.1, q.2) (gives_fault c.args.node.now here is c.in_err-read-in-None.field-0.0 complete c.in_err-read-in-None.ensures)
