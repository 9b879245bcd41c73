use Rattle.std.proofs.Common.{◌≡◌, ◌∙◌, ap, subst, Ok}
use Rattle.scan_plans.specs.Came.{came}
use Rattle.scan_plans.specs.Given.{Gives}
use Rattle.scan_plans.specs.Meaning.{true_rows}
use Rattle.scan_plans.specs.PlanData.{PlanData}
use Rattle.scan_plans.specs.PlanTree.{PlanTree}
use Rattle.scan_plans.specs.declared.given.Given.{Given}
use Rattle.scan_plans.specs.declared.given.Given.TheVariants.{Ready}
use Rattle.scan_plans.proofs.Filtering.{values_long, ran_well}
use Rattle.scan_plans.proofs.mask.run.Goals as goal

pub kept_rows-requires-clause-length : goal.kept_rows-requires-clause-length
kept_rows-requires-clause-length c =
    let here = came c.args.inbox.now in
    let bits = c.args.mask.now in
    let k = c.args.filter.now.first in
    let g : Gives c.node.result.now here (true_rows k bits) (Ok (Ready c.in-Ready.column)) = subst (λ (x : Given). Gives c.node.result.now here (true_rows k bits) (Ok x)) c.in-Ready.is c.in_ok-column.ensures in
    values_long c.node.result.now here k bits c.in-Ready.column g.1

pub returns-in_ok-kept_rows-in-Ready : goal.returns-in_ok-kept_rows-in-Ready
returns-in_ok-kept_rows-in-Ready c =
    let here = came c.args.inbox.now in
    let bits = c.args.mask.now in
    let k = c.args.filter.now.first in
    let tree : c.node.result.now ≡ (c.args.filter.now.plan.value).tree = c.node.ensures ∙ ap (λ (a : PlanData). a.tree) c.deref.ensures in
    let g : Gives c.node.result.now here (true_rows k bits) (Ok (Ready c.in-Ready.column)) = subst (λ (x : Given). Gives c.node.result.now here (true_rows k bits) (Ok x)) c.in-Ready.is c.in_ok-column.ensures in
    let h : Gives ((c.args.filter.now.plan.value).tree) here (true_rows k bits) (Ok (Ready c.in-Ready.column)) = subst (λ (p : PlanTree). Gives p here (true_rows k bits) (Ok (Ready c.in-Ready.column))) tree g in
    ran_well ((c.args.filter.now.plan.value).tree) here k bits c.in-Ready.column c.in_ok-kept_rows-in-Ready.field-0 h.0 h.1 c.in_ok-kept_rows-in-Ready.ensures
