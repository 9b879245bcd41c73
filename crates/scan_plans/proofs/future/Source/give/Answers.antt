use Rattle.std.proofs.Common.{◌≡◌, ◌∙◌, List, Bool, Ok, ap, subst, sym}
use Rattle.scan_plans.specs.Came.{came}
use Rattle.scan_plans.specs.FutureView.{source_tree, source_first, source_mask}
use Rattle.scan_plans.specs.Given.{Gives}
use Rattle.scan_plans.specs.Meaning.{true_rows}
use Rattle.scan_plans.specs.PlanData.{PlanData}
use Rattle.scan_plans.specs.PlanTree.{PlanTree}
use Rattle.scan_plans.specs.Projecting.{as_given}
use Rattle.scan_plans.specs.declared.future.Source.{Source}
use Rattle.scan_plans.specs.declared.given.Given.TheVariants as given
use Rattle.scan_plans.proofs.Projections.{array_gives}
use Rattle.scan_plans.proofs.future.Source.give.Goals as goal

pub returns-in_ok-given-in-Plan : goal.returns-in_ok-given-in-Plan
returns-in_ok-given-in-Plan c =
    let here = came c.args.inbox.now in
    let r = as_given (Ok c.as_items.result) in
    let first = c.in-Plan.first in
    let tree : c.node.result.now ≡ (c.in-Plan.plan.value).tree = c.node.ensures ∙ ap (λ (a : PlanData). a.tree) c.deref.ensures in
    let g : Gives c.node.result.now here (true_rows first c.known.result.now) r = c.as_items.ensures c.node.result.now here (true_rows first c.known.result.now) c.in_ok-given-in-Plan.ensures in
    let h : Gives ((c.in-Plan.plan.value).tree) here (true_rows first c.known.result.now) r = subst (λ (p : PlanTree). Gives p here (true_rows first c.known.result.now) r) tree g in
    let i : Gives ((c.in-Plan.plan.value).tree) here (true_rows first (c.in-Plan.mask).known) r = subst (λ (m : List Bool). Gives ((c.in-Plan.plan.value).tree) here (true_rows first m) r) c.known.ensures h in
    subst (λ (s : Source). Gives (source_tree s) here (true_rows (source_first s) (source_mask s).known) r) (sym c.in-Plan.is) i

pub returns-in_ok-column_of-in-Array : goal.returns-in_ok-column_of-in-Array
returns-in_ok-column_of-in-Array c =
    let here = came c.args.inbox.now in
    let b = c.in_ok-column_of-in-Array.field-0 in
    subst (λ (s : Source). Gives (source_tree s) here (true_rows (source_first s) (source_mask s).known) (Ok (given.Ready b))) (sym c.in-Array.is) (array_gives here c.in-Array.array b c.in_ok-column_of-in-Array.ensures)
