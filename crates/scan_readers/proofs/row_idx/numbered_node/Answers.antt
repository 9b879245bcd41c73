use borrow.Author.Rules.{rules}
use Rattle.std.proofs.Common.{◌≡◌, false, ap, sym, subst, ◌∙◌}
use Rattle.scan_expr.specs.Bound.{Bound}
use Rattle.scan_expr.specs.Expr.{uses_row_index}
use Rattle.scan_partition.specs.declared.row_idx.Partitioning.{Partitioning}
use Rattle.scan_partition.specs.declared.row_idx.Partitioning.TheVariants.{Both}
use Rattle.scan_partition.specs.Needing.{EachOfChild, RowSplitNeedsNoMore}
use Rattle.scan_partition.specs.RowSplit.{row_split, KeepsRows, AreOver}
use Rattle.scan_partition.proofs.RowNeeds.{row_parts_need}
use Rattle.scan_plans.specs.Formed.{IsNode}
use Rattle.scan_plans.specs.PlanData.{plan_data}
use Rattle.scan_plans.specs.PlanTree.{PlanTree, over, plans}
use Rattle.scan_readers.specs.PlanOf.{IsPlanOf}
use Rattle.scan_readers.specs.RowIdxData.{numbered_state}
use Rattle.scan_readers.proofs.RowPlans.{both_node, both_plan}
use Rattle.scan_readers.proofs.row_idx.numbered_node.Goals as goal

pub over-requires : goal.over-requires
over-requires g c =
    let s = g.R.LayoutReader.state c.args.child.now in
    let e = c.args.expr.now in
    let d = c.in-Both.parted in
    let ns = c.in_ok-nodes-in-Both.nodes in
    let exact : Both d ≡ row_split e.scope e.expr = sym c.in-Both.is ∙ c.in_ok-part.ensures.exact in
    let free : uses_row_index d.root.expr ≡ false = (subst (λ (p : Partitioning). AreOver e.scope p) c.in-Both.is c.in_ok-part.ensures.over).1 in
    let root : c.in_ok-root-in-Both.root ≡ d.root = search (rules, c.in_ok-root-in-Both.ensures, c.root.ensures) in
    subst (λ (b : Bound). IsNode (over b.scope b.expr (plans ns))) (sym root) (both_node s c.args.first e d ns c.requires.uses exact free c.in_ok-nodes-in-Both.ensures.plans)

pub returns-in_ok-nodes-in-Both-clause-plan : goal.returns-in_ok-nodes-in-Both-clause-plan
returns-in_ok-nodes-in-Both-clause-plan g c =
    let s = g.R.LayoutReader.state c.args.child.now in
    let e = c.args.expr.now in
    let d = c.in-Both.parted in
    let ns = c.in_ok-nodes-in-Both.nodes in
    let exact : Both d ≡ row_split e.scope e.expr = sym c.in-Both.is ∙ c.in_ok-part.ensures.exact in
    let keeps : KeepsRows e (Both d) = subst (λ (p : Partitioning). KeepsRows e p) c.in-Both.is c.in_ok-part.ensures.joined in
    let lies : EachOfChild e d.items d.parts = subst (λ (p : Partitioning). RowSplitNeedsNoMore e p) (sym exact) (row_parts_need e) in
    let root : c.in_ok-root-in-Both.root ≡ d.root = search (rules, c.in_ok-root-in-Both.ensures, c.root.ensures) in
    let made : c.over.result ≡ over d.root.scope d.root.expr (plans ns) = c.over.ensures ∙ ap (λ (b : Bound). over b.scope b.expr (plans ns)) root in
    subst (λ (n : PlanTree). IsPlanOf (numbered_state c.args.first s) e (plan_data e n)) (sym made) (both_plan s c.args.first e d ns c.requires.uses exact keeps lies c.in_ok-nodes-in-Both.ensures.plans)
