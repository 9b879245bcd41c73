use Rattle.std.proofs.Common.{◌≡◌, [], ap, sym, subst, ◌∙◌}
use Rattle.scan_expr.specs.Bound.{Bound}
use Rattle.scan_expr.specs.Infer.{infer}
use Rattle.scan_plans.specs.PlanData.{PlanData, plan_data}
use Rattle.scan_readers.specs.KindView.{layout_of}
use Rattle.scan_readers.specs.LeafPlans.{layout_state}
use Rattle.scan_readers.specs.PlanOf.{IsPlanOf}
use Rattle.scan_readers.proofs.Keeping.{given_plan}
use Rattle.scan_readers.proofs.PlansOf.{reader_kept}
use Rattle.scan_readers.proofs.layout.Reader.make.Goals as goal

pub new-requires : goal.new-requires
new-requires g c = (c.in_ok-node.ensures.plan []).dtype ∙ ap (λ (b : Bound). infer b.scope b.expr) (sym c.in_ok-try_clone.ensures)

pub invariant_of-self-2 : goal.invariant_of-self-2
invariant_of-self-2 g c =
    let s = layout_state c.self.inside.name (layout_of c.self.inside.kind) in
    let e = c.args.expr.now in
    let q = c.in_ok-plan.plan.value in
    let is : q ≡ plan_data e c.in_ok-node.node = c.in_ok-plan.ensures.ok ∙ c.new.ensures ∙ ap (λ (b : Bound). plan_data b c.in_ok-node.node) c.in_ok-try_clone.ensures in
    let own : IsPlanOf s e q = subst (λ (z : PlanData). IsPlanOf s e z) (sym is) (c.in_ok-node.ensures.plan c.self.inside.name) in
    reader_kept c.self.inside.name (layout_of c.self.inside.kind) _ _ _ e q c.keep.result c.self.invariant c.in_ok-node.ensures.same own c.keep.ensures.ok c.keep.ensures.err

pub returns-clause-plan : goal.returns-clause-plan
returns-clause-plan g c =
    let s = layout_state c.self.inside.name (layout_of c.self.inside.kind) in
    let e = c.args.expr.now in
    let q = c.in_ok-plan.plan.value in
    let is : q ≡ plan_data e c.in_ok-node.node = c.in_ok-plan.ensures.ok ∙ c.new.ensures ∙ ap (λ (b : Bound). plan_data b c.in_ok-node.node) c.in_ok-try_clone.ensures in
    let own : IsPlanOf s e q = subst (λ (z : PlanData). IsPlanOf s e z) (sym is) (c.in_ok-node.ensures.plan c.self.inside.name) in
    rw (← c.self.view_is) (given_plan s e q c.keep.result own c.keep.ensures.plan)
