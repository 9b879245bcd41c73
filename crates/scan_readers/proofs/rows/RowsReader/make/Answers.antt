use Rattle.std.proofs.Common.{rules, ◌≡◌}
use Rattle.scan_plans.specs.PlanData.{PlanData}
use Rattle.scan_readers.specs.PlanOf.{IsPlanOf}
use Rattle.scan_readers.specs.RowsData.{rows_state}
use Rattle.scan_readers.proofs.Keeping.{kept_each, own_plan, given_plan}
use Rattle.scan_readers.proofs.PlansOf.{rows_made}
use Rattle.scan_readers.proofs.rows.RowsReader.make.Goals as goal

pub invariant_of-self : goal.invariant_of-self
invariant_of-self c =
    let a = (c.self.inside.array).value in
    let s = rows_state c.self.inside.name a in
    let q = c.in_ok-plan.plan.value in
    let same : (c.in_ok-clone.field-0).value ≡ a = search rules in
    let own : IsPlanOf s c.args.expr.now q = rows_made c.self.inside.name a (c.in_ok-clone.field-0).value c.args.expr.now c.in_ok-try_clone.field-0 q same c.in_ok-try_clone.ensures c.in_ok-plan.ensures in
    kept_each (λ (p : PlanData). IsPlanOf s p.expr p) c.self.inside.kept c.keep.new.self q c.keep.result c.self.invariant (own_plan s c.args.expr.now q own) c.keep.ensures.ok c.keep.ensures.err

pub returns-clause-plan : goal.returns-clause-plan
returns-clause-plan c =
    let a = (c.self.inside.array).value in
    let s = rows_state c.self.inside.name a in
    let q = c.in_ok-plan.plan.value in
    let same : (c.in_ok-clone.field-0).value ≡ a = search rules in
    let own : IsPlanOf s c.args.expr.now q = rows_made c.self.inside.name a (c.in_ok-clone.field-0).value c.args.expr.now c.in_ok-try_clone.field-0 q same c.in_ok-try_clone.ensures c.in_ok-plan.ensures in
    rw (← c.self.view_is) (given_plan s c.args.expr.now q c.keep.result own c.keep.ensures.plan)
