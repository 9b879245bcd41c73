use Rattle.std.proofs.Common.{◌≡◌, ◌+◌, ◌<◌, ◌++◌, ◌∷◌, [], List, length, rules, ap, sym, subst, ◌∙◌, arith}
use Rattle.scan_plans.specs.PlanData.{PlanData, plans_of}
use Rattle.scan_core.proofs.Turning.{Walked, pushed_plan, walk_end, walk_step}
use Rattle.scan_core.proofs.planning.plan_each.Goals as goal

pub loop-conjunct-preserved : goal.loop-conjunct-preserved
loop-conjunct-preserved g c =
    let s = g.R.LayoutReader.state in
    let l = c.loop-conjunct in
    let a = c.in_ok-plan_with_numbers.field-0 in
    let pushed : c.push.new.self.items ≡ l.plans.items ++ a ∷ [] = search (rules, c.in_ok-push.ensures.items) in
    let below : l.conjunct-index < length c.args.conjuncts.now = omega (arith, c.loop-conjunct-test.true) in
    let made = ap plans_of pushed ∙ pushed_plan l.plans.items a in
    subst (λ (ps : List PlanData). Walked c.args.row_offset (s c.args.reader.now) (s c.plan_with_numbers.new.child) c.args.conjuncts.now (l.conjunct-index + 1) ps) (sym made)
    (walk_step c.args.row_offset (s c.args.reader.now) (s l.reader) (s c.plan_with_numbers.new.child) c.args.conjuncts.now l.conjunct-index (plans_of l.plans.items)
    c.conjunct-item.result a.value l.invariant below c.conjunct-item.is c.in_ok-plan_with_numbers.ensures.same c.in_ok-plan_with_numbers.ensures.plan)

pub returns-clause-plans : goal.returns-clause-plans
returns-clause-plans g c = walk_end c.args.row_offset (g.R.LayoutReader.state c.args.reader.now) (g.R.LayoutReader.state c.loop-conjunct.reader) c.args.conjuncts.now c.loop-conjunct.conjunct-index (plans_of c.loop-conjunct.plans.items) c.loop-conjunct.invariant (omega (arith, c.loop-conjunct-test.false))
