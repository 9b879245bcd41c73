use Rattle.scan_plans.specs.PlanData.{plans_of}
use Rattle.scan_core.proofs.Turning.{Walked}
use Rattle.scan_core.proofs.planning.plan_each.Given as goal

abbrev pub invariant-loop-conjunct : goal.invariant-loop-conjunct
invariant-loop-conjunct g l = Walked l.fn.row_offset (g.R.LayoutReader.state l.fn.reader) (g.R.LayoutReader.state l.reader) l.conjuncts l.conjunct-index (plans_of l.plans.items)
