use Rattle.std.proofs.Common.{◌≡◌, drop, ◌++◌}
use Rattle.scan_plans.specs.PlanData.{EachPlan, plans_of}
use Rattle.scan_streams.specs.Plans.{filters_from, IsConjunct}
use Rattle.scan_streams.proofs.plans.filtered.Given as goal

abbrev pub invariant-loop-conjunct : goal.invariant-loop-conjunct
invariant-loop-conjunct l =
    (l.left.known ≡ l.fn.mask.known)
    × (l.left.filters ++ filters_from l.range.start (plans_of (drop l.conjunct-index l.conjuncts)) ≡ l.fn.mask.filters ++ filters_from l.range.start (plans_of l.conjuncts))
    × EachPlan (IsConjunct l.range.end) (plans_of (drop l.conjunct-index l.conjuncts))
