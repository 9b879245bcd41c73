use Rattle.std.proofs.Common.{◌≡◌, rules, subst, sym}
use Rattle.scan_expr.specs.Bound.{bound_conjuncts}
use Rattle.scan_plans.specs.PlanData.{plans_of}
use Rattle.scan_readers.specs.RowIdxData.{numbered_state}
use Rattle.scan_core.specs.BuilderData.{AreFilters}
use Rattle.scan_core.specs.SplitMeaning.{ArePlansOf}
use Rattle.scan_core.proofs.Conjuncts.{conjuncts_are_filters}
use Rattle.scan_core.proofs.Turning.{turned_ok}
use Rattle.scan_core.proofs.planning.plan_conjuncts.Goals as goal

pub plan_each-requires-clause-filters : goal.plan_each-requires-clause-filters
plan_each-requires-clause-filters g c =
    let d = (g.R.LayoutReader.state c.args.reader.now).dtype in
    let these : c.deref.result.now ≡ bound_conjuncts c.args.filter.now = search rules in
    subst (AreFilters d) (sym these) (conjuncts_are_filters d c.args.filter.now c.requires.filter)

pub returns-clause-plans : goal.returns-clause-plans
returns-clause-plans g c =
    let s = numbered_state c.args.row_offset (g.R.LayoutReader.state c.args.reader.now) in
    let plans : ArePlansOf s (bound_conjuncts c.args.filter.now) (plans_of c.in_ok-plans.plans.items) = search rules in
    turned_ok (λ v. v.items) s (bound_conjuncts c.args.filter.now) (plans_of c.in_ok-plans.plans.items) c.numbered_first.result plans c.numbered_first.ensures
