use Rattle.std.proofs.Common.{filter, not}
use Rattle.std.specs.Vec.Iter.{into_iter_items, into_iter_len}
use Rattle.scan_plans.specs.PlanData.{PlanData, plans_of}
use Rattle.scan_plans.specs.Pruning.{is_numbered}
use Rattle.scan_core.proofs.Turning.{all_kept, joined_ok, none_left}
use Rattle.scan_core.proofs.planning.numbered_first.Goals as goal

pub returns : goal.returns
returns c =
    let l = c.loop-plan in
    let ps = plans_of c.args.plans.items in
    let first = filter (λ (p : PlanData). is_numbered p.tree) ps in
    let rest = filter (λ (p : PlanData). not (is_numbered p.tree)) ps in
    let none = none_left (into_iter_items l.plan-iterator) (into_iter_len l.plan-iterator) l.invariant.len c.in-None.ensures.steps.0 in
    let ordered = all_kept (λ (p : PlanData). is_numbered p.tree) (plans_of l.ordered.items) first (into_iter_items l.plan-iterator) none l.invariant.first in
    let others = all_kept (λ (p : PlanData). not (is_numbered p.tree)) (plans_of l.others.items) rest (into_iter_items l.plan-iterator) none l.invariant.rest in
    joined_ok (λ v. v.items) c.joined.result (plans_of l.ordered.items) (plans_of l.others.items) first rest ordered others c.joined.ensures
