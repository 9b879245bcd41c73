use Rattle.std.proofs.Common.{◌≡◌, ◌++◌, filter, length, not}
use Rattle.std.specs.Vec.Iter.{into_iter_items, into_iter_len}
use Rattle.scan_plans.specs.PlanData.{PlanData, plans_of}
use Rattle.scan_plans.specs.Pruning.{is_numbered}
use Rattle.scan_core.proofs.planning.numbered_first.Given as goal

abbrev pub invariant-loop-plan : goal.invariant-loop-plan
invariant-loop-plan l = record {
  len : into_iter_len l.plan-iterator ≡ length (into_iter_items l.plan-iterator);
  first : plans_of l.ordered.items ++ filter (λ (p : PlanData). is_numbered p.tree) (plans_of (into_iter_items l.plan-iterator)) ≡ filter (λ (p : PlanData). is_numbered p.tree) (plans_of l.fn.plans.items);
  rest : plans_of l.others.items ++ filter (λ (p : PlanData). not (is_numbered p.tree)) (plans_of (into_iter_items l.plan-iterator)) ≡ filter (λ (p : PlanData). not (is_numbered p.tree)) (plans_of l.fn.plans.items);
}
