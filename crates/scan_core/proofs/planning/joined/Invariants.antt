use Rattle.std.proofs.Common.{◌≡◌, ◌++◌}
use Rattle.std.specs.Vec.Iter.{into_iter_items}
use Rattle.scan_plans.specs.PlanData.{plans_of}
use Rattle.scan_core.proofs.planning.joined.Given as goal

abbrev pub invariant-loop-plan : goal.invariant-loop-plan
invariant-loop-plan l = plans_of l.joined.items ++ plans_of (into_iter_items l.plan-iterator) ≡ plans_of l.fn.plans.items ++ plans_of l.fn.others.items
