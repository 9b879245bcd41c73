use Rattle.std.proofs.Common.{◌≡◌, drop}
use Rattle.scan_plans.specs.PlanData.{plans_of}
use Rattle.scan_readers.specs.Kept.{find_plan}
use Rattle.scan_readers.proofs.kept.find_among.Given as goal

abbrev pub invariant-loop-plan : goal.invariant-loop-plan
invariant-loop-plan l = find_plan (plans_of l.plans) l.expr ≡ find_plan (plans_of (drop l.plan-index l.plans)) l.expr
