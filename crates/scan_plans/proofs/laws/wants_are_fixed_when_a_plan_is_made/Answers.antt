use Rattle.scan_plans.proofs.Wanting.{wants_may}
use Rattle.scan_plans.proofs.laws.wants_are_fixed_when_a_plan_is_made.Goals as goal

pub returns : goal.returns
returns c = wants_may
