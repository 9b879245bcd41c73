use Rattle.scan_plans.proofs.Fewer.{plans_rise}
use Rattle.scan_plans.proofs.laws.plans_want_no_more_for_less.Goals as goal

pub returns : goal.returns
returns c = plans_rise
