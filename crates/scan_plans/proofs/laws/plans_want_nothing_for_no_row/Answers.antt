use Rattle.scan_plans.proofs.Fewer.{none_wanted}
use Rattle.scan_plans.proofs.laws.plans_want_nothing_for_no_row.Goals as goal

pub returns : goal.returns
returns c = none_wanted
