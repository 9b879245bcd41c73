use Rattle.scan_plans.proofs.Pruned.{leaves_rise}
use Rattle.scan_plans.proofs.laws.leaves_want_no_more_for_less.Goals as goal

pub returns : goal.returns
returns c = leaves_rise
