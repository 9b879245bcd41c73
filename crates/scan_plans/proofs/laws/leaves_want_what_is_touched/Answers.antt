use Rattle.scan_plans.proofs.Wanting.{leaves_touch}
use Rattle.scan_plans.proofs.laws.leaves_want_what_is_touched.Goals as goal

pub returns : goal.returns
returns c = leaves_touch
