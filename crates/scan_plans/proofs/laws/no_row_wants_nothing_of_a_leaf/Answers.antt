use Rattle.scan_plans.proofs.Pruned.{no_row_wants}
use Rattle.scan_plans.proofs.laws.no_row_wants_nothing_of_a_leaf.Goals as goal

pub returns : goal.returns
returns c = no_row_wants
