use Rattle.scan_core.proofs.Turns.{turn_wants}
use Rattle.scan_core.proofs.laws.order_of_conjuncts_wants_no_more.Goals as goal

pub returns : goal.returns
returns c = turn_wants
