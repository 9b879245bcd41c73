use Rattle.scan_core.proofs.Turns.{turn_spoils}
use Rattle.scan_core.proofs.laws.order_of_conjuncts_spoils_no_more.Goals as goal

pub returns : goal.returns
returns c = turn_spoils
