use Rattle.scan_core.proofs.Turns.{turn_passes}
use Rattle.scan_core.proofs.laws.order_of_conjuncts_changes_no_row.Goals as goal

pub returns : goal.returns
returns c = turn_passes
