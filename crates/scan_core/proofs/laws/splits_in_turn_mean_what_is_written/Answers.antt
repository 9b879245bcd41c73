use Rattle.scan_core.proofs.Written.{in_turn_as_written}
use Rattle.scan_core.proofs.laws.splits_in_turn_mean_what_is_written.Goals as goal

pub returns : goal.returns
returns c = in_turn_as_written
