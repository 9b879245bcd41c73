use Rattle.scan_core.proofs.Giving.{splits_give}
use Rattle.scan_core.proofs.laws.splits_give_what_is_asked.Goals as goal

pub returns : goal.returns
returns g c = splits_give
