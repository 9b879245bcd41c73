use Rattle.scan_core.proofs.Limiting.{streams_give}
use Rattle.scan_core.proofs.laws.streams_give_the_first_rows.Goals as goal

pub returns : goal.returns
returns g c = streams_give
